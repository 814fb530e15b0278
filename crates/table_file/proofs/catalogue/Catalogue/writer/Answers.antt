use Rattle.std.proofs.Common.{◌≡◌, slice_get, Some, subst, ℕ}
use Rattle.table_file.specs.Tables.{entry_of}
use Rattle.table_file.proofs.Growth.{entry_there}
use Rattle.table_file.proofs.Lists.{item_is}
use Rattle.table_file.proofs.Writers.{Begins, begins_added, begins_behind, begins_counted}
use Rattle.table_file.proofs.catalogue.Catalogue.writer.Goals as goal

pub returns-clause-counted : goal.returns-clause-counted
returns-clause-counted c = λ t there.
    let entry = c.index-as_slice-table.result in
    let is = item_is c.args.self.now.tables c.as_slice.result.now c.args.table entry (entry_of t) c.index-as_slice-table.is c.as_slice.ensures there in
    let begins : Begins entry c.behind.result = record { rows = c.behind.ensures.rows; page = c.behind.ensures.page; end = c.behind.ensures.end; written = c.behind.ensures.written } in
    begins_counted t entry c.behind.result is begins

pub returns-clause-has : goal.returns-clause-has
returns-clause-has c = λ t m there stand.
    let entry = c.index-as_slice-table.result in
    let is = item_is c.args.self.now.tables c.as_slice.result.now c.args.table entry (entry_of t) c.index-as_slice-table.is c.as_slice.ensures there in
    let begins : Begins entry c.behind.result = record { rows = c.behind.ensures.rows; page = c.behind.ensures.page; end = c.behind.ensures.end; written = c.behind.ensures.written } in
    begins_added t.columns t.rows c.args.table c.behind.result m (begins_counted t entry c.behind.result is begins) c.behind.ensures.written c.behind.ensures.table stand

pub returns-clause-behind : goal.returns-clause-behind
returns-clause-behind c = λ s told t there.
    let here = subst (λ (n : ℕ). slice_get s.tables n ≡ Some t) c.behind.ensures.table there in
    let entry = c.index-as_slice-table.result in
    let is = item_is c.args.self.now.tables c.as_slice.result.now c.args.table entry (entry_of t) c.index-as_slice-table.is c.as_slice.ensures (entry_there s c.args.self.now c.args.table t told here) in
    let begins : Begins entry c.behind.result = record { rows = c.behind.ensures.rows; page = c.behind.ensures.page; end = c.behind.ensures.end; written = c.behind.ensures.written } in
    begins_behind t c.behind.result (begins_counted t entry c.behind.result is begins) c.behind.ensures.written
