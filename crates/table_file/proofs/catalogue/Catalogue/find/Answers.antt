use Rattle.std.proofs.Common.{◌≡◌, List, true, false, nat_eq, get_or, ap, sym, ◌∙◌, rules}
use Rattle.std.specs.Cmp.Lexicographic.{pointwise}
use Rattle.qsr_value.specs.Names.{same_name}
use Rattle.table_file.specs.declared.entries.TableEntry.{TableEntry}
use Rattle.table_file.proofs.Naming.{found_here, found_later}
use Rattle.table_file.proofs.catalogue.Catalogue.find.Goals as goal

pub returns-then-eq-clause-place : goal.returns-then-eq-clause-place
returns-then-eq-clause-place c =
    let entry = c.entry-item.result in
    let at = c.loop-table.table in
    let is : entry ≡ get_or c.args.self.now.tables at entry = c.entry-item.is ∙ ap (λ (l : List TableEntry). get_or l at entry) c.as_slice-entry-items.ensures in
    let same : same_name entry.name c.args.name.now ≡ true = ap (λ t. pointwise nat_eq t c.args.name.now) (sym c.as_str.ensures) ∙ sym c.eq.ensures ∙ c.if-eq.true in
    sym (found_here c.args.name.now c.args.self.now.tables at entry _ (search rules) is same c.loop-table.invariant)

pub loop-table-preserved : goal.loop-table-preserved
loop-table-preserved c =
    let entry = c.entry-item.result in
    let at = c.loop-table.table in
    let is : entry ≡ get_or c.args.self.now.tables at entry = c.entry-item.is ∙ ap (λ (l : List TableEntry). get_or l at entry) c.as_slice-entry-items.ensures in
    let other : same_name entry.name c.args.name.now ≡ false = ap (λ t. pointwise nat_eq t c.args.name.now) (sym c.as_str.ensures) ∙ sym c.eq.ensures ∙ c.if-eq.false in
    found_later c.args.name.now c.args.self.now.tables at entry _ (search rules) is other c.loop-table.invariant
