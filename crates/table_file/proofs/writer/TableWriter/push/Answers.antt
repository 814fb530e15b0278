use Rattle.std.proofs.Common.{◌≡◌, ◌≤◌, length, subst, sym, rules}
use Rattle.disk_model.proofs.Runs.{no_call, then_step}
use Rattle.page_store.specs.Store.{store_view}
use Rattle.table_file.specs.Appending.{IsBehind}
use Rattle.table_file.proofs.Standing.{tables_still}
use Rattle.table_file.proofs.Writing.{added_on_last, counted_on_last, full_means}
use Rattle.table_file.proofs.writer.TableWriter.push.Goals as goal

pub returns-in-Ok-clause-counted : goal.returns-in-Ok-clause-counted
returns-in-Ok-clause-counted g c = λ rows has.
    let within : c.put.new.self.end ≤ 4096 = search rules in
    counted_on_last c.args.schema.now rows c.args.row.now c.args.self.now c.put.new.self c.in-Ok.ensures.rows c.put.ensures.setup.1 c.in-Ok.ensures.end within has

pub returns-in-Ok-clause-added : goal.returns-in-Ok-clause-added
returns-in-Ok-clause-added g c = λ rows before honest.
    let w = c.args.self.now in
    let on : w.written ≤ w.end = search rules in
    let long : length w.bytes ≡ 4096 = search rules in
    let within : c.put.new.self.end ≤ 4096 = search rules in
    added_on_last c.args.schema.now rows c.args.row.now _ w c.put.new.self (store_view c.args.store.now).seen on long c.put.ensures.setup c.in-Ok.ensures.rows c.in-Ok.ensures.end within
    c.in-Ok.ensures.bytes (before honest)

pub returns-in-Ok-clause-means : goal.returns-in-Ok-clause-means
returns-in-Ok-clause-means g c = λ rows has.
    let few : c.args.self.now.rows ≤ 1048575 = search rules in
    full_means c.args.store.now.sizes c.args.schema.now rows c.args.row.now c.args.self.now few c.requires.page has

pub returns-in-Err-clause-means : goal.returns-in-Err-clause-means
returns-in-Err-clause-means g c = λ rows has.
    let few : c.args.self.now.rows ≤ 1048575 = search rules in
    full_means c.args.store.now.sizes c.args.schema.now rows c.args.row.now c.args.self.now few c.requires.page has

pub returns-in-Err-clause-keeps : goal.returns-in-Err-clause-keeps
returns-in-Err-clause-keeps g c = λ s behind each.
    let still : IsBehind s c.put.new.self = subst (IsBehind s) (sym c.in-Err.ensures.as_before) behind in
    then_step (no_call (store_view c.args.store.now) each) c.push_on_next.ensures.grows (λ old new has grows. tables_still s c.put.new.self old new still grows has)
