use Rattle.std.proofs.Common.{◌≤◌, refl, subst, sym, rules}
use Rattle.std.proofs.lemmas.Result.{on_ok_weaker}
use Rattle.disk_model.proofs.Runs.{no_call, synced_each, then_stays, then_step}
use Rattle.page_store.specs.Store.{Contents, store_view}
use Rattle.table_file.specs.Tables.{RowsStand}
use Rattle.table_file.proofs.Standing.{tables_still}
use Rattle.table_file.proofs.Writing.{added_all, all_stand}
use Rattle.table_file.proofs.writer.TableWriter.flush.Goals as goal

pub returns-in_err-write_up_to-clause-keeps : goal.returns-in_err-write_up_to-clause-keeps
returns-in_err-write_up_to-clause-keeps g c = λ s behind each.
    then_step (no_call (store_view c.args.store.now) each) c.write_up_to.ensures.grows (λ old new has grows. tables_still s c.args.self.now old new behind grows has)

pub returns-clause-keeps : goal.returns-clause-keeps
returns-clause-keeps g c = λ s behind each.
    then_stays (then_step (no_call (store_view c.args.store.now) each) c.write_up_to.ensures.grows (λ old new has grows. tables_still s c.args.self.now old new behind grows has)) c.sync.ensures.stays

pub returns-clause-ready : goal.returns-clause-ready
returns-clause-ready g c = λ ready. c.sync.ensures.ready (c.write_up_to.ensures.ready ready)

pub returns-clause-stand : goal.returns-clause-stand
returns-clause-stand g c =
    on_ok_weaker c.sync.result
    (λ synced columns rows before.
    let w = c.args.self.now in
    let on : w.written ≤ w.end = search rules in
    synced_each (RowsStand w.table columns rows) c.sync.ensures.stays synced
    (λ honest_after.
    let honest = c.write_up_to.ensures.grows.time.honest.0 honest_after in
    all_stand columns rows w (store_view c.args.store.now).seen (store_view c.write_up_to.new.store).seen on (c.write_up_to.ensures.grows.seen honest) (c.in_ok-write_up_to.ensures.stands honest) (before honest)))
    c.sync.ensures.synced

pub returns-clause-has : goal.returns-clause-has
returns-clause-has g c =
    on_ok_weaker c.sync.result
    (λ synced columns rows before honest_now.
    let w = c.args.self.now in
    let on : w.written ≤ w.end = search rules in
    let honest_after = c.sync.ensures.stays.time.honest.0 honest_now in
    let honest = c.write_up_to.ensures.grows.time.honest.0 honest_after in
    let stand = all_stand columns rows w (store_view c.args.store.now).seen (store_view c.write_up_to.new.store).seen on (c.write_up_to.ensures.grows.seen honest) (c.in_ok-write_up_to.ensures.stands honest) (before honest) in
    let has = (before honest).counted in
    added_all columns rows _ (store_view c.sync.new.self).seen refl (record { count = has.count; page = has.page; end = has.end })
    (subst (λ (m : Contents). RowsStand w.table columns rows m) (sym c.sync.ensures.stays.seen) stand))
    c.sync.ensures.synced
