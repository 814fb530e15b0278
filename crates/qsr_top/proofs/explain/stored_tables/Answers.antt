use Rattle.std.proofs.Common.{◌≡◌, ap, inl, rules, ◌∙◌}
use Rattle.disk_model.specs.View.{Stays}
use Rattle.disk_model.proofs.Runs.{stays_twice}
use Rattle.qsr_top.specs.Told.{told_of_opening}
use Rattle.qsr_top.proofs.CreateLemmas.{honest_of, of_same, sizes_of, stands_still, unopened_fault}
use Rattle.qsr_top.proofs.ExplainLemmas.{none_of_disk, opened_none, tables_seen}
use Rattle.qsr_top.proofs.explain.stored_tables.Goals as goal

pub returns-in-Ok-clause-tables : goal.returns-in-Ok-clause-tables
returns-in-Ok-clause-tables g c sizes s are stands honest =
    let size = g.D.Disk.size_of c.args.disk.now in
    let before = g.D.Disk.view c.args.disk.now in
    let opened = g.D.Disk.view c.in-Ok.store.disk.now in
    let stays = c.in-Ok.ensures.stays in
    let told = c.in-Ok.ensures.told sizes (sizes_of size sizes s before stands) (honest_of c.in-Ok.store.sizes opened (stays.time.honest.1 honest)) in
    let there = stands_still size sizes s before opened stands stays in
    let run = rw told at c.tables_in.ensures.tables in
    run s are (tables_seen size sizes s opened there) (honest_of sizes opened (stays.time.honest.1 honest))

pub returns-in-Ok-clause-none : goal.returns-in-Ok-clause-none
returns-in-Ok-clause-none g c =
    none_of_disk (g.D.Disk.size_of c.args.disk.now) c.in-Ok.store.sizes (g.D.Disk.view c.args.disk.now) (g.D.Disk.view c.in-Ok.store.disk.now) c.tables_in.result
    c.in-Ok.ensures.stays c.in-Ok.ensures.store c.tables_in.ensures.none

pub returns-in-Ok-clause-stays : goal.returns-in-Ok-clause-stays
returns-in-Ok-clause-stays g c =
    of_same (λ disk. Stays (g.D.Disk.view c.args.disk.now) (g.D.Disk.view disk)) c.tables_in.new.store.disk.now (search rules)
    (stays_twice c.in-Ok.ensures.stays c.tables_in.ensures.stays)

pub returns-in-Err-clause-tables : goal.returns-in-Err-clause-tables
returns-in-Err-clause-tables g c sizes s are stands honest =
    let fault = c.in-Err.unopened.fault in
    let is : c.told_of_opening.result ≡ told_of_opening fault = search rules in
    inl (is ∙ ap told_of_opening (unopened_fault (g.D.Disk.size_of c.args.disk.now) sizes s (g.D.Disk.view c.args.disk.now) fault stands honest c.in-Err.ensures.refused))

pub returns-in-Err-clause-stays : goal.returns-in-Err-clause-stays
returns-in-Err-clause-stays g c =
    of_same (λ disk. Stays (g.D.Disk.view c.args.disk.now) (g.D.Disk.view disk)) c.in-Err.unopened.disk.now (search rules) c.in-Err.ensures.stays

pub returns-in-Ok-clause-unstored : goal.returns-in-Ok-clause-unstored
returns-in-Ok-clause-unstored g c page honest none =
    let before = g.D.Disk.view c.args.disk.now in
    let opened = g.D.Disk.view c.in-Ok.store.disk.now in
    let stays = c.in-Ok.ensures.stays in
    c.tables_in.ensures.unstored (honest_of c.in-Ok.store.sizes opened (stays.time.honest.1 honest))
    (opened_none (g.D.Disk.size_of c.args.disk.now) page c.in-Ok.store.sizes before opened stays c.in-Ok.ensures.store honest none)
