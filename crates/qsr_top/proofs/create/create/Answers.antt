use Rattle.std.proofs.Common.{◌≡◌, ◌⊎◌, inl, sym, subst, rules}
use Rattle.disk_model.specs.View.{After, LeavesOnly}
use Rattle.disk_model.proofs.Runs.{weaker_run}
use Rattle.page_store.specs.Store.{contents_view}
use Rattle.table_file.specs.Tables.{OnlyTables, with_table}
use Rattle.qsr_top.specs.Create.{ComesToCreate, Creates}
use Rattle.qsr_top.specs.Stored.{Stands}
use Rattle.qsr_top.specs.Told.{told_of_opening}
use Rattle.qsr_top.proofs.CreateLemmas.{behind_read, honest_of, no_change, of_same, others_behind_read, sizes_of, stands_still, stays_of, told_of_disk, unopened_cause, unopened_fault, unopened_of_disk}
use Rattle.qsr_top.proofs.create.create.Goals as goal

pub returns-in-Ok-clause-any_moment : goal.returns-in-Ok-clause-any_moment
returns-in-Ok-clause-any_moment g c sizes s are stands honest =
    let size = g.D.Disk.size_of c.args.disk.now in
    let before = g.D.Disk.view c.args.disk.now in
    let opened = g.D.Disk.view c.in-Ok.store.disk.now in
    let stays = c.in-Ok.ensures.stays in
    let told = c.in-Ok.ensures.told sizes (sizes_of size sizes s before stands) (honest_of c.in-Ok.store.sizes opened (stays.time.honest.1 honest)) in
    let there = stands_still size sizes s before opened stands stays in
    let ready = c.create_in.ensures.any_moment c.in-Ok.ensures.ready in
    let run = rw (c.create_in.ensures.sizes, c.in-Ok.ensures.size, told) at ready in
    let all = behind_read size sizes s stands (stays_of sizes before opened stays) (run s are there (honest_of sizes opened (stays.time.honest.1 honest))) in
    of_same (λ disk. LeavesOnly (contents_view sizes (g.D.Disk.view c.args.disk.now)) (contents_view sizes (g.D.Disk.view disk))
    (λ m. Stands size sizes s m ⊎ Stands size sizes (with_table s c.args.name.now c.args.schema) m)) c.create_in.new.store.disk.now (search rules) all

pub returns-in-Ok-clause-others : goal.returns-in-Ok-clause-others
returns-in-Ok-clause-others g c sizes s are stands honest =
    let size = g.D.Disk.size_of c.args.disk.now in
    let before = g.D.Disk.view c.args.disk.now in
    let opened = g.D.Disk.view c.in-Ok.store.disk.now in
    let stays = c.in-Ok.ensures.stays in
    let told = c.in-Ok.ensures.told sizes (sizes_of size sizes s before stands) (honest_of c.in-Ok.store.sizes opened (stays.time.honest.1 honest)) in
    let run = rw (c.create_in.ensures.sizes, told) at c.create_in.ensures.others in
    let all = others_behind_read (stays_of sizes before opened stays) run no_change in
    of_same (λ disk. LeavesOnly (contents_view sizes (g.D.Disk.view c.args.disk.now)) (contents_view sizes (g.D.Disk.view disk))
    (After OnlyTables (contents_view sizes (g.D.Disk.view c.args.disk.now)))) c.create_in.new.store.disk.now (search rules) all

pub returns-in-Ok-clause-comes : goal.returns-in-Ok-clause-comes
returns-in-Ok-clause-comes g c =
    let size = g.D.Disk.size_of c.args.disk.now in
    let before = g.D.Disk.view c.args.disk.now in
    let opened = g.D.Disk.view c.in-Ok.store.disk.now in
    let stays = c.in-Ok.ensures.stays in
    of_same (λ disk. ComesToCreate size c.args.name.now c.args.schema before (g.D.Disk.view disk) (g.D.Disk.faults_of c.args.disk.now) (g.D.Disk.faults_of disk) c.create_in.result)
    c.create_in.new.store.disk.now (search rules) (record {
      cause = λ source. rw c.in-Ok.ensures.faults at c.create_in.ensures.cause source;
      of_disk = told_of_disk size c.in-Ok.store.sizes before opened stays c.in-Ok.ensures.store c.create_in.result c.create_in.ensures.none;
      creates = λ sizes s are stands honest.
          let told = c.in-Ok.ensures.told sizes (sizes_of size sizes s before stands) (honest_of c.in-Ok.store.sizes opened (stays.time.honest.1 honest)) in
          let there = stands_still size sizes s before opened stands stays in
          let ready = c.create_in.ensures.creates c.in-Ok.ensures.ready in
          let run = rw (c.in-Ok.ensures.size, told) at ready in
          run s are there (honest_of sizes opened (stays.time.honest.1 honest));
    })

pub returns-in-Err-clause-any_moment : goal.returns-in-Err-clause-any_moment
returns-in-Err-clause-any_moment g c sizes s are stands honest =
    let size = g.D.Disk.size_of c.args.disk.now in
    let stays = stays_of sizes (g.D.Disk.view c.args.disk.now) (g.D.Disk.view c.in-Err.unopened.disk.now) c.in-Err.ensures.stays in
    of_same (λ disk. LeavesOnly (contents_view sizes (g.D.Disk.view c.args.disk.now)) (contents_view sizes (g.D.Disk.view disk))
    (λ m. Stands size sizes s m ⊎ Stands size sizes (with_table s c.args.name.now c.args.schema) m)) c.in-Err.unopened.disk.now (search rules)
    (weaker_run stays.time (λ m now. inl (stands m now)))

pub returns-in-Err-clause-others : goal.returns-in-Err-clause-others
returns-in-Err-clause-others g c sizes s are stands honest =
    let stays = stays_of sizes (g.D.Disk.view c.args.disk.now) (g.D.Disk.view c.in-Err.unopened.disk.now) c.in-Err.ensures.stays in
    of_same (λ disk. LeavesOnly (contents_view sizes (g.D.Disk.view c.args.disk.now)) (contents_view sizes (g.D.Disk.view disk))
    (After OnlyTables (contents_view sizes (g.D.Disk.view c.args.disk.now)))) c.in-Err.unopened.disk.now (search rules)
    (weaker_run stays.time (λ m now. (m, now, no_change m)))

pub returns-in-Err-clause-comes : goal.returns-in-Err-clause-comes
returns-in-Err-clause-comes g c =
    let size = g.D.Disk.size_of c.args.disk.now in
    let before = g.D.Disk.view c.args.disk.now in
    let fault = c.in-Err.unopened.fault in
    let is : c.told_of_opening.result ≡ told_of_opening fault = search rules in
    let refused = c.in-Err.ensures.refused in
    let all : ComesToCreate size c.args.name.now c.args.schema before (g.D.Disk.view c.in-Err.unopened.disk.now)
    (g.D.Disk.faults_of c.args.disk.now) (g.D.Disk.faults_of c.in-Err.unopened.disk.now) (told_of_opening fault) = record {
      cause = λ source. unopened_cause fault (g.D.Disk.faults_of c.args.disk.now) (g.D.Disk.faults_of c.in-Err.unopened.disk.now) source size before refused c.in-Err.ensures.faults;
      of_disk = unopened_of_disk size before fault refused;
      creates = λ sizes s are stands honest.
          subst (λ fault. Creates size sizes s c.args.name.now c.args.schema (g.D.Disk.view c.in-Err.unopened.disk.now) (told_of_opening fault))
          (sym (unopened_fault size sizes s before fault stands honest refused)) tt;
    } in
    of_same (λ disk. ComesToCreate size c.args.name.now c.args.schema before (g.D.Disk.view disk) (g.D.Disk.faults_of c.args.disk.now) (g.D.Disk.faults_of disk) c.told_of_opening.result)
    c.in-Err.unopened.disk.now (search rules) (rw is all)
