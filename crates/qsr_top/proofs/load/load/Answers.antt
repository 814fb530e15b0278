use Rattle.std.proofs.Common.{◌⊎◌, inl, rules}
use Rattle.disk_model.specs.View.{After, LeavesOnly}
use Rattle.page_store.specs.Store.{contents_view}
use Rattle.table_file.specs.Tables.{OnlyTables}
use Rattle.qsr_top.specs.Load.{ComesToLoad, StandsLoaded}
use Rattle.qsr_top.specs.Stored.{Stands}
use Rattle.qsr_top.proofs.CreateLemmas.{of_same, told_of_disk}
use Rattle.qsr_top.proofs.LoadOpening.{opened_loads, opened_others, opened_sizes, opened_tables, unopened_comes, unopened_moment, unopened_others}
use Rattle.qsr_top.proofs.load.load.Goals as goal

pub returns-in-Ok-clause-comes : goal.returns-in-Ok-clause-comes
returns-in-Ok-clause-comes g c =
    let disk = c.args.disk.now in
    let store = c.in-Ok.store in
    let now = c.load_in.new.store.disk.now in
    let size = g.D.Disk.size_of disk in
    let name = c.args.name.now in
    let left = g.S.Source.left c.args.source.now in
    let left' = g.S.Source.left c.load_in.new.source in
    let source = g.S.Source.faults_of c.args.source.now in
    let source' = g.S.Source.faults_of c.load_in.new.source in
    let rests = c.in-Ok.ensures.rests in
    of_same (λ disk'. ComesToLoad size name left left' (g.D.Disk.view disk) (g.D.Disk.view disk') (g.D.Disk.faults_of disk) (g.D.Disk.faults_of disk') source source' c.load_in.result) now (search rules) (record {
      cause = rw c.in-Ok.ensures.faults at c.load_in.ensures.cause;
      of_disk = told_of_disk size store.sizes (g.D.Disk.view disk) (g.D.Disk.view store.disk.now) c.in-Ok.ensures.stays c.in-Ok.ensures.store c.load_in.result c.load_in.ensures.none;
      loads = λ sizes s are stands honest.
          opened_loads size store.sizes sizes s name left left' (g.D.Disk.view disk) (g.D.Disk.view store.disk.now) (g.D.Disk.view now) c.load_in.result
          (opened_sizes size store.sizes sizes s (g.D.Disk.view disk) (g.D.Disk.view store.disk.now) c.in-Ok.ensures.told rests stands honest) rests
          (λ are stands honest. c.load_in.ensures.loads c.in-Ok.ensures.ready size s are stands honest) are stands honest;
    })

pub returns-in-Ok-clause-any_moment : goal.returns-in-Ok-clause-any_moment
returns-in-Ok-clause-any_moment g c sizes s are each honest =
    let disk = g.D.Disk.view c.args.disk.now in
    let size = g.D.Disk.size_of c.args.disk.now in
    let store = c.in-Ok.store in
    let new = c.load_in.new.store in
    let name = c.args.name.now in
    let left = g.S.Source.left c.args.source.now in
    of_same (λ disk'. LeavesOnly (contents_view sizes disk) (contents_view sizes (g.D.Disk.view disk')) (λ m. Stands size sizes s m ⊎ StandsLoaded size sizes s name left m)) new.disk.now (search rules)
    (opened_tables size store.sizes new.sizes sizes s disk (g.D.Disk.view store.disk.now) (g.D.Disk.view new.disk.now) (λ sizes m. StandsLoaded size sizes s name left m)
    (opened_sizes size store.sizes sizes s disk (g.D.Disk.view store.disk.now) c.in-Ok.ensures.told c.in-Ok.ensures.rests each honest) c.load_in.ensures.sizes c.in-Ok.ensures.rests
    (λ are stands honest. c.load_in.ensures.any_moment c.in-Ok.ensures.ready size s are stands honest) are each honest)

pub returns-in-Ok-clause-others : goal.returns-in-Ok-clause-others
returns-in-Ok-clause-others g c sizes s are each honest =
    let disk = g.D.Disk.view c.args.disk.now in
    let store = c.in-Ok.store in
    let new = c.load_in.new.store in
    of_same (λ disk'. LeavesOnly (contents_view sizes disk) (contents_view sizes (g.D.Disk.view disk')) (After OnlyTables (contents_view sizes disk))) new.disk.now (search rules)
    (opened_others store.sizes new.sizes sizes disk (g.D.Disk.view store.disk.now) (g.D.Disk.view new.disk.now)
    (opened_sizes (g.D.Disk.size_of c.args.disk.now) store.sizes sizes s disk (g.D.Disk.view store.disk.now) c.in-Ok.ensures.told c.in-Ok.ensures.rests each honest) c.load_in.ensures.sizes c.in-Ok.ensures.rests
    c.load_in.ensures.others)

pub returns-in-Err-clause-comes : goal.returns-in-Err-clause-comes
returns-in-Err-clause-comes g c =
    let disk = c.args.disk.now in
    let unopened = c.in-Err.unopened in
    let left = g.S.Source.left c.args.source.now in
    let source = g.S.Source.faults_of c.args.source.now in
    of_same (λ disk'. ComesToLoad (g.D.Disk.size_of disk) c.args.name.now left left (g.D.Disk.view disk) (g.D.Disk.view disk') (g.D.Disk.faults_of disk) (g.D.Disk.faults_of disk') source source c.told_of_opening.result)
    unopened.disk.now (search rules)
    (rw c.told_of_opening.ensures (unopened_comes (g.D.Disk.size_of disk) c.args.name.now left left (g.D.Disk.view disk) (g.D.Disk.view unopened.disk.now) (g.D.Disk.faults_of disk) (g.D.Disk.faults_of unopened.disk.now)
    source unopened.fault c.in-Err.ensures.refused c.in-Err.ensures.faults))

pub returns-in-Err-clause-any_moment : goal.returns-in-Err-clause-any_moment
returns-in-Err-clause-any_moment g c sizes s are each honest =
    let disk = g.D.Disk.view c.args.disk.now in
    let size = g.D.Disk.size_of c.args.disk.now in
    let left = g.S.Source.left c.args.source.now in
    of_same (λ disk'. LeavesOnly (contents_view sizes disk) (contents_view sizes (g.D.Disk.view disk')) (λ m. Stands size sizes s m ⊎ StandsLoaded size sizes s c.args.name.now left m)) c.in-Err.unopened.disk.now (search rules)
    (unopened_moment sizes disk (g.D.Disk.view c.in-Err.unopened.disk.now) (λ m. Stands size sizes s m ⊎ StandsLoaded size sizes s c.args.name.now left m) c.in-Err.ensures.stays (λ m now. inl (each m now)))

pub returns-in-Err-clause-others : goal.returns-in-Err-clause-others
returns-in-Err-clause-others g c sizes s are each honest =
    let disk = g.D.Disk.view c.args.disk.now in
    of_same (λ disk'. LeavesOnly (contents_view sizes disk) (contents_view sizes (g.D.Disk.view disk')) (After OnlyTables (contents_view sizes disk))) c.in-Err.unopened.disk.now (search rules)
    (unopened_others sizes disk (g.D.Disk.view c.in-Err.unopened.disk.now) c.in-Err.ensures.stays)
