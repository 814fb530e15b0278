use Rattle.std.proofs.Common.{sym, subst}
use Rattle.disk_model.specs.Image.{Image}
use Rattle.disk_model.proofs.LiftedRuns.{lifted_each, lifted_stays, lifted_synced}
use Rattle.disk_model.proofs.Runs.{synced_each}
use Rattle.page_store.specs.Opening.{IsStore}
use Rattle.page_store.specs.Store.{contents_of, contents_view}
use Rattle.page_store.proofs.StoreCommits.{opened_ready, sizes_told}
use Rattle.page_store.proofs.store.Store.open.Goals as goal

pub returns-in-Ok-clause-store : goal.returns-in-Ok-clause-store
unfolding contents_view
returns-in-Ok-clause-store g c =
    let size = g.D.Disk.size_of c.args.disk.now in
    let sizes = c.in-Ok.sizes in
    let is : Image → Type 0 = λ s. IsStore size sizes (contents_of sizes s) in
    lifted_each (contents_of sizes) (g.D.Disk.view c.start.new.disk) is (IsStore size sizes)
    (synced_each is c.start.ensures.stays c.in-Ok.ensures.synced c.in-Ok.ensures.store) (λ s store. store)

pub returns-in-Ok-clause-ready : goal.returns-in-Ok-clause-ready
returns-in-Ok-clause-ready g c =
    let size = g.D.Disk.size_of c.args.disk.now in
    let sizes = c.in-Ok.sizes in
    let stays = c.start.ensures.stays in
    opened_ready (g.D.Disk.view c.start.new.disk) size sizes c.in-Ok.ensures.synced
    (λ honest. subst (λ (s : Image). IsStore size sizes (contents_of sizes s)) (sym stays.seen) (c.in-Ok.ensures.store (stays.time.honest.0 honest)))

pub returns-in-Ok-clause-picked : goal.returns-in-Ok-clause-picked
unfolding contents_view
returns-in-Ok-clause-picked g c = lifted_synced (contents_of c.in-Ok.sizes) (g.D.Disk.view c.start.new.disk) c.in-Ok.ensures.synced

pub returns-in-Ok-clause-rests : goal.returns-in-Ok-clause-rests
unfolding contents_view
returns-in-Ok-clause-rests g c = lifted_stays (contents_of c.in-Ok.sizes) c.start.ensures.stays

pub returns-in-Ok-clause-told : goal.returns-in-Ok-clause-told
unfolding contents_view
returns-in-Ok-clause-told g c = λ sizes told honest.
    sizes_told (g.D.Disk.view c.args.disk.now) (g.D.Disk.size_of c.args.disk.now) sizes c.in-Ok.sizes told c.in-Ok.ensures.store (c.start.ensures.stays.time.honest.0 honest)
