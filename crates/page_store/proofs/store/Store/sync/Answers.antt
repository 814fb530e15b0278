use Rattle.std.proofs.lemmas.Result.{on_ok_weaker}
use Rattle.page_store.specs.Store.{contents_of, contents_view, twin_at, twin_span}
use Rattle.disk_model.proofs.LiftedRuns.{lifted_stays, lifted_synced}
use Rattle.page_store.proofs.StoreContents.{ready_stays}
use Rattle.page_store.proofs.store.Store.sync.Goals as goal

pub returns-clause-synced : goal.returns-clause-synced
unfolding contents_view
returns-clause-synced g c =
    on_ok_weaker c.sync.result (λ synced. lifted_synced (contents_of c.args.self.now.sizes) (g.D.Disk.view c.sync.new.self) synced) c.sync.ensures.synced

pub returns-clause-stays : goal.returns-clause-stays
unfolding contents_view
returns-clause-stays g c = lifted_stays (contents_of c.args.self.now.sizes) c.sync.ensures.stays

pub returns-clause-ready : goal.returns-clause-ready
returns-clause-ready g c = λ ready k some. ready_stays (twin_span k) (twin_at c.args.self.now.sizes k) c.sync.ensures.stays (ready k some)
