use Rattle.std.proofs.Common.{None, arith}
use Rattle.page_store.specs.Store.{contents_of, contents_view, twin_at, twin_number, twin_span}
use Rattle.disk_model.proofs.LiftedRuns.{lifted_stays}
use Rattle.page_store.proofs.StoreCommits.{current_body, number_small}
use Rattle.page_store.proofs.StoreContents.{ready_stays}
use Rattle.page_store.proofs.store.Store.current.Goals as goal

pub returns-in-Ok-Some-clause-body : goal.returns-in-Ok-Some-clause-body
unfolding contents_view
returns-in-Ok-Some-clause-body g c = λ honest.
    current_body c.args.self.now.sizes (twin_number c.args.twin) c.place_of-place.result.span c.place_of-place.result.at (g.D.Disk.view c.args.self.now.disk.now).seen _
    (number_small c.args.twin c.requires.twin) c.place_of-place.ensures.span c.place_of-place.ensures.at (let body = rw c.in-Ok-Some.field-0-is at c.in-Ok-Some.ensures.body in body honest)

pub returns-in-Ok-None-clause-none : goal.returns-in-Ok-None-clause-none
unfolding contents_view
returns-in-Ok-None-clause-none g c = (
  omega (arith, c.place_of-place.ensures.at),
  λ honest.
      current_body c.args.self.now.sizes (twin_number c.args.twin) c.place_of-place.result.span c.place_of-place.result.at (g.D.Disk.view c.args.self.now.disk.now).seen None
      (number_small c.args.twin c.requires.twin) c.place_of-place.ensures.span c.place_of-place.ensures.at (let body = rw c.in-Ok-None.field-0-is at c.in-Ok-None.ensures.body in body honest),
)

pub returns-in-Ok-Some-clause-stays : goal.returns-in-Ok-Some-clause-stays
unfolding contents_view
returns-in-Ok-Some-clause-stays g c = lifted_stays (contents_of c.args.self.now.sizes) c.current_at.ensures.stays

pub returns-in-Ok-Some-clause-ready : goal.returns-in-Ok-Some-clause-ready
returns-in-Ok-Some-clause-ready g c = λ ready k some. ready_stays (twin_span k) (twin_at c.args.self.now.sizes k) c.current_at.ensures.stays (ready k some)

pub returns-in-Ok-None-clause-stays : goal.returns-in-Ok-None-clause-stays
unfolding contents_view
returns-in-Ok-None-clause-stays g c = lifted_stays (contents_of c.args.self.now.sizes) c.current_at.ensures.stays

pub returns-in-Ok-None-clause-ready : goal.returns-in-Ok-None-clause-ready
returns-in-Ok-None-clause-ready g c = λ ready k some. ready_stays (twin_span k) (twin_at c.args.self.now.sizes k) c.current_at.ensures.stays (ready k some)

pub returns-in-Err-clause-stays : goal.returns-in-Err-clause-stays
unfolding contents_view
returns-in-Err-clause-stays g c = lifted_stays (contents_of c.args.self.now.sizes) c.current_at.ensures.stays

pub returns-in-Err-clause-ready : goal.returns-in-Err-clause-ready
returns-in-Err-clause-ready g c = λ ready k some. ready_stays (twin_span k) (twin_at c.args.self.now.sizes k) c.current_at.ensures.stays (ready k some)
