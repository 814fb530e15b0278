use Rattle.std.proofs.lemmas.Result.{on_ok_weaker}
use Rattle.page_store.specs.Store.{contents_of, contents_view, twin_number}
use Rattle.disk_model.proofs.LiftedRuns.{lifted_synced}
use Rattle.page_store.proofs.Runs.{on_ok_both}
use Rattle.page_store.proofs.StoreCommits.{commit_any, commit_last, commit_ready, commit_seen, commit_within, number_small}
use Rattle.page_store.proofs.store.Store.commit.Goals as goal

pub returns-clause-any_moment : goal.returns-clause-any_moment
returns-clause-any_moment g c = λ ready.
    let k = twin_number c.args.twin in
    let some = number_small c.args.twin c.requires.twin in
    commit_any (g.D.Disk.view c.args.self.now.disk.now) (g.D.Disk.view c.commit_at.new.disk) c.args.self.now.sizes k c.args.body.now c.place_of-place.result.span c.place_of-place.result.at some c.place_of-place.ensures.span c.place_of-place.ensures.at
    (ready k some) c.commit_at.ensures.any_moment

pub returns-clause-committed : goal.returns-clause-committed
returns-clause-committed g c =
    let k = twin_number c.args.twin in
    let some = number_small c.args.twin c.requires.twin in
    on_ok_weaker c.commit_at.result
    (λ committed ready. commit_last (g.D.Disk.view c.args.self.now.disk.now) (g.D.Disk.view c.commit_at.new.disk) c.args.self.now.sizes k c.args.body.now c.place_of-place.result.span c.place_of-place.result.at some c.place_of-place.ensures.span c.place_of-place.ensures.at
    (ready k some) committed)
    c.commit_at.ensures.committed

pub returns-clause-synced : goal.returns-clause-synced
unfolding contents_view
returns-clause-synced g c =
    on_ok_weaker c.commit_at.result (λ synced. lifted_synced (contents_of c.args.self.now.sizes) (g.D.Disk.view c.commit_at.new.disk) synced) c.commit_at.ensures.synced

pub returns-clause-ready : goal.returns-clause-ready
returns-clause-ready g c =
    let k = twin_number c.args.twin in
    let some = number_small c.args.twin c.requires.twin in
    on_ok_both c.commit_at.result
    (λ synced committed ready. commit_ready (g.D.Disk.view c.args.self.now.disk.now) (g.D.Disk.view c.commit_at.new.disk) c.args.self.now.sizes k c.args.body.now c.place_of-place.result.span c.place_of-place.result.at some c.place_of-place.ensures.span c.place_of-place.ensures.at
    ready c.commit_at.ensures.keeps synced committed)
    c.commit_at.ensures.synced c.commit_at.ensures.committed

pub returns-clause-within : goal.returns-clause-within
returns-clause-within g c =
    let k = twin_number c.args.twin in
    commit_within (g.D.Disk.view c.args.self.now.disk.now) (g.D.Disk.view c.commit_at.new.disk) c.args.self.now.sizes k c.args.body.now c.place_of-place.result.span c.place_of-place.result.at (number_small c.args.twin c.requires.twin) c.place_of-place.ensures.span c.place_of-place.ensures.at
    c.commit_at.ensures.keeps

pub returns-clause-seen : goal.returns-clause-seen
returns-clause-seen g c =
    let k = twin_number c.args.twin in
    commit_seen (g.D.Disk.view c.args.self.now.disk.now) (g.D.Disk.view c.commit_at.new.disk) c.args.self.now.sizes k c.args.body.now c.place_of-place.result.span c.place_of-place.result.at (number_small c.args.twin c.requires.twin) c.place_of-place.ensures.span c.place_of-place.ensures.at
    c.commit_at.ensures.keeps
