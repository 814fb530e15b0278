use Rattle.std.proofs.Common.{ℕ, ◌+◌, ◌*◌, length, arith, subst}
use Rattle.page_store.specs.Store.{HasCommitWrites}
use Rattle.std.proofs.Common.{◌==◌}
use Rattle.std.proofs.lemmas.Result.{on_ok_weaker}
use Rattle.page_store.specs.declared.records.TheConstants.{OPEN}
use Rattle.page_store.proofs.Counts.{commit_writes}
use Rattle.page_store.proofs.Runs.{on_ok_both}
use Rattle.page_store.proofs.Commits.{commit_done, commit_run}
use Rattle.page_store.proofs.TwinRuns.{keeps_stays, keeps_twice, keeps_wider}
use Rattle.page_store.proofs.twins.commit_at.Goals as goal

pub returns-clause-any_moment : goal.returns-clause-any_moment
returns-clause-any_moment g c = λ ready.
    commit_run c.args.span c.args.at c.in_ok-heads.heads c.stale-stale.result c.args.body.now (omega arith) c.requires.pages c.requires.long
    ready c.read_heads.ensures.stays c.in_ok-heads.ensures.heads c.stale-stale.ensures.stale c.replace.ensures.any_moment c.replace.ensures.keeps

pub returns-clause-committed : goal.returns-clause-committed
returns-clause-committed g c =
    on_ok_both c.replace.result
    (λ opened replaced ready.
    commit_done c.args.span c.args.at c.in_ok-heads.heads c.stale-stale.result c.args.body.now (omega arith) c.requires.pages c.requires.long
    ready c.read_heads.ensures.stays c.in_ok-heads.ensures.heads c.stale-stale.ensures.stale opened replaced c.replace.ensures.keeps)
    c.replace.ensures.opened c.replace.ensures.replaced

pub returns-clause-keeps : goal.returns-clause-keeps
returns-clause-keeps g c =
    let low = c.stale-stale.ensures.low in
    let high = c.stale-stale.ensures.high in
    let n = length c.args.body.now in
    keeps_twice c.args.at (2 * c.args.span) (keeps_stays c.args.at (2 * c.args.span) c.read_heads.ensures.stays)
    (keeps_wider c.stale-stale.result.slot (8 + n) c.args.at (2 * c.args.span) low (omega arith) c.replace.ensures.keeps)

pub returns-clause-writes : goal.returns-clause-writes
returns-clause-writes g c =
    let same = c.read_heads.ensures.writes in
    on_ok_weaker c.replace.result
    (λ replaced. subst (λ (n : ℕ). HasCommitWrites (length c.args.body.now) n (g.D.Disk.writes_of c.replace.new.disk)) same
    (commit_writes (c.stale-stale.result.gate == OPEN) (length c.args.body.now) (g.D.Disk.writes_of c.read_heads.new.disk) (g.D.Disk.writes_of c.replace.new.disk) replaced))
    c.replace.ensures.writes
