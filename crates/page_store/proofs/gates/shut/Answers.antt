use Rattle.std.proofs.Common.{◌≡◌, ◌≢◌, ◌+◌, ◌∙◌, ap, arith}
use Rattle.std.proofs.lemmas.Result.{on_ok_weaker}
use Rattle.disk_model.specs.Image.{Image}
use Rattle.disk_model.proofs.Runs.{then_stays, synced_each}
use Rattle.page_store.specs.declared.records.TheConstants.{OPEN}
use Rattle.page_store.proofs.TwinRuns.{closing_at}
use Rattle.page_store.proofs.gates.shut.Goals as goal

pub returns-in_err-write-clause-any_moment : goal.returns-in_err-write-clause-any_moment
returns-in_err-write-clause-any_moment g c = λ stands.
    let gate : c.args.gate ≡ OPEN = omega arith in
    closing_at c.args.at c.write.ensures.steps (λ i now. stands i now ∙ gate)

pub returns-clause-any_moment : goal.returns-clause-any_moment
returns-clause-any_moment g c = λ stands.
    let gate : c.args.gate ≡ OPEN = omega arith in
    then_stays (closing_at c.args.at c.write.ensures.steps (λ i now. stands i now ∙ gate)) c.sync-2.ensures.stays

pub returns-clause-closed : goal.returns-clause-closed
returns-clause-closed g c =
    on_ok_weaker c.sync-2.result
    (λ synced stands. synced_each (λ (i : Image). i c.args.at ≢ OPEN) c.sync-2.ensures.stays synced
    (λ honest is_open.
    let start : c.args.at ≡ c.args.at + 0 = omega arith in
    let closed = ap (g.D.Disk.view c.write.new.self).seen start ∙ c.in_ok-write.ensures.bytes (c.write.ensures.steps.time.honest.0 honest) 0 (omega arith) in cc))
    c.sync-2.ensures.synced
