use Rattle.std.proofs.Common.{◌≡◌, ◌+◌, ◌∙◌, ap, arith}
use Rattle.std.proofs.lemmas.Result.{on_ok_weaker}
use Rattle.disk_model.specs.Image.{Image}
use Rattle.disk_model.proofs.Runs.{synced_each}
use Rattle.page_store.specs.declared.records.TheConstants.{OPEN}
use Rattle.page_store.proofs.gates.unlock.Goals as goal

pub returns-clause-opened : goal.returns-clause-opened
returns-clause-opened g c =
    on_ok_weaker c.sync.result
    (λ synced. synced_each (λ (i : Image). i c.args.at ≡ OPEN) c.sync.ensures.stays synced
    (λ honest.
    let start : c.args.at ≡ c.args.at + 0 = omega arith in
    ap (g.D.Disk.view c.write.new.self).seen start ∙ c.in_ok-write.ensures.bytes (c.write.ensures.steps.time.honest.0 honest) 0 (omega arith)))
    c.sync.ensures.synced
