use Rattle.std.proofs.Common.{ap, length, arith}
use Rattle.std.proofs.lemmas.Grind.{common_steps}
use Rattle.job_store.proofs.HeadLaws.{length-head_bytes}
use Rattle.job_store.proofs.bytes.head_in_body.Goals as goal

pub returns-then-len-ne-JOB_HEAD_BYTES-clause-head :
    goal.returns-then-len-ne-JOB_HEAD_BYTES-clause-head
returns-then-len-ne-JOB_HEAD_BYTES-clause-head c = λ head is.
    let long = ap length is.stands in
    let have = length-head_bytes head in
    let other = c.if-len-ne-JOB_HEAD_BYTES.true in
    grind (arith, common_steps)
