use Rattle.job_store.specs.JobHead.{job_head_bytes}
use Rattle.part_codec.proofs.Putting.{then_puts}
use Rattle.job_store.proofs.bytes.put_head.Goals as goal

pub returns : goal.returns
unfolding job_head_bytes
returns c =
    then_puts (rw c.phase_byte.ensures at c.put_byte-at.ensures) (then_puts c.put_u64-at.ensures (then_puts c.put_u32-at.ensures
    (then_puts (rw c.side_byte.ensures at c.put_byte-at-2.ensures) (then_puts c.put_u32-at-2.ensures c.put_u32.ensures))))
