use Rattle.job_store.proofs.HeadLaws.{is_head, is_none}
use Rattle.job_store.proofs.bytes.head_in.Goals as goal

pub returns-in-Ok : goal.returns-in-Ok
returns-in-Ok c = is_head c.args.sizes.now c.args.bytes.now c.in-Ok.head c.requires (record { each = λ i. (c.type_inv.bytes i).fits }) c.in-Ok.ensures.head

pub returns-in-Err-Bad : goal.returns-in-Err-Bad
returns-in-Err-Bad c = is_none c.args.sizes.now c.args.bytes.now _ c.requires (rw c.in-Err-Bad.field-0-is at c.in-Err-Bad.ensures.head)
