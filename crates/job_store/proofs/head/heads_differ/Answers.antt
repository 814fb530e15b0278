use Rattle.std.proofs.Common.{refl}
use Rattle.job_store.specs.JobHead.{job_head_bytes}
use Rattle.job_store.proofs.HeadLaws.{same_head}
use Rattle.job_store.proofs.head.heads_differ.Goals as goal

pub returns-clause-differ : goal.returns-clause-differ
returns-clause-differ c = same_head

pub returns-clause-free : goal.returns-clause-free
unfolding job_head_bytes
returns-clause-free c = refl
