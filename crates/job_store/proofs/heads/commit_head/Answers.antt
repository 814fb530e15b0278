use Rattle.job_store.proofs.heads.commit_head.Goals as goal

pub returns-clause-committed : goal.returns-clause-committed
returns-clause-committed g c = rw c.head_bytes.ensures at c.commit.ensures.committed
