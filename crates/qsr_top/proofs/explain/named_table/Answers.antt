use Rattle.qsr_top.proofs.ExplainLemmas.{named_at}
use Rattle.qsr_top.proofs.explain.named_table.Goals as goal

pub returns : goal.returns
returns c =
    named_at c.args.catalogue.now.tables c.args.table c.in_ok-copy.field-0 c.in_ok-copy-2.field-0
    (rw c.in_ok-copy.ensures c.name.ensures) (rw c.in_ok-copy-2.ensures c.schema.ensures)
