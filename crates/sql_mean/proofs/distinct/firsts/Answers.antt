use Rattle.std.proofs.Common.{arith}
use Rattle.sql_mean.proofs.RowSteps.{firsts_on}
use Rattle.sql_mean.proofs.distinct.firsts.Goals as goal

pub loop-row-preserved : goal.loop-row-preserved
loop-row-preserved c =
    firsts_on c.args.rows.now c.loop-row.row-index c.row-item.result c.loop-row.once _
    (omega arith) c.row-item.is c.loop-row.invariant c.in_ok-push_new.ensures
