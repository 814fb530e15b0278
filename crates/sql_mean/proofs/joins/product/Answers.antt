use Rattle.sql_bind.specs.View.{conditions_of}
use Rattle.sql_mean.proofs.Joining.{product_next}
use Rattle.sql_mean.proofs.Loops.{adds}
use Rattle.sql_mean.proofs.joins.product.Goals as goal

pub loop-env-preserved : goal.loop-env-preserved
loop-env-preserved c =
    adds _ _ _ _ _ _ c.loop-env.invariant (product_next (conditions_of c.args.on.now) c.args.rows.now c.args.envs.now _ _ c.loop-env-test.true c.env-item.is) c.in_ok-push_product.ensures
