use Rattle.std.proofs.Common.{ap, arith, map, ◌∙◌}
use Rattle.sql_mean.specs.Meaning.{Joined, plain_value}
use Rattle.sql_mean.proofs.Pushing.{mapped_on}
use Rattle.sql_mean.proofs.items.plain_rows.Goals as goal

pub loop-env-preserved : goal.loop-env-preserved
loop-env-preserved c =
    mapped_on (λ (env : Joined). map (plain_value env) c.args.items.now) c.args.envs.now c.loop-env.env-index c.env-item.result _ _ _ _
    (omega arith) c.loop-env.invariant
    (c.in_ok-plain_row.ensures ∙ ap (λ (env : Joined). map (plain_value env) c.args.items.now) (c.as_slice.ensures ∙ c.env-item.is))
    c.in_ok-push.ensures.ok
