use Rattle.std.proofs.Common.{◌≡◌, ◌++◌, drop}
use Rattle.sql_bind.specs.View.{conditions_of}
use Rattle.sql_bind.specs.declared.bound.JoinedBy.TheVariants as by
use Rattle.sql_mean.specs.Meaning.{joined_with}
use Rattle.sql_mean.proofs.joins.product.Given as goal

abbrev pub invariant-loop-env : goal.invariant-loop-env
invariant-loop-env l = joined_with by.Product l.rows (conditions_of l.on) l.envs ≡ l.joined ++ joined_with by.Product l.rows (conditions_of l.on) (drop l.env-index l.envs)
