use Rattle.std.proofs.Common.{◌≡◌, ◌++◌, drop}
use Rattle.sql_bind.specs.View.{conditions_of}
use Rattle.sql_mean.proofs.Joining.{met_of}
use Rattle.sql_mean.proofs.joins.met.Given as goal

abbrev pub invariant-loop-env : goal.invariant-loop-env
invariant-loop-env l = met_of (conditions_of l.conditions) l.envs ≡ l.met ++ met_of (conditions_of l.conditions) (drop l.env-index l.envs)
