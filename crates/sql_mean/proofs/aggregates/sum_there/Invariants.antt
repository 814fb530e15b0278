use Rattle.std.proofs.Common.{◌≡◌, map, take}
use Rattle.sql_mean.specs.Meaning.{Joined, no_value, sum_of, value_at}
use Rattle.sql_mean.proofs.aggregates.sum_there.Given as goal

-- the sum of the rows so far
abbrev pub invariant-loop-env : goal.invariant-loop-env
invariant-loop-env l = l.zero ≡ no_value → l.sum ≡ sum_of (map (λ (env : Joined). value_at env l.column) (take l.env-index l.envs))
