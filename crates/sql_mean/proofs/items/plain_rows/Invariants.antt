use Rattle.std.proofs.Common.{◌≡◌, ◌++◌, drop, map}
use Rattle.sql_mean.specs.Meaning.{Joined, plain_value}
use Rattle.sql_mean.proofs.items.plain_rows.Given as goal

-- the rows so far are followed by those that are left
abbrev pub invariant-loop-env : goal.invariant-loop-env
invariant-loop-env l =
    map (λ (env : Joined). map (plain_value env) l.items) l.envs ≡ l.rows ++ map (λ (env : Joined). map (plain_value env) l.items) (drop l.env-index l.envs)
