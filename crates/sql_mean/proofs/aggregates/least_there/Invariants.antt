use Rattle.std.proofs.Common.{◌≡◌, map, drop}
use Rattle.sql_mean.specs.Meaning.{Joined, least_of, no_value, value_at}
use Rattle.sql_mean.proofs.aggregates.least_there.Given as goal

-- the value so far stands for those of the rows so far
abbrev pub invariant-loop-env : goal.invariant-loop-env
invariant-loop-env l =
    l.fn.zero ≡ no_value
    → least_of l.initial.least (map (λ (env : Joined). value_at env l.column) l.others)
    ≡ least_of l.least (map (λ (env : Joined). value_at env l.column) (drop l.env-index l.others))
