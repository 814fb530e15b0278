use Rattle.std.proofs.Common.{◌≡◌, map, drop}
use Rattle.sql_mean.specs.Meaning.{Joined, greatest_of, no_value, value_at}
use Rattle.sql_mean.proofs.aggregates.greatest_there.Given as goal

-- the value so far stands for those of the rows so far
abbrev pub invariant-loop-env : goal.invariant-loop-env
invariant-loop-env l =
    l.fn.zero ≡ no_value
    → greatest_of l.initial.greatest (map (λ (env : Joined). value_at env l.column) l.others)
    ≡ greatest_of l.greatest (map (λ (env : Joined). value_at env l.column) (drop l.env-index l.others))
