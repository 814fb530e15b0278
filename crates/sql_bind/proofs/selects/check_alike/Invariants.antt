use Rattle.std.proofs.Common.{◌≡◌, drop, length, map}
use Rattle.sql_bind.specs.Checks.{alike_checks}
use Rattle.grammar_laws.specs.Checks.{first_refusal}
use Rattle.sql_bind.proofs.selects.check_alike.Given as goal

-- the selects so far are alike
abbrev pub invariant-loop-other : goal.invariant-loop-other
invariant-loop-other l =
    first_refusal (alike_checks l.first (map (λ s. s.items) l.others) l.more)
    ≡ first_refusal (alike_checks l.first (map (λ s. s.items) (drop (length l.yielded) l.others)) (drop (length l.yielded) l.more))
