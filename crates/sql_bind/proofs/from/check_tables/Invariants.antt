use Rattle.std.proofs.Common.{◌≡◌, ◌∷◌, [], drop, map, take}
use Rattle.sql_bind.specs.Checks.{tables_checks}
use Rattle.sql_bind.specs.Names.{known, table_of}
use Rattle.grammar_laws.specs.Checks.{first_refusal}
use Rattle.sql_bind.proofs.from.check_tables.Given as goal

-- the tables before this one refuse nothing
abbrev pub invariant-loop-place : goal.invariant-loop-place
invariant-loop-place l =
    first_refusal (tables_checks l.names (known l.first ∷ []) l.more)
    ≡ first_refusal (tables_checks l.names (known l.first ∷ map (λ m. known (table_of m)) (take l.place l.more)) (drop l.place l.more))
