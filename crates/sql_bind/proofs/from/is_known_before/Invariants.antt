use Rattle.std.proofs.Common.{◌≡◌, drop, map}
use Rattle.qsr_value.specs.Names.{is_among}
use Rattle.sql_bind.specs.Names.{known, table_of}
use Rattle.sql_tokens.specs.Words.{letters_of}
use Rattle.sql_bind.proofs.from.is_known_before.Given as goal

-- the name is to be found among the tables that are left
abbrev pub invariant-loop-table : goal.invariant-loop-table
invariant-loop-table l =
    is_among (letters_of l.name) (map (λ m. known (table_of m)) l.more)
    ≡ is_among (letters_of l.name) (map (λ m. known (table_of m)) (drop l.table-index l.more))
