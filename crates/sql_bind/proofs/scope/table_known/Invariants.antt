use Rattle.std.proofs.Common.{◌≡◌, drop}
use Rattle.sql_bind.specs.Names.{table_known}
use Rattle.sql_tokens.specs.Words.{letters_of}
use Rattle.sql_bind.proofs.scope.table_known.Given as goal

-- the table is to be found among those that are left
abbrev pub invariant-loop-table : goal.invariant-loop-table
invariant-loop-table l = table_known l.scope (letters_of l.name) ≡ table_known (drop l.table-index l.scope) (letters_of l.name)
