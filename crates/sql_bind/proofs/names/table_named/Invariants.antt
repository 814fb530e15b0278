use Rattle.std.proofs.Common.{◌≡◌, drop}
use Rattle.sql_bind.specs.Names.{table_from, table_named}
use Rattle.sql_tokens.specs.Words.{letters_of}
use Rattle.sql_bind.proofs.names.table_named.Given as goal

-- the table is to be found among those that are left
abbrev pub invariant-loop-place : goal.invariant-loop-place
invariant-loop-place l = table_named l.names (letters_of l.name) ≡ table_from l.place (drop l.place l.names) (letters_of l.name)
