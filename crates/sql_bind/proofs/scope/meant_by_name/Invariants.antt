use Rattle.std.proofs.Common.{◌≡◌, drop}
use Rattle.sql_bind.specs.Names.{and_found, columns_named}
use Rattle.sql_tokens.specs.Words.{letters_of}
use Rattle.sql_bind.proofs.scope.meant_by_name.Given as goal

-- the column that was found and those of the tables that are left are all columns of this name
abbrev pub invariant-loop-table : goal.invariant-loop-table
invariant-loop-table l = columns_named l.scope (letters_of l.name) ≡ and_found l.found (columns_named (drop l.table-index l.scope) (letters_of l.name))
