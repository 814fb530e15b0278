use Rattle.std.proofs.Common.{◌≡◌, ◌++◌, drop}
use Rattle.sql_bind.specs.Bound.{every_column}
use Rattle.sql_bind.proofs.items.every_column.Given as goal

-- the columns so far are followed by those of the tables that are left
abbrev pub invariant-loop-table : goal.invariant-loop-table
invariant-loop-table l = every_column l.scope ≡ l.items ++ every_column (drop l.table-index l.scope)
