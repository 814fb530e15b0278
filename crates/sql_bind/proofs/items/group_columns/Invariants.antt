use Rattle.std.proofs.Common.{◌≡◌, ◌++◌, drop}
use Rattle.sql_bind.specs.Checks.{group_columns}
use Rattle.sql_bind.proofs.items.group_columns.Given as goal

-- the meanings so far are followed by those of the columns that are left
abbrev pub invariant-loop-column : goal.invariant-loop-column
invariant-loop-column l = group_columns l.scope l.columns ≡ l.meanings ++ group_columns l.scope (drop l.column-index l.columns)
