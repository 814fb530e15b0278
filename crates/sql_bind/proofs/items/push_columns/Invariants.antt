use Rattle.std.proofs.Common.{◌≡◌, ◌++◌, drop}
use Rattle.sql_bind.specs.Bound.{columns_from}
use Rattle.sql_bind.proofs.items.push_columns.Given as goal

-- the columns so far are followed by those that are left
abbrev pub invariant-loop-place : goal.invariant-loop-place
invariant-loop-place l = l.fn.items ++ columns_from l.table.place 0 l.table.columns ≡ l.items ++ columns_from l.table.place l.place (drop l.place l.table.columns)
