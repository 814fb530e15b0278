use Rattle.std.proofs.Common.{◌≡◌, drop}
use Rattle.sql_bind.specs.Bound.{item_from}
use Rattle.sql_bind.proofs.keys.item_of.Given as goal

-- the item is to be found among those that are left
abbrev pub invariant-loop-place : goal.invariant-loop-place
invariant-loop-place l = item_from 0 l.column l.items ≡ item_from l.place l.column (drop l.place l.items)
