use Rattle.std.proofs.Common.{◌≡◌, ◌++◌, drop, map}
use Rattle.sql_mean.specs.Meaning.{plain_value}
use Rattle.sql_mean.proofs.items.plain_row.Given as goal

-- the values so far are followed by those of the items that are left
abbrev pub invariant-loop-item : goal.invariant-loop-item
invariant-loop-item l = map (plain_value l.env) l.items ≡ l.row ++ map (plain_value l.env) (drop l.item-index l.items)
