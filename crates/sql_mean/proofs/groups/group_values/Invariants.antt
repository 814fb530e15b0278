use Rattle.std.proofs.Common.{◌≡◌, ◌++◌, drop, map}
use Rattle.sql_mean.specs.Meaning.{group_value}
use Rattle.sql_mean.proofs.groups.group_values.Given as goal

-- the values so far are followed by those of the items that are left
abbrev pub invariant-loop-item : goal.invariant-loop-item
invariant-loop-item l = map (group_value l.columns l.key l.envs) l.items ≡ l.row ++ map (group_value l.columns l.key l.envs) (drop l.item-index l.items)
