use Rattle.std.proofs.Common.{◌≡◌, ◌++◌, drop, map}
use Rattle.sql_mean.specs.Meaning.{value_at}
use Rattle.sql_mean.proofs.groups.key_of.Given as goal

-- the values so far are followed by those of the columns that are left
abbrev pub invariant-loop-column : goal.invariant-loop-column
invariant-loop-column l = map (value_at l.env) l.columns ≡ l.key ++ map (value_at l.env) (drop l.column-index l.columns)
