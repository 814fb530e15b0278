use Rattle.std.proofs.Common.{◌≡◌, ◌++◌, drop, map}
use Rattle.qsr_lists.specs.Lists.{of_key}
use Rattle.sql_mean.specs.Meaning.{key_of}
use Rattle.sql_mean.specs.Rows.{Row, same_row}
use Rattle.sql_mean.proofs.groups.groups_of.Given as goal

-- the groups so far are followed by those of the keys that are left
abbrev pub invariant-loop-key : goal.invariant-loop-key
invariant-loop-key l =
    map (λ (key : Row). (key, of_key same_row (key_of l.columns) l.envs key)) l.keys
    ≡ l.made ++ map (λ (key : Row). (key, of_key same_row (key_of l.columns) l.envs key)) (drop l.key-index l.keys)
