use Rattle.std.proofs.Common.{◌≡◌, ◌++◌, drop, map}
use Rattle.sql_mean.specs.Meaning.{key_of}
use Rattle.sql_mean.proofs.groups.keys_of.Given as goal

-- the keys so far are followed by those of the rows that are left
abbrev pub invariant-loop-env : goal.invariant-loop-env
invariant-loop-env l = map (key_of l.columns) l.envs ≡ l.keys ++ map (key_of l.columns) (drop l.env-index l.envs)
