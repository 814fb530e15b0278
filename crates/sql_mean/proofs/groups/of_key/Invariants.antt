use Rattle.std.proofs.Common.{◌≡◌, ◌++◌, drop}
use Rattle.qsr_lists.specs.Lists.{of_key}
use Rattle.sql_mean.specs.Meaning.{key_of}
use Rattle.sql_mean.specs.Rows.{same_row}
use Rattle.sql_mean.proofs.groups.of_key.Given as goal

-- the rows so far are followed by those that are left
abbrev pub invariant-loop-env : goal.invariant-loop-env
invariant-loop-env l = of_key same_row (key_of l.columns) l.envs l.key ≡ l.rows ++ of_key same_row (key_of l.columns) (drop l.env-index l.envs) l.key
