use Rattle.std.proofs.Common.{◌≡◌, drop}
use Rattle.sql_mean.specs.Rows.{same_row}
use Rattle.sql_mean.proofs.distinct.same_row.Given as goal

-- the rows are the same where the values that are left are
abbrev pub invariant-loop-place : goal.invariant-loop-place
invariant-loop-place l = same_row l.a l.b ≡ same_row (drop l.place l.a) (drop l.place l.b)
