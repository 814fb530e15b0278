use Rattle.std.proofs.Common.{◌≡◌, take}
use Rattle.qsr_lists.specs.Lists.{firsts}
use Rattle.sql_mean.specs.Rows.{same_row}
use Rattle.sql_mean.proofs.distinct.firsts.Given as goal

-- each of the rows so far, once
abbrev pub invariant-loop-row : goal.invariant-loop-row
invariant-loop-row l = l.once ≡ firsts same_row (take l.row-index l.rows)
