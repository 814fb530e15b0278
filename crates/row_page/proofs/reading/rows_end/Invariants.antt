use Rattle.std.proofs.Common.{◌-◌, length}
use Rattle.row_page.proofs.Fronts.{IsReadTo}
use Rattle.row_page.proofs.reading.rows_end.Given as goal

abbrev pub invariant-loop-row : goal.invariant-loop-row
invariant-loop-row l = IsReadTo l.at l.page

abbrev pub decreases-loop-row : goal.decreases-loop-row
decreases-loop-row l = length l.page - l.at
