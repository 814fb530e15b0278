use Rattle.std.proofs.Common.{length}
use Rattle.table_cases.proofs.fits.+are_each.Given as goal

abbrev pub decreases-are_each : goal.decreases-are_each
decreases-are_each l = length l.columns.now
