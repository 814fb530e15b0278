use Rattle.std.proofs.Common.{length}
use Rattle.case_kit.proofs.fitting.+fits.Given as goal

abbrev pub decreases-fits : goal.decreases-fits
decreases-fits l = length l.columns.now
