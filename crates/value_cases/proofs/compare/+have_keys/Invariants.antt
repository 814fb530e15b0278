use Rattle.std.proofs.Common.{length}
use Rattle.value_cases.proofs.compare.+have_keys.Given as goal

abbrev pub decreases-have_keys : goal.decreases-have_keys
decreases-have_keys l = length l.keys.now
