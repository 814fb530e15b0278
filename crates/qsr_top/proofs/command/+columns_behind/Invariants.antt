use Rattle.std.proofs.Common.{length}
use Rattle.qsr_top.proofs.command.+columns_behind.Given as goal

abbrev pub decreases-columns_behind : goal.decreases-columns_behind
decreases-columns_behind l = length l.words.now
