use Rattle.std.proofs.Common.{length}
use Rattle.sql_front.proofs.Chains.{ReadsNots}
use Rattle.sql_front.proofs.conditions.nots.Given as goal

abbrev pub invariant-nots : goal.invariant-nots
invariant-nots l = ReadsNots l.depth l.fn.input l.count l.input

abbrev pub decreases-nots : goal.decreases-nots
decreases-nots l = length l.input.rest
