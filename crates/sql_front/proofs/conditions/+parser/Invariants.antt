use Rattle.std.proofs.Common.{length, ◌+◌, ◌*◌}
use Rattle.sql_front.proofs.Chains.{ReadsUnits}
use Rattle.sql_front.proofs.conditions.+parser.Given as goal

abbrev pub decreases-predicate : goal.decreases-predicate
decreases-predicate l = 2 * length l.input.now.rest

abbrev pub decreases-cond : goal.decreases-cond
decreases-cond l = 2 * length l.input.now.rest + 1

abbrev pub invariant-cond-units : goal.invariant-cond-units
invariant-cond-units l = ReadsUnits l.depth l.fn.input l.first l.more l.input

abbrev pub decreases-cond-units : goal.decreases-cond-units
decreases-cond-units l = length l.input.rest
