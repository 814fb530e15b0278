use Rattle.std.proofs.Common.{◌≡◌, drop}
use Rattle.sql_bind.specs.View.{has_or}
use Rattle.sql_bind.proofs.conjuncts.has_or.Given as goal

abbrev pub invariant-loop-next : goal.invariant-loop-next
invariant-loop-next l = has_or l.more ≡ has_or (drop l.next-index l.more)
