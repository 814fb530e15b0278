use Rattle.std.proofs.Common.{drop}
use Rattle.sql_bind.proofs.ConjunctLemmas.{PartsLeft}
use Rattle.sql_bind.specs.View.{conditions_of}
use Rattle.sql_front.specs.View.{cond_tree}
use Rattle.sql_bind.proofs.conjuncts.+split.Given as goal

abbrev pub invariant-push_conjuncts-loop-next : goal.invariant-push_conjuncts-loop-next
invariant-push_conjuncts-loop-next l = PartsLeft l.scope (conditions_of l.fn.conjuncts) (cond_tree l.cond) (conditions_of l.conjuncts) (drop l.next-index l.more)
