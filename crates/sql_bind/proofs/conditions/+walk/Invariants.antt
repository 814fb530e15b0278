use Rattle.std.proofs.Common.{drop}
use Rattle.sql_bind.proofs.ConditionLemmas.{HasRead}
use Rattle.sql_bind.specs.Gathered.{condition_view}
use Rattle.sql_front.specs.View.{cond_tree}
use Rattle.sql_bind.proofs.conditions.+walk.Given as goal

abbrev pub invariant-cond-loop-next : goal.invariant-cond-loop-next
invariant-cond-loop-next l = HasRead l.scope (cond_tree l.cond) (condition_view l.read) (drop l.next-index l.more)
