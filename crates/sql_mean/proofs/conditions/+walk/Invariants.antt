use Rattle.std.proofs.Common.{◌≡◌, drop}
use Rattle.sql_bind.specs.View.{condition_of}
use Rattle.sql_mean.specs.Meaning.{holds}
use Rattle.sql_mean.proofs.ConditionViews.{each_holds, some_holds}
use Rattle.sql_mean.proofs.conditions.+walk.Given as goal

abbrev pub invariant-loop-next : goal.invariant-loop-next
invariant-loop-next l = holds l.env (condition_of l.condition) ≡ each_holds l.env (drop l.next-index l.next-items)

abbrev pub invariant-loop-next-2 : goal.invariant-loop-next-2
invariant-loop-next-2 l = holds l.env (condition_of l.condition) ≡ some_holds l.env (drop l.next-index l.next-items)
