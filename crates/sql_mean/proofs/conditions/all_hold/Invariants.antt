use Rattle.std.proofs.Common.{◌≡◌, drop}
use Rattle.sql_bind.specs.View.{conditions_of}
use Rattle.sql_mean.specs.Meaning.{all_hold}
use Rattle.sql_mean.proofs.ConditionViews.{each_holds}
use Rattle.sql_mean.proofs.conditions.all_hold.Given as goal

abbrev pub invariant-loop-condition : goal.invariant-loop-condition
invariant-loop-condition l = all_hold l.env (conditions_of l.conditions) ≡ each_holds l.env (drop l.condition-index l.conditions)
