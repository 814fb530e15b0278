use Rattle.sql_mean.proofs.ConditionLaws.{equal_to_itself, one_that_holds}
use Rattle.sql_mean.proofs.laws.a_true_condition_changes_nothing.Goals as goal

pub returns-clause-conjunct : goal.returns-clause-conjunct
returns-clause-conjunct c = one_that_holds

pub returns-clause-equal : goal.returns-clause-equal
returns-clause-equal c = equal_to_itself
