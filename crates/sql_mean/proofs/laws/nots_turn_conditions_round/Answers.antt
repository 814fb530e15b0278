use Rattle.sql_mean.proofs.ConditionLaws.{not_any}
use Rattle.sql_mean.proofs.laws.nots_turn_conditions_round.Goals as goal

pub returns-clause-or : goal.returns-clause-or
returns-clause-or c = λ cs env. not_any env cs
