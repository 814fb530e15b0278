use Rattle.sql_mean.proofs.ConditionLaws.{any_order, any_order_of_where}
use Rattle.sql_mean.proofs.laws.conjuncts_in_any_order.Goals as goal

pub returns-clause-rows : goal.returns-clause-rows
returns-clause-rows c = any_order

pub returns-clause-bag : goal.returns-clause-bag
returns-clause-bag c = any_order_of_where
