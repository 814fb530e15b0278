use Rattle.sql_mean.proofs.OrderLaws.{rows_rank, rows_total}
use Rattle.sql_mean.proofs.laws.order_by_is_an_order.Goals as goal

pub returns-clause-keys : goal.returns-clause-keys
returns-clause-keys c = rows_total

pub returns-clause-test : goal.returns-clause-test
returns-clause-test c = rows_rank
