use Rattle.std.proofs.Common.{false, arith}
use Rattle.sql_tokens.proofs.Order.{rises, ends}
use Rattle.sql_tokens.proofs.laws.tokens_are_in_order.Goals as goal

pub returns-clause-rise : goal.returns-clause-rise
returns-clause-rise c text = rises text 0 false 1 1 (omega arith)

pub returns-clause-ends : goal.returns-clause-ends
returns-clause-ends c text = ends text 0 false 1
