use Rattle.sql_front.proofs.ConditionTokens.{sign_passed}
use Rattle.sql_front.proofs.conditions.operator.Goals as goal

pub returns-clause-led : goal.returns-clause-led
returns-clause-led c = λ l k. sign_passed l k c.args.input.now c.advance.new.self c.peek-what.result c.in-Some.how c.peek-what.ensures.first c.in-Some.ensures c.advance.ensures.rest c.advance.ensures.text
