use Rattle.std.proofs.Common.{arith, ◌∙◌}
use Rattle.sql_front.specs.Machine.{side_k}
use Rattle.sql_front.proofs.ConditionTokens.{side_name, side_minus}
use Rattle.sql_front.proofs.conditions.side.Goals as goal

pub returns-in_err-column-in-Name-clause-led : goal.returns-in_err-column-in-Name-clause-led
returns-in_err-column-in-Name-clause-led c = λ k.
    let begun = side_name k c.args.input.now c.advance.new.self c.peek-what.result c.in-Name.name c.peek-what.ensures.first c.in-Name.is c.advance.ensures.rest c.advance.ensures.text in
    grind (arith, begun, c.in_err-column-in-Name.ensures.led (side_k k))

pub returns-in_ok-column-in-Name-clause-led : goal.returns-in_ok-column-in-Name-clause-led
returns-in_ok-column-in-Name-clause-led c = λ k.
    side_name k c.args.input.now c.advance.new.self c.peek-what.result c.in-Name.name c.peek-what.ensures.first c.in-Name.is c.advance.ensures.rest c.advance.ensures.text
    ∙ c.in_ok-column-in-Name.ensures.led (side_k k)

pub returns-in_ok-number-in-Minus-clause-led : goal.returns-in_ok-number-in-Minus-clause-led
returns-in_ok-number-in-Minus-clause-led c = λ k.
    side_minus k c.args.input.now c.advance-in-Minus.new.self c.peek-what.result c.peek-what.ensures.first c.in-Minus.is c.advance-in-Minus.ensures.rest c.advance-in-Minus.ensures.text
    ∙ c.in_ok-number-in-Minus.ensures.led k
