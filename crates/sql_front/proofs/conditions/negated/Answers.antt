use Rattle.std.proofs.Common.{rules, true, false, ◌≡◌}
use Rattle.sql_front.proofs.ConditionTokens.{side_negated}
use Rattle.sql_front.specs.Seen.{wide}
use Rattle.sql_front.proofs.conditions.negated.Goals as goal

pub returns-in-Number-clause-led : goal.returns-in-Number-clause-led
returns-in-Number-clause-led c = λ k.
    let narrow : wide true c.in-Number.value ≡ false = search rules in
    side_negated c.args.minus k c.args.input.now c.advance.new.self c.peek-what.result c.in-Number.value c.peek-what.ensures.first c.in-Number.is narrow c.advance.ensures.rest c.advance.ensures.text
