use Rattle.std.proofs.Common.{rules}
use Rattle.sql_front.proofs.Passing.{passes_number}
use Rattle.sql_front.proofs.numbers.number.Goals as goal

pub returns-in-Number-clause-led : goal.returns-in-Number-clause-led
returns-in-Number-clause-led c = λ next.
    let value = c.in-Number.value in
    let new = c.advance.new.self in
    rw c.peek-token.ensures.first (passes_number c.args.least c.args.most next value c.args.input.now new (search rules) c.if-least-value.true c.if-value-most.true c.advance.ensures.rest c.advance.ensures.text)
