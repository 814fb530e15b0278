use Rattle.std.proofs.Common.{rules, ◌∙◌}
use Rattle.sql_front.specs.Machine.{used_word}
use Rattle.sql_front.proofs.Passing.{passed}
use Rattle.sql_front.proofs.TailLemmas.{use_passed, use_refused}
use Rattle.sql_front.proofs.options.used.Goals as goal

pub returns-in-Some-clause-led : goal.returns-in-Some-clause-led
returns-in-Some-clause-led c = λ k.
    let at = c.args.input.now.first.at in
    let method = c.advance-in-Some in
    passed (used_word at k) c.args.input.now c.advance.new.self c.advance.ensures.rest c.advance.ensures.text
    ∙ use_passed at k c.in-Some.method c.advance.new.self method.new.self (search rules) method.ensures.rest method.ensures.text
    ∙ search rules

pub returns-in-None-clause-led : goal.returns-in-None-clause-led
returns-in-None-clause-led c = λ k.
    let at = c.args.input.now.first.at in
    passed (used_word at k) c.args.input.now c.advance.new.self c.advance.ensures.rest c.advance.ensures.text
    ∙ use_refused at k c.advance.new.self (search rules)
    ∙ search rules
