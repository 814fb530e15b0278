use Rattle.std.proofs.Common.{rules, refl}
use Rattle.sql_tokens.specs.declared.token.What.TheVariants as what
use Rattle.sql_front.specs.Machine.{want_key, after_column, key_k}
use Rattle.sql_front.specs.Tree.{plain}
use Rattle.sql_front.specs.View.{name_tree}
use Rattle.sql_front.proofs.Passing.{passes}
use Rattle.sql_front.proofs.TailLemmas.{key_leads}
use Rattle.sql_front.proofs.tail.key_of.Goals as goal

pub returns-in_err-named-in-Name-clause-led : goal.returns-in_err-named-in-Name-clause-led
returns-in_err-named-in-Name-clause-led c = λ k.
    let first = name_tree (record { name = c.in-Name.name; at = c.peek-token.result.at }) in
    let passed = passes (want_key k) (after_column (plain first) (key_k k)) (what.Name c.in-Name.name) c.args.input.now c.advance.new.self
    (search rules) c.advance.ensures.rest c.advance.ensures.text refl (search rules) in
    let leads = c.column.ensures.led (key_k k) in
    search rules

pub returns-in_err-n-in-Number-clause-led : goal.returns-in_err-n-in-Number-clause-led
returns-in_err-n-in-Number-clause-led c = λ k.
    let leads = key_leads k c.in-Number.field-0 c.args.input.now c.number.new.input c.number.result (search rules) c.number.ensures.led in
    search rules

pub returns-in_ok-n-in-Number-clause-led : goal.returns-in_ok-n-in-Number-clause-led
returns-in_ok-n-in-Number-clause-led c = λ k.
    let leads = key_leads k c.in-Number.field-0 c.args.input.now c.number.new.input c.number.result (search rules) c.number.ensures.led in
    search rules
