use Rattle.std.proofs.Common.{rules, refl, ◌∙◌}
use Rattle.sql_tokens.specs.declared.token.Keyword.TheVariants as keyword
use Rattle.sql_tokens.specs.declared.token.What.TheVariants as what
use Rattle.sql_front.specs.Machine.{limit_word, more_order}
use Rattle.sql_front.proofs.Passing.{passes_on}
use Rattle.sql_front.proofs.TailLemmas.{limit_leads}
use Rattle.sql_front.proofs.tail.limit_part.Goals as goal

pub returns-in_err-n-in-Word-Limit : goal.returns-in_err-n-in-Word-Limit
returns-in_err-n-in-Word-Limit c = record {
  led = λ o.
      let leads = limit_leads o c.advance.new.self c.number.new.input c.number.result c.number.ensures.led in
      search rules;
}

pub returns-in_ok-n-in-Word-Limit : goal.returns-in_ok-n-in-Word-Limit
returns-in_ok-n-in-Word-Limit c = record {
  led = λ o.
      passes_on (more_order o) (limit_word o) (what.Word keyword.Limit) c.args.input.now c.advance.new.self (search rules) c.advance.ensures.rest c.advance.ensures.text refl refl
      ∙ (rw c.in_ok-n-in-Word-Limit.was at (limit_leads o c.advance.new.self c.number.new.input c.number.result c.number.ensures.led));
}
