use Rattle.std.proofs.Common.{rules, refl}
use Rattle.sql_front.specs.Machine.{want_cond, where_k}
use Rattle.sql_front.specs.Reads.{begin_where}
use Rattle.sql_front.proofs.Passing.{passes_on}
use Rattle.sql_tokens.specs.declared.token.Keyword.TheVariants as kw
use Rattle.sql_tokens.specs.declared.token.What.TheVariants as what
use Rattle.sql_front.proofs.selects.where_part.Goals as goal

pub returns-in-Word-Where : goal.returns-in-Word-Where
returns-in-Word-Where c = record {
  led = λ f.
      rw (passes_on (begin_where f) (want_cond (where_k f)) (what.Word kw.Where) c.args.input.now c.advance.new.self (search rules) c.advance.ensures.rest c.advance.ensures.text refl refl)
      (c.condition.ensures.led f);
}
