use Rattle.std.proofs.Common.{rules, refl, ◌∙◌}
use Rattle.sql_tokens.specs.declared.token.What.TheVariants as what
use Rattle.sql_front.specs.Machine.{more_optioned, after_semicolon}
use Rattle.sql_front.proofs.Passing.{passes_on}
use Rattle.sql_front.proofs.tail.end_part.Goals as goal

pub returns-in_ok-end-in-Semicolon : goal.returns-in_ok-end-in-Semicolon
returns-in_ok-end-in-Semicolon c = record {
  led = λ p.
      passes_on (more_optioned p) (after_semicolon p) what.Semicolon c.args.input.now c.advance.new.self (search rules) c.advance.ensures.rest c.advance.ensures.text refl refl
      ∙ c.in_ok-end-in-Semicolon.ensures.led p;
}
