use Rattle.std.proofs.Common.{rules, ◌∙◌}
use Rattle.sql_front.proofs.FromLemmas.{semi_passed, anti_passed, left_refused}
use Rattle.sql_front.proofs.tables.left_join.Goals as goal

pub returns-in_default : goal.returns-in_default
returns-in_default c = record {
  led = λ f. left_refused f c.args.left c.args.input.now (λ is. search rules) (λ is. search rules) ∙ search rules;
}

pub returns-in_ok-pass_join-in-Some-Semi : goal.returns-in_ok-pass_join-in-Some-Semi
returns-in_ok-pass_join-in-Some-Semi c = record {
  led = λ f. semi_passed f c.args.left c.args.input.now c.advance.new.self (search rules) c.advance.ensures.rest c.advance.ensures.text ∙ search rules;
}

pub returns-in_ok-pass_join-in-Some-Anti : goal.returns-in_ok-pass_join-in-Some-Anti
returns-in_ok-pass_join-in-Some-Anti c = record {
  led = λ f.
      let passed = c.advance-in-Some-Anti in
      anti_passed f c.args.left c.args.input.now passed.new.self (search rules) passed.ensures.rest passed.ensures.text ∙ search rules;
}
