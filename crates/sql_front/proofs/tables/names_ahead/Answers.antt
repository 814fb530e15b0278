use Rattle.std.proofs.Common.{rules, ◌∙◌}
use Rattle.sql_front.proofs.FromLemmas.{left_named_here, union_named_here, no_word_here}
use Rattle.sql_front.proofs.tables.names_ahead.Goals as goal

pub returns-in_default : goal.returns-in_default
returns-in_default c = record {
  led = λ f. no_word_here f c.args.name c.args.input.now (search rules) (λ is. search rules);
}

pub returns-in_ok-join-in-Some-Left : goal.returns-in_ok-join-in-Some-Left
returns-in_ok-join-in-Some-Left c = record {
  led = λ f. left_named_here f c.args.name c.args.input.now c.advance.new.self (search rules) (search rules) c.advance.ensures.rest c.advance.ensures.text ∙ search rules;
}

pub returns-in_ok-places-in-Some-Union : goal.returns-in_ok-places-in-Some-Union
returns-in_ok-places-in-Some-Union c = record {
  led = λ f.
      let passed = c.advance-in-Some-Union in
      union_named_here f c.args.name c.args.input.now passed.new.self (search rules) (search rules) passed.ensures.rest passed.ensures.text ∙ search rules;
}
