use Rattle.std.proofs.Common.{rules, ◌∙◌}
use Rattle.sql_front.proofs.FromLemmas.{all_passed, union_refused}
use Rattle.sql_front.proofs.tables.all_word.Goals as goal

pub returns-in_default : goal.returns-in_default
returns-in_default c = record {
  led = λ g. union_refused g c.args.union c.args.input.now (λ is. search rules) ∙ search rules;
}

pub returns-in-Some-All : goal.returns-in-Some-All
returns-in-Some-All c = record {
  led = λ g. all_passed g c.args.union c.args.input.now c.advance.new.self (search rules) c.advance.ensures.rest c.advance.ensures.text ∙ search rules;
}
