use Rattle.std.proofs.Common.{rules, ◌∙◌}
use Rattle.sql_front.proofs.SelectLemmas.{last_select, union_passed}
use Rattle.sql_front.proofs.selects.union_part.Goals as goal

pub returns-in_default : goal.returns-in_default
returns-in_default c = record {
  led = λ g. last_select g c.args.input.now (λ is. search rules);
}

pub returns-in_ok-places-in-Some-Union : goal.returns-in_ok-places-in-Some-Union
returns-in_ok-places-in-Some-Union c = record {
  led = λ g. union_passed g c.args.input.now c.advance.new.self (search rules) c.advance.ensures.rest c.advance.ensures.text ∙ search rules;
}
