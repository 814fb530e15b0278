use Rattle.std.proofs.Common.{rules, refl, ◌∙◌}
use Rattle.sql_front.specs.Tree.{at_first}
use Rattle.sql_front.specs.View.{select_tree}
use Rattle.sql_front.proofs.parser.selects.Goals as goal

pub returns-in_err-more : goal.returns-in_err-more
returns-in_err-more c = record {
  led =
      let first = c.in_ok-first.ensures.led at_first refl in
      let more = c.in_err-more.ensures.led (select_tree at_first c.in_ok-first.field-0.select) (c.in_ok-first.ensures.count at_first refl) in
      search rules;
}

pub returns : goal.returns
returns c = record {
  led = c.in_ok-first.ensures.led at_first refl ∙ c.in_ok-more.ensures.led (select_tree at_first c.in_ok-first.field-0.select) (c.in_ok-first.ensures.count at_first refl);
}
