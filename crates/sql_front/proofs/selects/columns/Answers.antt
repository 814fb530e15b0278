use Rattle.std.proofs.Common.{◌∙◌}
use Rattle.sql_front.specs.Machine.{group_k}
use Rattle.sql_front.proofs.SelectLemmas.{waits, last_column, past_comma}
use Rattle.sql_front.proofs.selects.columns.Goals as goal

pub returns-in_default : goal.returns-in_default
returns-in_default c = record {
  led = λ h. c.loop-columns.invariant h ∙ (c.in_ok-whole_column.ensures.led (group_k (waits h c.loop-columns.columns))
      ∙ last_column h c.loop-columns.columns c.into_items.result c.in_ok-whole_column.field-0 c.whole_column.new.input c.peek.result (c.into_items.ensures ∙ c.in_ok-push.ensures.ok) c.peek.ensures.first c.in_default.not-Comma);
}

pub loop-columns-preserved : goal.loop-columns-preserved
loop-columns-preserved c = λ h. c.loop-columns.invariant h ∙ (c.in_ok-whole_column.ensures.led (group_k (waits h c.loop-columns.columns))
    ∙ past_comma h c.loop-columns.columns c.push.new.self c.in_ok-whole_column.field-0 c.whole_column.new.input c.advance.new.self c.peek.result c.in_ok-push.ensures.ok c.peek.ensures.first c.in-Comma.is
    c.advance.ensures.rest c.advance.ensures.text)
