use Rattle.std.proofs.Common.{ap, ◌∙◌, Bool}
use Rattle.sql_bind.specs.Checks.{refuse_if}
use Rattle.sql_bind.specs.Names.{TypeClash}
use Rattle.sql_bind.proofs.ComparisonLemmas.{sides_told}
use Rattle.sql_bind.proofs.conditions.comparison.Goals as goal

pub returns-then-is_text_operand-clause-checks : goal.returns-then-is_text_operand-clause-checks
returns-then-is_text_operand-clause-checks c =
    sides_told _ _ _ _ _ _ _ _ _ c.in_ok-left.ensures.checks c.in_ok-right.ensures.checks c.in_ok-left.ensures.bound c.in_ok-right.ensures.bound c.is_text_operand.ensures c.is_text_operand-2.ensures
    ∙ ap (λ (x : Bool). refuse_if x (TypeClash c.args.at)) c.if-is_text_operand.true

pub returns-clause-checks : goal.returns-clause-checks
returns-clause-checks c =
    sides_told _ _ _ _ _ _ _ _ _ c.in_ok-left.ensures.checks c.in_ok-right.ensures.checks c.in_ok-left.ensures.bound c.in_ok-right.ensures.bound c.is_text_operand.ensures c.is_text_operand-2.ensures
    ∙ ap (λ (x : Bool). refuse_if x (TypeClash c.args.at)) c.if-is_text_operand.false
