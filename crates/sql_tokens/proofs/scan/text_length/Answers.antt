use Rattle.std.proofs.Common.{ap, sym, ◌∙◌, ◌+◌, drop, arith}
use Rattle.sql_tokens.specs.Text.{text_length, past}
use Rattle.sql_tokens.proofs.Steps.{text_passed}
use Rattle.sql_tokens.proofs.scan.text_length.Goals as goal

pub loop-at-preserved : goal.loop-at-preserved
loop-at-preserved c =
    let rest = c.args.rest.now in
    let at = c.loop-at.at in (
      omega (arith, c.loop-at-test.true),
      c.loop-at.invariant.1 ∙ text_passed c.loop-at.marked rest at c.loop-at-test.true (sym c.is_behind.ensures ∙ c.if-is_behind.false)
          ∙ ap (λ marked. past (at + 1) (text_length marked (drop (at + 1) rest))) (sym c.is_open_mark-marked.ensures),
    )
