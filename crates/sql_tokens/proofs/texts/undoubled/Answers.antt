use Rattle.std.proofs.Common.{sym, ◌∙◌}
use Rattle.sql_tokens.proofs.Copies.{kept, left_out}
use Rattle.sql_tokens.proofs.texts.undoubled.Goals as goal
use Rattle.sql_tokens.proofs.texts.undoubled.Goals.{then-not-is_second_mark+in_ok-push, else-not-is_second_mark}

pub loop-b-preserved : goal.loop-b-preserved
loop-b-preserved c =
    let bytes = c.args.bytes.now in
    let at = c.loop-b.b-index in
    let marked = c.loop-b.marked in
    let said = c.loop-b.copy in
    elim c.if-not-is_second_mark.branch [
      | then-not-is_second_mark+in_ok-push w ↦
          let turn = kept said marked bytes at c.loop-b-test.true (sym c.is_second_mark.ensures ∙ w.if-not-is_second_mark.true) in
          let pushed = w.in_ok-push.ensures.ok in
          cc
      | else-not-is_second_mark w ↦
          let turn = left_out said marked bytes at c.loop-b-test.true (sym c.is_second_mark.ensures ∙ w.if-not-is_second_mark.false) in
          cc
    ]
