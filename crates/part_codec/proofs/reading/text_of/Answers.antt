use Rattle.std.proofs.Common.{arith, subst, sym, ◌∙◌}
use Rattle.std.specs.Str.{IsUtf8}
use Rattle.part_codec.proofs.Parts.{text_missed, text_read}
use Rattle.part_codec.proofs.reading.text_of.Goals as goal

pub returns-in_ok-from_str-in-Ok : goal.returns-in_ok-from_str-in-Ok
returns-in_ok-from_str-in-Ok c =
    let cases = c.in-Ok.ensures.cases in
    let front = c.split_at.ensures.front in
    let text_is = c.in_ok-from_str-in-Ok.ensures ∙ cases.0 ∙ front in
    let utf8 = subst IsUtf8 front cases.1 in
    rw (text_is, c.split_at.ensures.back) (text_read c.args.size c.args.bytes.now (omega arith) utf8)

pub returns-in-Err : goal.returns-in-Err
returns-in-Err c = text_missed c.args.size c.args.bytes.now (omega arith) (λ utf8. c.in-Err.ensures.cases.0 (subst IsUtf8 (sym c.split_at.ensures.front) utf8))
