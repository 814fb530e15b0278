use Rattle.std.proofs.Common.{◌≡◌, ◌∙◌, true, rules}
use Rattle.std.specs.Int.{w64}
use Rattle.std.specs.Str.Parse.{ParsesSigned}
use Rattle.qsr_value.specs.declared.number.TheConstants.{MAX_SIGNED_DIGITS}
use Rattle.qsr_value.specs.Number.{is_digits, without_minus}
use Rattle.qsr_value.proofs.NumberLemmas.{parsed, IsUtf8-number}
use Rattle.qsr_value.proofs.number.number_of.Goals as goal

pub returns-in-Ok : goal.returns-in-Ok
returns-in-Ok c =
    let digits : is_digits MAX_SIGNED_DIGITS (without_minus c.args.text.now) ≡ true = search rules in
    let parses : ParsesSigned w64 10 c.args.text.now c.parse.result = rw c.in-Ok.ensures.cases.0 at c.parse.ensures.value.0 in
    c.ok.ensures.value ∙ parsed c.args.text.now c.parse.result digits parses

pub returns-in-Err : goal.returns-in-Err
returns-in-Err c =
    let digits : is_digits MAX_SIGNED_DIGITS (without_minus c.args.text.now) ≡ true = search rules in
    absurd (c.in-Err.ensures.cases.0 (IsUtf8-number c.args.text.now digits))
