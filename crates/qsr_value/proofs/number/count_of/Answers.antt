use Rattle.std.proofs.Common.{◌≡◌, ◌∙◌, true, rules}
use Rattle.std.specs.Str.Parse.{ParsesUnsigned}
use Rattle.qsr_value.specs.declared.number.TheConstants.{MAX_DIGITS}
use Rattle.qsr_value.specs.Number.{is_digits}
use Rattle.qsr_value.proofs.NumberLemmas.{parsed_count, IsUtf8-digits}
use Rattle.qsr_value.proofs.number.count_of.Goals as goal

pub returns-in-Ok : goal.returns-in-Ok
returns-in-Ok c =
    let digits : is_digits MAX_DIGITS c.args.text.now ≡ true = search rules in
    let parses : ParsesUnsigned 64 10 c.args.text.now c.parse.result = rw c.in-Ok.ensures.cases.0 at c.parse.ensures.value.0 in
    c.ok.ensures.value ∙ parsed_count c.args.text.now c.parse.result digits parses

pub returns-in-Err : goal.returns-in-Err
returns-in-Err c =
    let digits : is_digits MAX_DIGITS c.args.text.now ≡ true = search rules in
    absurd (c.in-Err.ensures.cases.0 (IsUtf8-digits c.args.text.now digits))
