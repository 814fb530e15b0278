use Rattle.std.proofs.Common.{◌≡◌, ◌+◌, ◌-◌, ◌≤◌, ap, arith, drop, subst, sym, take, ◌∙◌}
use Rattle.std.specs.Str.{IsUtf8}
use Rattle.qsr_value.proofs.Numbers.{AreBytes}
use Rattle.qsr_value.proofs.Readings.{text_stands}
use Rattle.qsr_value.proofs.decode.text_at_front.Goals as goal

pub returns-in-Ok : goal.returns-in-Ok
returns-in-Ok c =
    let bytes = c.args.bytes.now in
    let length = c.read_u16-length.result in
    let are : AreBytes bytes = record { each = λ i. (c.type_inv.bytes i).fits } in
    let room = c.if-bytes-length.false in
    let some = c.if-bytes-lt-LENGTH_BYTES.false in
    let within : length ≤ c.args.max = omega arith in
    let short = c.read_u16-length.type_inv in
    let count : (2 + length) - 2 ≡ length = omega arith in
    let cases = c.in-Ok.ensures.cases in
    let text_is = cases.0 ∙ ap (λ n. take n (drop 2 bytes)) count in
    let utf8 = subst IsUtf8 (sym cases.0) cases.1 in
    text_stands c.args.max bytes c.in-Ok.text.now length (omega (arith, room, some)) are within short c.read_u16-length.ensures text_is utf8
