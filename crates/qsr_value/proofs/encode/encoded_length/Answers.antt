use Rattle.std.proofs.Common.{◌≡◌, ◌+◌, ◌∙◌, ap, arith, drop, length, length-append}
use Rattle.qsr_value.specs.Encoding.{encoded, encoded_row}
use Rattle.qsr_value.proofs.Encodings.{AreTexts-end, AreTexts-next, Fits-get, Fits-length, encoded_row-end, encoded_row-next}
use Rattle.qsr_value.proofs.encode.encoded_length.Goals as goal

pub get-requires-in-loop-place : goal.get-requires-in-loop-place
get-requires-in-loop-place c = omega (arith, Fits-length c.args.schema.now c.args.row.now c.requires)

pub value_length-requires : goal.value_length-requires
value_length-requires c =
    Fits-get c.args.schema.now c.args.row.now c.loop-place.place c.get-in-loop-place.result.now c.get.result.now c.requires c.get-in-loop-place.ensures c.get.ensures

pub loop-place-preserved : goal.loop-place-preserved
loop-place-preserved c =
    let next = encoded_row-next c.args.schema.now c.args.row.now c.loop-place.place c.get-in-loop-place.result.now c.get.result.now c.get-in-loop-place.ensures c.get.ensures in
    let long : length (encoded_row (drop c.loop-place.place c.args.schema.now) (drop c.loop-place.place c.args.row.now))
    ≡ c.value_length.result + length (encoded_row (drop (c.loop-place.place + 1) c.args.schema.now) (drop (c.loop-place.place + 1) c.args.row.now)) =
    let value = c.value_length.ensures.length in
    ap length next ∙ omega (
      arith,
      value,
      length-append (encoded c.get-in-loop-place.result.now.kind c.get.result.now)
          (encoded_row (drop (c.loop-place.place + 1) c.args.schema.now) (drop (c.loop-place.place + 1) c.args.row.now)),
    ) in
    let count = c.loop-place.invariant.count in
    let sum = c.saturating_add-length.ensures in
    record {
      count = omega (arith, count, sum, long);
      bound = omega (arith, sum);
      texts = λ rest. c.loop-place.invariant.texts (AreTexts-next c.args.row.now c.loop-place.place c.get.result.now c.get.ensures c.value_length.ensures.text rest);
    }

pub returns-clause-texts : goal.returns-clause-texts
returns-clause-texts c = c.loop-place.invariant.texts (AreTexts-end c.args.row.now c.loop-place.place (omega arith))

pub returns-clause-length : goal.returns-clause-length
returns-clause-length c =
    let none = ap length (encoded_row-end c.args.schema.now c.args.row.now c.loop-place.place (omega arith)) in
    let count = c.loop-place.invariant.count in
    let bound = c.loop-place.invariant.bound in
    omega (arith, count, bound, none)
