use Rattle.std.proofs.Common.{◌≡◌, ◌+◌, [], drop, ap, sym, ◌∙◌, arith}
use Rattle.std.proofs.Math.ListN.{drop_of_length-le}
use Rattle.qsr_value.specs.Columns.{width_of}
use Rattle.qsr_value.proofs.Lists.{drop-get}
use Rattle.qsr_value.proofs.schema.ListOf+Column.width.Goals as goal

pub loop-place-preserved : goal.loop-place-preserved
loop-place-preserved c =
    let next = drop-get c.args.self.now c.loop-place.place c.get.result.now c.get.ensures in
    let sum : width_of (drop c.loop-place.place c.args.self.now) ≡ c.kind_width-width.result + width_of (drop (c.loop-place.place + 1) c.args.self.now) =
    ap width_of next ∙ ap (λ n. n + width_of (drop (c.loop-place.place + 1) c.args.self.now)) (sym c.kind_width-width.ensures.value) in
    let before = c.loop-place.invariant.sum in
    let bound = c.kind_width-width.ensures.bound in
    record { sum = omega (arith, before, sum); bound = omega arith }

pub returns : goal.returns
returns c =
    let none : drop c.loop-place.place c.args.self.now ≡ [] = drop_of_length-le c.args.self.now (omega arith) in
    let sum = c.loop-place.invariant.sum in
    let rest : width_of (drop c.loop-place.place c.args.self.now) ≡ 0 = ap width_of none in
    omega (arith, sum, rest)
