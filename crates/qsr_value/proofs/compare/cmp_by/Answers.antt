use Rattle.std.proofs.Common.{◌+◌, ◌∙◌, ap, arith, drop, false, sym}
use Rattle.std.specs.Ordering.{ordering_then}
use Rattle.qsr_value.specs.Ordered.{compare_by}
use Rattle.qsr_value.proofs.Orders.{HaveKeys-key, compare_by-end, compare_by-next, decides, leaves}
use Rattle.qsr_value.proofs.compare.cmp_by.Goals as goal

pub cmp_at-order-requires : goal.cmp_at-order-requires
cmp_at-order-requires c = HaveKeys-key c.args.keys.now c.args.a.now c.args.b.now c.loop-key.key-index _ c.requires c.loop-key-test.true

pub returns-then-ne : goal.returns-then-ne
returns-then-ne c =
    let rest = compare_by (drop (c.loop-key.key-index + 1) c.args.keys.now) c.args.a.now c.args.b.now in
    let next = compare_by-next c.args.keys.now c.args.a.now c.args.b.now c.loop-key.key-index (record { column = 0; descending = false }) c.loop-key-test.true in
    let decided = decides c.cmp_at-order.result rest (sym c.ne.ensures ∙ c.if-ne.true) in
    sym (c.loop-key.invariant ∙ next ∙ ap (λ first. ordering_then first rest) (sym c.cmp_at-order.ensures) ∙ decided)

pub loop-key-preserved : goal.loop-key-preserved
loop-key-preserved c =
    let rest = compare_by (drop (c.loop-key.key-index + 1) c.args.keys.now) c.args.a.now c.args.b.now in
    let next = compare_by-next c.args.keys.now c.args.a.now c.args.b.now c.loop-key.key-index (record { column = 0; descending = false }) c.loop-key-test.true in
    let left = leaves c.cmp_at-order.result rest (sym c.ne.ensures ∙ c.if-ne.false) in
    c.loop-key.invariant ∙ next ∙ ap (λ first. ordering_then first rest) (sym c.cmp_at-order.ensures) ∙ left

pub returns : goal.returns
returns c = sym (c.loop-key.invariant ∙ compare_by-end c.args.keys.now c.args.a.now c.args.b.now c.loop-key.key-index (omega arith))
