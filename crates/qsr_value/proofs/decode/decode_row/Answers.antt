use Rattle.std.proofs.Common.{◌∙◌, arith, sym}
use Rattle.qsr_value.proofs.Lists.{slice_to_end}
use Rattle.qsr_value.proofs.Readings.{HasRead-all, HasRead-bad, HasRead-more, HasRead-too_many}
use Rattle.qsr_value.proofs.Uniqueness.{bad_is_none, one_row}
use Rattle.qsr_value.proofs.decode.decode_row.Goals as goal

pub returns-in_default-clause-bad : goal.returns-in_default-clause-bad
returns-in_default-clause-bad c =
    let bad = rw (c.in_default.is, slice_to_end c.args.bytes.now c.loop-place.at) at c.in_ok-value.ensures in
    HasRead-bad c.loop-place.invariant c.get.ensures bad

pub returns-in_default-clause-reads_back : goal.returns-in_default-clause-reads_back
returns-in_default-clause-reads_back c row fits texts same =
    let bad = rw (c.in_default.is, slice_to_end c.args.bytes.now c.loop-place.at) at c.in_ok-value.ensures in
    absurd (bad_is_none row (HasRead-bad c.loop-place.invariant c.get.ensures bad) fits texts same)

pub loop-place-preserved : goal.loop-place-preserved
loop-place-preserved c =
    let stands = rw (c.in-Some.is, slice_to_end c.args.bytes.now c.loop-place.at) at c.in_ok-value.ensures in
    rw c.in_ok-push.ensures.ok (HasRead-more c.loop-place.invariant c.get.ensures stands c.value_length-at.ensures.length)

pub returns-then-at-bytes-clause-reads_back : goal.returns-then-at-bytes-clause-reads_back
returns-then-at-bytes-clause-reads_back c row fits texts same =
    absurd (bad_is_none row (HasRead-too_many c.loop-place.invariant (omega arith) c.if-at-bytes.true) fits texts same)

pub returns-clause-reads_back : goal.returns-clause-reads_back
returns-clause-reads_back c row fits texts same =
    let all = HasRead-all c.loop-place.invariant (omega arith) c.if-at-bytes.false in
    one_row c.args.schema.now c.loop-place.row row all.0 fits (sym all.2 ∙ same)
