use Rattle.std.proofs.Common.{◌≡◌, ◌<◌, ◌∙◌, ap, arith, length, refl, sym}
use Rattle.table_file.proofs.FieldRuns.{HasReadFields-bad, HasReadFields-missing, HasReadFields-more, HasReadFields-too_many, field_at}
use Rattle.table_file.specs.FieldsLeft.{fields_from}
use Rattle.table_file.proofs.fields.read_fields.Goals as goal

pub returns-in_default-clause-fault : goal.returns-in_default-clause-fault
returns-in_default-clause-fault c =
    let inside : c.loop-place.place < length c.args.schema.now = omega arith in
    rw c.bad_field.ensures (refl, HasReadFields-missing c.loop-place.invariant inside c.in_default.is)

pub returns-in_default-2-clause-fault : goal.returns-in_default-2-clause-fault
returns-in_default-2-clause-fault c =
    let text = c.args.text.now in
    let fields = ap (fields_from text) c.in-Some.is ∙ field_at text c.in-Some.at c.field_length.result c.field_length.ensures.fields refl in
    let none = sym c.in_default-2.is ∙ c.in_ok-value.ensures.value in
    rw c.bad_field-in_default-2.ensures (refl, HasReadFields-bad c.loop-place.invariant c.get.ensures fields none)

pub loop-place-preserved : goal.loop-place-preserved
loop-place-preserved c =
    let text = c.args.text.now in
    let left = c.next_field-next.ensures.fields in
    let fields = ap (fields_from text) c.in-Some.is ∙ field_at text c.in-Some.at c.field_length.result c.field_length.ensures.fields left in
    let value = sym c.in-Some-2.is ∙ c.in_ok-value.ensures.value in
    let fits = rw c.in-Some-2.is at c.in_ok-value.ensures.fits in
    rw c.in_ok-push.ensures.ok (HasReadFields-more c.loop-place.invariant c.get.ensures fields value fits c.next_field-next.ensures.within)

pub returns-in-Some-next-clause-fault : goal.returns-in-Some-next-clause-fault
returns-in-Some-next-clause-fault c =
    let was = rw c.in-Some-next.is at c.loop-place.invariant in
    let all : length c.args.schema.now ≡ c.loop-place.place = omega arith in
    rw (c.bad_field-in-Some-next.ensures, c.len-in-Some-next.ensures) (refl, HasReadFields-too_many was all)
