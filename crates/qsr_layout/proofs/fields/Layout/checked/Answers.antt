use Rattle.std.proofs.Common.{arith}
use Rattle.qsr_layout.proofs.FieldLemmas.{starts_behind}
use Rattle.qsr_layout.proofs.fields.Layout.checked.Goals as goal
use Rattle.qsr_layout.proofs.fields.Layout.checked.Goals.{then-field-lt1-via-then-field-lt1, then-field-lt1-via-else-field-lt1+then-field-gt-FIELD_BYTES, then-field-lt1-via-else-field-lt1+else-field-gt-FIELD_BYTES+then-field-end}

pub returns-then-field-lt1 : goal.returns-then-field-lt1
returns-then-field-lt1 g c = (
  λ never. cc,
  λ checked.
      let some = checked.some c.fields.place (omega arith) in
      let most = checked.most c.fields.place (omega arith) in
      let behind = starts_behind c.args.self.now.fields c.fields.place c.fields.end c.fields.invariant.1 (omega arith) checked in
      elim c.then-field-lt1.branch [
        | then-field-lt1-via-then-field-lt1 w ↦ absurd (omega (arith, some))
        | then-field-lt1-via-else-field-lt1+then-field-gt-FIELD_BYTES w ↦ absurd (omega (arith, most))
        | then-field-lt1-via-else-field-lt1+else-field-gt-FIELD_BYTES+then-field-end w ↦ absurd (omega (arith, behind))
      ],
)
