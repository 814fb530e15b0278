use Rattle.std.proofs.Common.{arith}
use Rattle.table_file.proofs.FieldRuns.{first_field}
use Rattle.table_file.proofs.fields.field_length.Goals as goal

pub returns-then-byte-eq9-clause-fields : goal.returns-then-byte-eq9-clause-fields
returns-then-byte-eq9-clause-fields c =
    first_field c.args.text.now c.loop-place.place (omega arith) c.loop-place.invariant (λ inside. c.if-byte-eq9.true)

pub returns-clause-fields : goal.returns-clause-fields
returns-clause-fields c =
    first_field c.args.text.now _ (omega arith) (λ k below. c.loop-place.invariant k (omega arith)) (λ inside. absurd (omega arith))
