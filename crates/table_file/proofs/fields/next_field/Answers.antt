use Rattle.table_file.proofs.FieldRuns.{field_follows}
use Rattle.table_file.proofs.fields.next_field.Goals as goal

pub returns-then-end-text-clause-fields : goal.returns-then-end-text-clause-fields
returns-then-end-text-clause-fields c = field_follows c.args.text.now c.args.end c.if-end-text.true
