use Rattle.table_file.proofs.FieldRuns.{HasReadFields}
use Rattle.table_file.proofs.fields.read_fields.Given as goal

-- the fields before the column at `place` were read
abbrev pub invariant-loop-place : goal.invariant-loop-place
invariant-loop-place l = HasReadFields l.schema l.text l.place l.next l.row
