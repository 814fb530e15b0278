use Rattle.qsr_value.proofs.Readings.{HasRead}
use Rattle.qsr_value.proofs.decode.decode_row.Given as goal

-- the values of the columns before `place` were read
abbrev pub invariant-loop-place : goal.invariant-loop-place
invariant-loop-place l = HasRead l.schema l.bytes l.place l.at l.row
