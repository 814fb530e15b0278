use Rattle.std.proofs.Common.{drop}
use Rattle.qsr_value.specs.Encoding.{encoded_row}
use Rattle.qsr_value.proofs.Lists.{HasPut}
use Rattle.qsr_value.proofs.encode.put_row.Given as goal

-- the values before `place` were put, and those from it on are left
abbrev pub invariant-loop-place : goal.invariant-loop-place
invariant-loop-place l = HasPut l.fn.buf l.at (encoded_row l.schema l.row) (encoded_row (drop l.place l.schema) (drop l.place l.row)) l.end l.buf
