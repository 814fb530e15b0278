use Rattle.std.proofs.Common.{◌≡◌, ◌+◌, ◌-◌, ◌^◌, ◌<◌, min, drop, length}
use Rattle.qsr_value.specs.Encoding.{encoded_row}
use Rattle.qsr_value.specs.Values.{AreTexts}
use Rattle.qsr_value.proofs.encode.encoded_length.Given as goal

-- the values before `place` are counted, up to the greatest number, and their texts are texts
abbrev pub invariant-loop-place : goal.invariant-loop-place
invariant-loop-place l = record {
  count : min (l.length + length (encoded_row (drop l.place l.schema) (drop l.place l.row))) (2 ^ 64 - 1) ≡ min (length (encoded_row l.schema l.row)) (2 ^ 64 - 1);
  bound : l.length < 2 ^ 64;
  texts : AreTexts (drop l.place l.row) → AreTexts l.row;
}
