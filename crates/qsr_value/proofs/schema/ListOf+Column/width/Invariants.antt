use Rattle.std.proofs.Common.{◌≡◌, ◌≤◌, ◌+◌, ◌*◌, drop}
use Rattle.qsr_value.specs.Columns.{width_of}
use Rattle.qsr_value.proofs.schema.ListOf+Column.width.Given as goal

-- the columns before `place` are added up
abbrev pub invariant-loop-place : goal.invariant-loop-place
invariant-loop-place l = record {
  sum : l.width + width_of (drop l.place l.self) ≡ width_of l.self;
  bound : l.width ≤ 65537 * l.place;
}
