use Rattle.std.proofs.Common.{◌≡◌, drop}
use Rattle.qsr_value.specs.Ordered.{compare_by}
use Rattle.qsr_value.proofs.compare.cmp_by.Given as goal

-- the keys that were tried tell the rows not apart
abbrev pub invariant-loop-key : goal.invariant-loop-key
invariant-loop-key l = compare_by l.keys l.a l.b ≡ compare_by (drop l.key-index l.keys) l.a l.b
