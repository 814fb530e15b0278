use Rattle.std.proofs.Common.{◌≡◌, drop, length}
use Rattle.sql_bind.specs.Checks.{are_alike}
use Rattle.sql_bind.proofs.selects.are_alike.Given as goal

-- those that are left decide
abbrev pub invariant-loop-a : goal.invariant-loop-a
invariant-loop-a l = are_alike l.first l.other ≡ are_alike (drop (length l.yielded) l.first) (drop (length l.yielded) l.other)
