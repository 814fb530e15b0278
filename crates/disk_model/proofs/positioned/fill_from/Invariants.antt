use Rattle.std.proofs.Common.{◌≤◌, length, take}
use Rattle.disk_model.specs.Image.{Holds}
use Rattle.disk_model.proofs.positioned.fill_from.Given as goal

-- the first `done` bytes are there
abbrev pub invariant-loop : goal.invariant-loop
invariant-loop g l = record {
  within : l.done ≤ length l.out;
  bytes : g.F.Positioned.is_told l.file → Holds (g.F.Positioned.contents l.file) l.at (take l.done l.out);
}
