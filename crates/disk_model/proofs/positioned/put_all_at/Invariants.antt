use Rattle.std.proofs.Common.{◌≡◌, ◌≤◌, length, take}
use Rattle.std.specs.Prelude.{◌↔◌}
use Rattle.disk_model.specs.Image.{Holds, SameOutside}
use Rattle.disk_model.proofs.positioned.put_all_at.Given as goal

-- the first `done` bytes stand in the file, and outside the places of all of them nothing changed
abbrev pub invariant-loop : goal.invariant-loop
invariant-loop g l = record {
  within : l.done ≤ length l.bytes;
  bytes : g.F.Positioned.is_told l.fn.file → Holds (g.F.Positioned.contents l.file) l.at (take l.done l.bytes);
  others : g.F.Positioned.is_told l.fn.file → SameOutside l.at (length l.bytes) (g.F.Positioned.contents l.fn.file) (g.F.Positioned.contents l.file);
  told : g.F.Positioned.is_told l.file ↔ g.F.Positioned.is_told l.fn.file;
  syncs : g.F.Positioned.is_told l.fn.file → g.F.Positioned.syncs_asked l.file ≡ g.F.Positioned.syncs_asked l.fn.file;
}
