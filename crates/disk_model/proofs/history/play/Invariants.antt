use Rattle.std.proofs.Common.{◌≡◌, length, drop, slice_index}
use Rattle.disk_model.specs.Replay.{played, events_of}
use Rattle.disk_model.proofs.history.play.Given as goal

-- what is left to do leaves what all of it leaves
abbrev pub invariant-loop-record : goal.invariant-loop-record
invariant-loop-record l = record {
  size : length l.bytes ≡ length l.initial.bytes;
  image : played l.pick (events_of (drop l.record-index l.records)) (slice_index l.bytes) ≡ played l.pick (events_of l.records) (slice_index l.initial.bytes);
}
