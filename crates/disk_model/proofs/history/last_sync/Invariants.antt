use Rattle.std.proofs.Common.{◌≤◌, take}
use Rattle.disk_model.specs.Replay.{SplitsAt, events_of}
use Rattle.disk_model.proofs.history.last_sync.Given as goal

abbrev pub invariant-loop-at : goal.invariant-loop-at
invariant-loop-at l = record {
  within : l.last ≤ l.at;
  splits : SplitsAt l.last (events_of (take l.at l.records));
}
