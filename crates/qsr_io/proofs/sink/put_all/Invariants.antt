use Rattle.std.proofs.Common.{◌≡◌, ◌≤◌, ◌-◌, length, take}
use Rattle.std.specs.Io.KnownBytes.{Appends}
use Rattle.qsr_io.proofs.sink.put_all.Given as goal

-- the sink was given the bytes before `at`, and no call failed
abbrev pub invariant-loop-at : goal.invariant-loop-at
invariant-loop-at g l = record {
  within : l.at ≤ length l.bytes;
  given : Appends (g.K.Sink.given l.fn.sink) (g.K.Sink.given l.sink) (take l.at l.bytes);
  faults : g.K.Sink.faults_of l.sink ≡ g.K.Sink.faults_of l.fn.sink;
}

abbrev pub decreases-loop-at : goal.decreases-loop-at
decreases-loop-at g l = length l.bytes - l.at
