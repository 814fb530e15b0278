use Rattle.std.proofs.Common.{◌≡◌}
use Rattle.std.specs.Io.KnownBytes.{Keeps}
use Rattle.qsr_io.proofs.std_streams.StdSinkSink.write.Given as goal

-- only calls that failed came so far
abbrev pub invariant-loop : goal.invariant-loop
invariant-loop g l = record {
  told : Keeps (g.W.Write.contents l.fn.self.output) (g.W.Write.contents l.self.output);
  faults : l.self.faults ≡ l.fn.self.faults;
}
