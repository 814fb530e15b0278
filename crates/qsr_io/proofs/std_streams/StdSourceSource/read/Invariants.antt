use Rattle.std.proofs.Common.{◌≡◌}
use Rattle.std.specs.Io.KnownBytes.{Keeps}
use Rattle.qsr_io.proofs.std_streams.StdSourceSource.read.Given as goal

-- only calls that failed came so far
abbrev pub invariant-loop : goal.invariant-loop
invariant-loop g l = record {
  told : Keeps (g.R.Read.remaining l.fn.self.input) (g.R.Read.remaining l.self.input);
  faults : l.self.faults ≡ l.fn.self.faults;
}
