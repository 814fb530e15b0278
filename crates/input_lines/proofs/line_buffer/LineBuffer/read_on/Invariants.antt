use Rattle.std.proofs.Common.{◌≡◌, ◌+◌, ◌-◌, length}
use Rattle.std.specs.Io.KnownBytes.{Keeps, prepend_known}
use Rattle.input_lines.specs.NextLine.{IsPartial}
use Rattle.qsr_value.specs.declared.limits.TheConstants.{MAX_LINE}
use Rattle.input_lines.proofs.line_buffer.LineBuffer.read_on.Given as goal

-- what is held and what the source has left are together what they were, and no call failed
abbrev pub invariant-loop-came : goal.invariant-loop-came
invariant-loop-came g l = record {
  partial : IsPartial l.self;
  same : Keeps (prepend_known l.fn.self (g.S.Source.left l.fn.source)) (prepend_known l.self (g.S.Source.left l.source));
  faults : g.S.Source.faults_of l.source ≡ g.S.Source.faults_of l.fn.source;
}

abbrev pub decreases-loop-came : goal.decreases-loop-came
decreases-loop-came g l = MAX_LINE + 1 - length l.self
