use Rattle.std.proofs.Common.{◌≡◌, ◌≤◌, ◌+◌, ◌-◌}
use Rattle.std.specs.Io.KnownBytes.{prepend_known}
use Rattle.row_script.specs.Progress.{RunSoFar}
use Rattle.qsr_value.specs.declared.limits.TheConstants.{MAX_LINES}
use Rattle.row_script.proofs.script.Script.serve_all.Given as goal

-- the run stands where it stands now, and no call failed
abbrev pub invariant-lines : goal.invariant-lines
invariant-lines g l = record {
  run : RunSoFar l.fn.self.size (g.S.Source.left l.fn.source) (prepend_known l.self.input (g.S.Source.left l.source))
      (g.K.Sink.given l.fn.sink) (g.K.Sink.given l.sink) l.self.replies l.self.served l.self.numbers (g.D.Disk.view l.fn.disk) (g.D.Disk.view l.disk)
      (g.D.Disk.reads_of l.fn.disk) (g.D.Disk.reads_of l.disk) (g.D.Disk.writes_of l.fn.disk) (g.D.Disk.writes_of l.disk);
  disk : g.D.Disk.faults_of l.disk ≡ g.D.Disk.faults_of l.fn.disk;
  source : g.S.Source.faults_of l.source ≡ g.S.Source.faults_of l.fn.source;
  sink : g.K.Sink.faults_of l.sink ≡ g.K.Sink.faults_of l.fn.sink;
  size : l.self.size ≡ l.fn.self.size;
  fits : l.self.size ≤ g.D.Disk.size_of l.disk;
}

abbrev pub decreases-lines : goal.decreases-lines
decreases-lines g l = MAX_LINES + 1 - l.self.served
