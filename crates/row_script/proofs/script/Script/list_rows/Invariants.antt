use Rattle.std.proofs.Common.{◌≡◌}
use Rattle.disk_model.specs.View.{Stays}
use Rattle.qsr_value.specs.Causes.{count_after}
use Rattle.row_script.specs.Answers.{Tells}
use Rattle.row_script.proofs.AnswerLemmas.{Listing}
use Rattle.row_script.proofs.script.Script.list_rows.Given as goal

-- the rows before `place` are listed, each was read once, and no call failed
abbrev pub invariant-loop-place : goal.invariant-loop-place
invariant-loop-place g l = record {
  listing : Listing (Tells (g.D.Disk.view l.fn.disk) l.fn.self.numbers) l.fn.self.numbers.rows l.place (g.K.Sink.given l.fn.sink) (g.K.Sink.given l.sink) l.fn.self.replies l.self.replies;
  stays : Stays (g.D.Disk.view l.fn.disk) (g.D.Disk.view l.disk);
  size : g.D.Disk.size_of l.disk ≡ g.D.Disk.size_of l.fn.disk;
  faults : g.D.Disk.faults_of l.disk ≡ g.D.Disk.faults_of l.fn.disk;
  reads : g.D.Disk.reads_of l.disk ≡ count_after l.place (g.D.Disk.reads_of l.fn.disk);
  writes : g.D.Disk.writes_of l.disk ≡ g.D.Disk.writes_of l.fn.disk;
  syncs : g.D.Disk.syncs_of l.disk ≡ g.D.Disk.syncs_of l.fn.disk;
  sink : g.K.Sink.faults_of l.sink ≡ g.K.Sink.faults_of l.fn.sink;
  same : (l.self.size ≡ l.fn.self.size) × (l.self.numbers ≡ l.fn.self.numbers) × (l.self.served ≡ l.fn.self.served) × (l.self.input ≡ l.fn.self.input);
}
