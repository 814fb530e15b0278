use Rattle.std.proofs.Common.{◌≡◌}
use Rattle.disk_model.specs.View.{EachImage, LeavesOnly}
use Rattle.row_script.specs.Rows.{HasRows, WritesRows}
use Rattle.row_script.proofs.turns.turn.Given as goal

-- the rows before `place` are what reads give, a crash leaves those that were acknowledged, and no call failed
abbrev pub invariant-loop-place : goal.invariant-loop-place
invariant-loop-place g l = record {
  run : EachImage (g.D.Disk.view l.fn.disk) (HasRows l.rows l.acknowledged)
      → LeavesOnly (g.D.Disk.view l.fn.disk) (g.D.Disk.view l.disk) (HasRows l.rows l.acknowledged);
  reads : EachImage (g.D.Disk.view l.fn.disk) (HasRows l.rows l.acknowledged)
      → (g.D.Disk.view l.disk).honest → HasRows l.rows l.place (g.D.Disk.view l.disk).seen;
  size : g.D.Disk.size_of l.disk ≡ g.D.Disk.size_of l.fn.disk;
  faults : g.D.Disk.faults_of l.disk ≡ g.D.Disk.faults_of l.fn.disk;
  disk_reads : g.D.Disk.reads_of l.disk ≡ g.D.Disk.reads_of l.fn.disk;
  syncs : g.D.Disk.syncs_of l.disk ≡ g.D.Disk.syncs_of l.fn.disk;
  writes : WritesRows l.acknowledged l.place (g.D.Disk.writes_of l.fn.disk) (g.D.Disk.writes_of l.disk);
}
