use Rattle.std.proofs.Common.{◌≡◌, ◌*◌}
use Rattle.disk_model.specs.View.{Stays}
use Rattle.qsr_value.specs.Causes.{count_after}
use Rattle.page_store.specs.Opening.{AreWhole}
use Rattle.page_store.specs.Store.{contents_of}
use Rattle.page_store.proofs.opening.first_damaged.Given as goal

-- the twins before `number` have current slots, which were found by two reads each, and nothing was changed
abbrev pub invariant-loop-number : goal.invariant-loop-number
invariant-loop-number g l = record {
  stays : Stays (g.D.Disk.view l.fn.disk) (g.D.Disk.view l.disk);
  whole : (g.D.Disk.view l.fn.disk).honest → AreWhole l.number (contents_of l.sizes (g.D.Disk.view l.fn.disk).seen);
  size : g.D.Disk.size_of l.disk ≡ g.D.Disk.size_of l.fn.disk;
  faults : g.D.Disk.faults_of l.disk ≡ g.D.Disk.faults_of l.fn.disk;
  reads : g.D.Disk.reads_of l.disk ≡ count_after (2 * l.number) (g.D.Disk.reads_of l.fn.disk);
  writes : g.D.Disk.writes_of l.disk ≡ g.D.Disk.writes_of l.fn.disk;
  syncs : g.D.Disk.syncs_of l.disk ≡ g.D.Disk.syncs_of l.fn.disk;
}
