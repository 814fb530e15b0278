use Rattle.std.proofs.Common.{◌≡◌, ℕ, ◌*◌, ◌<◌}
use Rattle.disk_model.specs.View.{Steps}
use Rattle.qsr_value.specs.Causes.{count_after}
use Rattle.page_store.specs.Format.{IsNewJob, SameBelow}
use Rattle.page_store.proofs.formatting.write_jobs.Given as goal

-- the jobs before `job` have their twins, by two writes each, and nothing was written below the first job
abbrev pub invariant-loop-job : goal.invariant-loop-job
invariant-loop-job g l = record {
  steps : Steps (SameBelow (4096 * 5)) (g.D.Disk.view l.fn.disk) (g.D.Disk.view l.disk);
  twins : (g.D.Disk.view l.fn.disk).honest → (k : ℕ) → k < l.job → IsNewJob l.sizes (g.D.Disk.view l.disk).seen k;
  size : g.D.Disk.size_of l.disk ≡ g.D.Disk.size_of l.fn.disk;
  faults : g.D.Disk.faults_of l.disk ≡ g.D.Disk.faults_of l.fn.disk;
  reads : g.D.Disk.reads_of l.disk ≡ g.D.Disk.reads_of l.fn.disk;
  syncs : g.D.Disk.syncs_of l.disk ≡ g.D.Disk.syncs_of l.fn.disk;
  writes : g.D.Disk.writes_of l.disk ≡ count_after (2 * l.job) (g.D.Disk.writes_of l.fn.disk);
}
