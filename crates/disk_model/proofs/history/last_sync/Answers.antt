use Rattle.std.proofs.Common.{arith}
use Rattle.disk_model.proofs.Splits.{splits_behind, splits_before}
use Rattle.disk_model.proofs.history.last_sync.Goals as goal
use Rattle.disk_model.proofs.history.last_sync.Goals.{in-Sync, in_default}

pub loop-at-preserved : goal.loop-at-preserved
loop-at-preserved c = elim c.match-record.branch [
  | in-Sync w ↦ record {
    within = omega (arith, w.last-is);
    splits = rw w.last-is (splits_behind c.args.records.now c.loop-at.at _ (omega arith) w.in-Sync.is);
  }
  | in_default w ↦ record {
    within = omega (arith, w.last-is, c.loop-at.invariant.within);
    splits = rw w.last-is (splits_before c.args.records.now c.loop-at.at c.loop-at.last _ (omega arith) c.loop-at.invariant.within w.in_default.not-Sync c.loop-at.invariant.splits);
  }
]
