use Rattle.std.proofs.Common.{◌+◌, ◌≤◌, length, drop, arith, length-drop, ◌∙◌}
use Rattle.qsr_value.proofs.Lists.{slice_to_end}
use Rattle.disk_model.proofs.Pieces.{holds_more, holds_still, outside_both}
use Rattle.disk_model.proofs.positioned.put_all_at.Goals as goal
use Rattle.disk_model.proofs.positioned.put_all_at.Goals.{in-Ok, in-Err}

pub loop-preserved : goal.loop-preserved
loop-preserved g c =
    let rest = slice_to_end c.args.bytes.now c.loop.done in
    let before = c.loop.invariant in
    elim c.match-write_at.branch [
      | in-Ok w ↦
          let bound : w.in-Ok.count ≤ length (drop c.loop.done c.args.bytes.now) = rw rest at w.in-Ok.ensures.bound in
          let put = rw rest at w.in-Ok.ensures.bytes in
          let room : c.loop.done + w.in-Ok.count ≤ length c.args.bytes.now = omega (arith, bound, length-drop c.loop.done c.args.bytes.now, before.within) in
          record {
            within = omega (arith, w.done-is, bound, length-drop c.loop.done c.args.bytes.now, before.within);
            bytes = λ told. rw w.done-is (holds_more _ _ _ c.loop.done w.in-Ok.count c.args.bytes.now before.within (before.bytes told) (w.in-Ok.ensures.others (before.told.1 told)) (put (before.told.1 told)));
            others = λ told. outside_both _ _ _ _ _ c.loop.done w.in-Ok.count (before.others told) (w.in-Ok.ensures.others (before.told.1 told)) room;
            told = (λ told. before.told.0 (w.in-Ok.ensures.told.0 told), λ told. w.in-Ok.ensures.told.1 (before.told.1 told));
            syncs = λ told. w.in-Ok.ensures.syncs (before.told.1 told) ∙ before.syncs told;
          }
      | in-Err w ↦
          let same = rw rest at w.in-Err.ensures.failed in
          let room : c.loop.done + length (drop c.loop.done c.args.bytes.now) ≤ length c.args.bytes.now = omega (arith, length-drop c.loop.done c.args.bytes.now, before.within) in
          record {
            within = omega (arith, w.done-is, before.within);
            bytes = λ told. rw w.done-is (holds_still _ _ _ c.loop.done _ c.args.bytes.now before.within (before.bytes told) (same (before.told.1 told)));
            others = λ told. outside_both _ _ _ _ _ c.loop.done _ (before.others told) (same (before.told.1 told)) room;
            told = (λ told. before.told.0 (w.in-Err.ensures.told.0 told), λ told. w.in-Err.ensures.told.1 (before.told.1 told));
            syncs = λ told. w.in-Err.ensures.syncs (before.told.1 told) ∙ before.syncs told;
          }
    ]
