use Rattle.std.proofs.lemmas.List.{take_rest}
use Rattle.disk_model.proofs.Splits.{both_parts}
use Rattle.disk_model.proofs.history.leave.Goals as goal

pub returns-clause-image : goal.returns-clause-image
returns-clause-image c =
    both_parts c.args.records.now c.last_sync-last.result c.args.pick _ _ _ c.last_sync-last.ensures.splits c.play.ensures.image
    (rw (take_rest c.args.records.now c.last_sync-last.result) at c.play-2.ensures.image)
