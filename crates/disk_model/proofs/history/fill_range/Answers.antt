use Rattle.std.proofs.Common.{arith, length-take, length-drop}
use Rattle.disk_model.proofs.Images.{put_mid-filled}
use Rattle.disk_model.proofs.history.fill_range.Goals as goal

pub returns-clause-image : goal.returns-clause-image
returns-clause-image c =
    put_mid-filled c.args.bytes.now c.fill.new.self c.args.at c.args.len _ _ c.args.byte (simp (length-take, length-drop) (omega arith))
    (c.fill.ensures.after (λ y same. same)) (omega arith) (simp (c.fill.ensures.len, length-take, length-drop) (omega arith)) c.requires
