use Rattle.std.proofs.Common.{arith}
use Rattle.disk_model.proofs.Images.{put_mid-written}
use Rattle.disk_model.proofs.history.overwrite.Goals as goal

pub returns-clause-image : goal.returns-clause-image
returns-clause-image c = put_mid-written _ _ _ _ _ c.copy_from_slice.ensures.after (omega arith) c.requires
