use Rattle.std.proofs.Common.{slice_index, ap, sym, ◌∙◌, subst}
use Rattle.disk_model.specs.Image.{Image, Holds}
use Rattle.disk_model.specs.Replay.{events_of}
use Rattle.disk_model.proofs.MemFields.{view_seen}
use Rattle.disk_model.proofs.memory.MemDiskDisk.read.Goals as goal

pub returns-clause-bytes : goal.returns-clause-bytes
returns-clause-bytes c = λ honest.
    rw (← c.self.view_is) (subst (λ (seen : Image). Holds seen c.args.at c.copy_out.new.out)
    (ap slice_index c.deref.ensures.value ∙ c.self.invariant.shown ∙ sym (view_seen c.self.inside.base.items (events_of c.self.inside.log.items))) c.copy_out.ensures)
