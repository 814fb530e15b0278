use Rattle.std.proofs.Common.{slice_index, ap, sym, ◌∙◌}
use Rattle.disk_model.specs.Replay.{events_of}
use Rattle.disk_model.proofs.MemFields.{view_seen}
use Rattle.disk_model.proofs.memory.MemDisk.bytes.Goals as goal

pub returns-clause-seen : goal.returns-clause-seen
returns-clause-seen c =
    rw (← c.self.view_is) (ap slice_index c.deref.ensures.value ∙ c.self.invariant.shown ∙ sym (view_seen c.self.inside.base.items (events_of c.self.inside.log.items)))
