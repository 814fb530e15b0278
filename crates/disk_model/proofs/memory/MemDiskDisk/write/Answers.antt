use Rattle.std.proofs.Common.{ℕ, List, length, slice_index, arith, ap, ◌∙◌}
use Rattle.disk_model.specs.Replay.{Wrote, written, events_of}
use Rattle.disk_model.proofs.MemFields.{IsSound-write, record_log}
use Rattle.disk_model.proofs.MemRuns.{write_steps, write_holds, same_steps}
use Rattle.disk_model.proofs.memory.MemDiskDisk.write.Goals as goal

pub returns-then-len-self-clause-steps : goal.returns-then-len-self-clause-steps
returns-then-len-self-clause-steps c = rw (← c.self.view_is) (same_steps _ _ _)

pub invariant_of-self-then-contains : goal.invariant_of-self-then-contains
invariant_of-self-then-contains c =
    IsSound-write c.self.inside.base.items c.self.inside.bytes.items c.self.inside.log.items c.self.inside.room _ c.self.inside.calls c.self.invariant c.self.inside.bytes.len c.args.at _ _ c.args.bytes.now c.overwrite.new.bytes
    c.push_reserved.new.self.items c.write_of.result c.saturating_add-self-inside.ensures c.push_reserved.ensures.items c.push_reserved.ensures.capacity (omega arith) c.write_of.ensures.event c.write_of.ensures.fits (rw (← c.self.view_is) at c.requires.within) (omega arith)
    (c.overwrite.ensures.size ∙ ap length c.deref_mut.ensures.value) (c.overwrite.ensures.image ∙ ap (λ (was : List ℕ). written c.args.at c.args.bytes.now (slice_index was)) c.deref_mut.ensures.value)

pub returns-then-contains-clause-steps : goal.returns-then-contains-clause-steps
returns-then-contains-clause-steps c =
    rw (← c.self.view_is, record_log _ _ _ (record { call = c.self.inside.calls; deed = Wrote c.args.at c.args.bytes.now }) c.push_reserved.ensures.items c.write_of.ensures.event)
    (write_steps c.self.inside.base.items (events_of c.self.inside.log.items) c.self.inside.calls c.args.at c.args.bytes.now)

pub invariant_of-self-else-contains : goal.invariant_of-self-else-contains
invariant_of-self-else-contains c =
    IsSound-write c.self.inside.base.items c.self.inside.bytes.items c.self.inside.log.items c.self.inside.room _ c.self.inside.calls c.self.invariant c.self.inside.bytes.len c.args.at _ _ c.args.bytes.now c.overwrite.new.bytes
    c.push_reserved.new.self.items c.write_of.result c.saturating_add-self-inside.ensures c.push_reserved.ensures.items c.push_reserved.ensures.capacity (omega arith) c.write_of.ensures.event c.write_of.ensures.fits (rw (← c.self.view_is) at c.requires.within) (omega arith)
    (c.overwrite.ensures.size ∙ ap length c.deref_mut.ensures.value) (c.overwrite.ensures.image ∙ ap (λ (was : List ℕ). written c.args.at c.args.bytes.now (slice_index was)) c.deref_mut.ensures.value)

pub returns-clause-bytes : goal.returns-clause-bytes
returns-clause-bytes c = λ honest.
    rw (record_log _ _ _ (record { call = c.self.inside.calls; deed = Wrote c.args.at c.args.bytes.now }) c.push_reserved.ensures.items c.write_of.ensures.event)
    (write_holds c.self.inside.base.items (events_of c.self.inside.log.items) c.self.inside.calls c.args.at c.args.bytes.now)

pub returns-clause-steps : goal.returns-clause-steps
returns-clause-steps c =
    rw (← c.self.view_is, record_log _ _ _ (record { call = c.self.inside.calls; deed = Wrote c.args.at c.args.bytes.now }) c.push_reserved.ensures.items c.write_of.ensures.event)
    (write_steps c.self.inside.base.items (events_of c.self.inside.log.items) c.self.inside.calls c.args.at c.args.bytes.now)
