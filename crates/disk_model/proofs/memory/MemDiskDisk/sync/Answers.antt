use Rattle.std.proofs.Common.{arith, refl}
use Rattle.disk_model.specs.Replay.{Synced, SyncFailed, events_of}
use Rattle.disk_model.proofs.MemFields.{IsSound-push, record_log}
use Rattle.disk_model.proofs.MemRuns.{sync_stays, sync_synced, failed_stays}
use Rattle.disk_model.proofs.memory.MemDiskDisk.sync.Goals as goal

pub invariant_of-self-then-contains : goal.invariant_of-self-then-contains
invariant_of-self-then-contains c =
    IsSound-push _ _ _ _ _ _ c.self.invariant _ _ _ _ _ (record { call = c.self.inside.calls; deed = SyncFailed }) refl c.saturating_add-self-inside.ensures c.push_reserved.ensures.items c.push_reserved.ensures.capacity refl tt (omega arith) refl c.self.invariant.shown

pub returns-then-contains-clause-stays : goal.returns-then-contains-clause-stays
returns-then-contains-clause-stays c =
    rw (← c.self.view_is, record_log _ _ _ (record { call = c.self.inside.calls; deed = SyncFailed }) c.push_reserved.ensures.items refl) (failed_stays c.self.inside.base.items (events_of c.self.inside.log.items) c.self.inside.calls)

pub invariant_of-self-2 : goal.invariant_of-self-2
invariant_of-self-2 c =
    IsSound-push _ _ _ _ _ _ c.self.invariant _ _ _ _ _ (record { call = c.self.inside.calls; deed = Synced }) refl c.saturating_add-self-inside.ensures c.push_reserved-2.ensures.items c.push_reserved-2.ensures.capacity refl tt (omega arith) refl c.self.invariant.shown

pub returns-clause-synced : goal.returns-clause-synced
returns-clause-synced c =
    rw (record_log _ _ _ (record { call = c.self.inside.calls; deed = Synced }) c.push_reserved-2.ensures.items refl) (sync_synced c.self.inside.base.items (events_of c.self.inside.log.items) c.self.inside.calls)

pub returns-clause-stays : goal.returns-clause-stays
returns-clause-stays c =
    rw (← c.self.view_is, record_log _ _ _ (record { call = c.self.inside.calls; deed = Synced }) c.push_reserved-2.ensures.items refl) (sync_stays c.self.inside.base.items (events_of c.self.inside.log.items) c.self.inside.calls)
