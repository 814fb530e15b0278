use Rattle.std.proofs.Common.{List, ◌∙◌, ap}
use Rattle.disk_model.specs.Replay.{Event, picked, events_of}
use Rattle.disk_model.specs.MemDisk.{replayed}
use Rattle.disk_model.proofs.MemFields.{fresh_seen, fresh_synced, picked_possible, picked_synced, before_all}
use Rattle.disk_model.proofs.memory.MemDisk.image.Goals as goal

pub returns-clause-exact : goal.returns-clause-exact
returns-clause-exact c =
    let left = rw (c.deref.ensures.value, c.deref-2.ensures.value) at c.in_ok-bytes.ensures.image in
    rw (← c.self.view_is, c.in_ok-disk.ensures) (fresh_seen c.in_ok-bytes.bytes.items ∙ left)

pub returns-clause-possible : goal.returns-clause-possible
returns-clause-possible c =
    let left = rw (c.deref.ensures.value, c.deref-2.ensures.value) at c.in_ok-bytes.ensures.image in
    rw (← c.self.view_is, c.in_ok-disk.ensures)
    (picked_possible c.self.inside.base.items (events_of c.self.inside.log.items) c.args.calls c.args.pick _ (fresh_seen c.in_ok-bytes.bytes.items ∙ left))

pub returns-clause-synced : goal.returns-clause-synced
returns-clause-synced c = rw c.in_ok-disk.ensures (fresh_synced c.in_ok-bytes.bytes.items)

pub returns-clause-whole : goal.returns-clause-whole
returns-clause-whole c = rw (← c.self.view_is) (before_all c.self.inside.log.items c.self.inside.calls c.args.calls c.self.invariant.counted)

pub returns-clause-same : goal.returns-clause-same
returns-clause-same c = λ whole synced either.
    let left = rw (c.deref.ensures.value, c.deref-2.ensures.value) at c.in_ok-bytes.ensures.image in
    rw (← c.self.view_is, c.in_ok-disk.ensures)
    (fresh_seen c.in_ok-bytes.bytes.items ∙ left ∙ ap (λ (log : List Event). picked c.args.pick (replayed c.self.inside.base.items log)) (rw (← c.self.view_is) at whole)
    ∙ picked_synced c.self.inside.base.items (events_of c.self.inside.log.items) c.args.pick either (rw (← c.self.view_is) at synced))
