use Rattle.std.proofs.Common.{◌+◌, ◌==◌, ◌∙◌, ap, refl, length, arith}
use Rattle.std.proofs.lemmas.Result.{on_ok_weaker}
use Rattle.disk_model.specs.Image.{Image, Holds}
use Rattle.disk_model.proofs.Runs.{each_now, most_none, most_one, most_twice, then_stays, synced_each}
use Rattle.qsr_value.specs.Causes.{next_count}
use Rattle.page_store.specs.Format.{behind_gate}
use Rattle.page_store.specs.Store.{slot_pages}
use Rattle.page_store.specs.declared.records.TheConstants.{OPEN}
use Rattle.page_store.proofs.Counts.{most_gate, replace_writes}
use Rattle.page_store.proofs.TwinRuns.{behind_run, holds_behind, keeps_stays, keeps_step, keeps_twice, keeps_wider, opening_run}
use Rattle.page_store.proofs.twins.replace.Goals as goal

pub returns-in_err-shut-clause-keeps : goal.returns-in_err-shut-clause-keeps
returns-in_err-shut-clause-keeps g c =
    keeps_wider c.args.stale.now.slot 1 c.args.stale.now.slot (8 + length c.args.body.now) (omega arith) (omega arith) c.shut.ensures.keeps

pub returns-in_err-write_behind-clause-any_moment : goal.returns-in_err-write_behind-clause-any_moment
returns-in_err-write_behind-clause-any_moment g c = λ stands.
    behind_run c.args.stale.now.slot (7 + length c.args.body.now) (behind_gate c.args.stale.now.sequence (length c.args.body.now) c.args.body.now)
    (c.shut.ensures.any_moment stands) (c.in_ok-shut.ensures.closed stands) c.write_behind.ensures.steps

pub returns-in_err-write_behind-clause-keeps : goal.returns-in_err-write_behind-clause-keeps
returns-in_err-write_behind-clause-keeps g c =
    let slot = c.args.stale.now.slot in
    let n = length c.args.body.now in
    keeps_twice slot (8 + n) (keeps_wider slot 1 slot (8 + n) (omega arith) (omega arith) c.shut.ensures.keeps)
    (keeps_wider (slot + 1) (7 + n) slot (8 + n) (omega arith) (omega arith) (keeps_step (slot + 1) (7 + n) c.write_behind.ensures.steps))

pub returns-in_err-sync-clause-any_moment : goal.returns-in_err-sync-clause-any_moment
returns-in_err-sync-clause-any_moment g c = λ stands.
    then_stays (behind_run c.args.stale.now.slot (7 + length c.args.body.now) (behind_gate c.args.stale.now.sequence (length c.args.body.now) c.args.body.now)
    (c.shut.ensures.any_moment stands) (c.in_ok-shut.ensures.closed stands) c.write_behind.ensures.steps) c.sync.ensures.stays

pub returns-in_err-sync-clause-keeps : goal.returns-in_err-sync-clause-keeps
returns-in_err-sync-clause-keeps g c =
    let slot = c.args.stale.now.slot in
    let n = length c.args.body.now in
    keeps_twice slot (8 + n) (keeps_twice slot (8 + n) (keeps_wider slot 1 slot (8 + n) (omega arith) (omega arith) c.shut.ensures.keeps)
    (keeps_wider (slot + 1) (7 + n) slot (8 + n) (omega arith) (omega arith) (keeps_step (slot + 1) (7 + n) c.write_behind.ensures.steps)))
    (keeps_stays slot (8 + n) c.sync.ensures.stays)

pub returns-clause-any_moment : goal.returns-clause-any_moment
returns-clause-any_moment g c = λ stands.
    let slot = c.args.stale.now.slot in
    let bytes = behind_gate c.args.stale.now.sequence (length c.args.body.now) c.args.body.now in
    opening_run slot bytes
    (then_stays (behind_run slot (7 + length c.args.body.now) bytes (c.shut.ensures.any_moment stands) (c.in_ok-shut.ensures.closed stands) c.write_behind.ensures.steps) c.sync.ensures.stays)
    (synced_each (λ (i : Image). Holds i (slot + 1) bytes) c.sync.ensures.stays c.in_ok-sync.ensures.synced
    (λ honest. c.in_ok-write_behind.ensures.bytes (c.write_behind.ensures.steps.time.honest.0 honest)))
    c.unlock.ensures.keeps

pub returns-clause-replaced : goal.returns-clause-replaced
returns-clause-replaced g c =
    let slot = c.args.stale.now.slot in
    let bytes = behind_gate c.args.stale.now.sequence (length c.args.body.now) c.args.body.now in
    let stands = synced_each (λ (i : Image). Holds i (slot + 1) bytes) c.sync.ensures.stays c.in_ok-sync.ensures.synced
    (λ honest. c.in_ok-write_behind.ensures.bytes (c.write_behind.ensures.steps.time.honest.0 honest)) in
    on_ok_weaker c.unlock.result
    (λ opened i now. let old = each_now c.unlock.ensures.keeps.time i now in holds_behind slot bytes old.0 i old.2 (stands old.0 old.1))
    c.unlock.ensures.opened

pub returns-clause-keeps : goal.returns-clause-keeps
returns-clause-keeps g c =
    let slot = c.args.stale.now.slot in
    let n = length c.args.body.now in
    keeps_twice slot (8 + n)
    (keeps_twice slot (8 + n) (keeps_twice slot (8 + n) (keeps_wider slot 1 slot (8 + n) (omega arith) (omega arith) c.shut.ensures.keeps)
    (keeps_wider (slot + 1) (7 + n) slot (8 + n) (omega arith) (omega arith) (keeps_step (slot + 1) (7 + n) c.write_behind.ensures.steps)))
    (keeps_stays slot (8 + n) c.sync.ensures.stays))
    (keeps_wider slot 1 slot (8 + n) (omega arith) (omega arith) c.unlock.ensures.keeps)

pub returns-in_err-shut-clause-writes_most : goal.returns-in_err-shut-clause-writes_most
returns-in_err-shut-clause-writes_most g c =
    let pages = slot_pages (length c.args.body.now) in
    most_twice (pages + 2) (omega arith) (most_gate (c.args.stale.now.gate == OPEN) c.shut.ensures.writes) (most_none refl)

pub returns-in_err-write_behind-clause-writes_most : goal.returns-in_err-write_behind-clause-writes_most
returns-in_err-write_behind-clause-writes_most g c =
    let pages = slot_pages (length c.args.body.now) in
    most_twice (pages + 2) (omega arith) (most_gate (c.args.stale.now.gate == OPEN) c.shut.ensures.writes) c.write_behind.ensures.writes_most

pub returns-in_err-sync-clause-writes_most : goal.returns-in_err-sync-clause-writes_most
returns-in_err-sync-clause-writes_most g c =
    let pages = slot_pages (length c.args.body.now) in
    most_twice (pages + 2) (omega arith)
    (most_twice (pages + 1) (omega arith) (most_gate (c.args.stale.now.gate == OPEN) c.shut.ensures.writes) c.write_behind.ensures.writes_most)
    (most_none c.sync.ensures.writes)

pub returns-clause-writes_most : goal.returns-clause-writes_most
returns-clause-writes_most g c =
    let pages = slot_pages (length c.args.body.now) in
    most_twice (pages + 2) (omega arith)
    (most_twice (pages + 1) (omega arith) (most_gate (c.args.stale.now.gate == OPEN) c.shut.ensures.writes) c.write_behind.ensures.writes_most)
    (most_one (c.unlock.ensures.writes ∙ ap next_count c.sync.ensures.writes))

pub returns-clause-writes : goal.returns-clause-writes
returns-clause-writes g c =
    on_ok_weaker c.unlock.result
    (λ opened. replace_writes (c.args.stale.now.gate == OPEN) (length c.args.body.now) (g.D.Disk.writes_of c.args.disk.now) (g.D.Disk.writes_of c.shut.new.disk) (g.D.Disk.writes_of c.sync.new.self) (g.D.Disk.writes_of c.unlock.new.disk)
    c.shut.ensures.writes (c.sync.ensures.writes ∙ c.in_ok-write_behind.ensures.writes) c.unlock.ensures.writes)
    c.unlock.ensures.opened
