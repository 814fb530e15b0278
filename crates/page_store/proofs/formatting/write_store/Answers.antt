use Rattle.std.proofs.Common.{◌≡◌, ◌∙◌, ap, arith}
use Rattle.std.proofs.lemmas.Result.{on_ok_weaker}
use Rattle.disk_model.specs.Image.{Image}
use Rattle.disk_model.proofs.Runs.{each_now, synced_each, then_stays}
use Rattle.qsr_value.specs.Causes.{next_count}
use Rattle.page_store.specs.Format.{IsWritten}
use Rattle.page_store.proofs.Images.{opened}
use Rattle.page_store.proofs.PageLaws.{sum-parts}
use Rattle.page_store.proofs.StoreRuns.{all_writes, close_run, open_run, parts_run}
use Rattle.page_store.proofs.formatting.write_store.Goals as goal

pub read_gate-requires : goal.read_gate-requires
read_gate-requires g c = let fits = c.requires.fits in omega (arith, fits, sum-parts c.args.sizes.now)

pub shut-requires : goal.shut-requires
shut-requires g c =
    let fits = c.requires.fits in
    let size = c.read_gate.ensures.size in
    omega (arith, fits, size, sum-parts c.args.sizes.now)

pub unlock-requires : goal.unlock-requires
unlock-requires g c =
    let fits = c.requires.fits in
    let size : g.D.Disk.size_of c.sync.new.self ≡ g.D.Disk.size_of c.args.disk.now =
    c.sync.ensures.size ∙ c.write_parts.ensures.size ∙ c.shut.ensures.size ∙ c.read_gate.ensures.size in
    omega (arith, fits, size, sum-parts c.args.sizes.now)

pub returns-in_err-shut-clause-any_moment : goal.returns-in_err-shut-clause-any_moment
returns-in_err-shut-clause-any_moment g c =
    let stands = synced_each (λ (i : Image). i 0 ≡ c.in_ok-gate.gate) c.read_gate.ensures.stays c.in_ok-gate.ensures.synced c.in_ok-gate.ensures.gate in
    close_run c.args.sizes.now c.read_gate.ensures.stays (c.shut.ensures.any_moment stands)

pub returns-in_err-write_parts-clause-any_moment : goal.returns-in_err-write_parts-clause-any_moment
returns-in_err-write_parts-clause-any_moment g c =
    let sizes = c.args.sizes.now in
    let stands = synced_each (λ (i : Image). i 0 ≡ c.in_ok-gate.gate) c.read_gate.ensures.stays c.in_ok-gate.ensures.synced c.in_ok-gate.ensures.gate in
    parts_run sizes (close_run sizes c.read_gate.ensures.stays (c.shut.ensures.any_moment stands)) (c.in_ok-shut.ensures.closed stands) c.write_parts.ensures.steps

pub returns-in_err-sync-clause-any_moment : goal.returns-in_err-sync-clause-any_moment
returns-in_err-sync-clause-any_moment g c =
    let sizes = c.args.sizes.now in
    let stands = synced_each (λ (i : Image). i 0 ≡ c.in_ok-gate.gate) c.read_gate.ensures.stays c.in_ok-gate.ensures.synced c.in_ok-gate.ensures.gate in
    then_stays (parts_run sizes (close_run sizes c.read_gate.ensures.stays (c.shut.ensures.any_moment stands)) (c.in_ok-shut.ensures.closed stands) c.write_parts.ensures.steps) c.sync.ensures.stays

pub returns-clause-any_moment : goal.returns-clause-any_moment
returns-clause-any_moment g c =
    let sizes = c.args.sizes.now in
    let stands = synced_each (λ (i : Image). i 0 ≡ c.in_ok-gate.gate) c.read_gate.ensures.stays c.in_ok-gate.ensures.synced c.in_ok-gate.ensures.gate in
    let written = synced_each (IsWritten sizes) c.sync.ensures.stays c.in_ok-sync.ensures.synced
    (λ honest. c.in_ok-write_parts.ensures.written (c.write_parts.ensures.steps.time.honest.0 honest)) in
    open_run sizes
    (then_stays (parts_run sizes (close_run sizes c.read_gate.ensures.stays (c.shut.ensures.any_moment stands)) (c.in_ok-shut.ensures.closed stands) c.write_parts.ensures.steps) c.sync.ensures.stays)
    written c.unlock.ensures.keeps.time

pub returns-clause-formatted : goal.returns-clause-formatted
returns-clause-formatted g c =
    let sizes = c.args.sizes.now in
    let written = synced_each (IsWritten sizes) c.sync.ensures.stays c.in_ok-sync.ensures.synced
    (λ honest. c.in_ok-write_parts.ensures.written (c.write_parts.ensures.steps.time.honest.0 honest)) in
    on_ok_weaker c.unlock.result
    (λ is_open i now. opened sizes (g.D.Disk.view c.sync.new.self) written i (each_now c.unlock.ensures.keeps.time i now) (is_open i now))
    c.unlock.ensures.opened

pub returns-clause-writes : goal.returns-clause-writes
returns-clause-writes g c =
    let parts = c.in_ok-write_parts.ensures.writes in
    on_ok_weaker c.unlock.result
    (λ is_open. all_writes (g.D.Disk.view c.args.disk.now) c.in_ok-gate.gate (g.D.Disk.writes_of c.args.disk.now) (g.D.Disk.writes_of c.read_gate.new.disk) (g.D.Disk.writes_of c.shut.new.disk) (g.D.Disk.writes_of c.unlock.new.disk)
    c.in_ok-gate.ensures.gate c.read_gate.ensures.writes c.shut.ensures.writes
    (c.unlock.ensures.writes ∙ ap next_count (c.sync.ensures.writes ∙ parts)))
    c.unlock.ensures.opened
