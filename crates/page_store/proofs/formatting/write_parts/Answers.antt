use Rattle.std.proofs.Common.{◌*◌, arith}
use Rattle.std.proofs.lemmas.Result.{on_ok_weaker}
use Rattle.disk_model.specs.Image.{Image}
use Rattle.disk_model.proofs.Runs.{steps_twice, weaker_steps}
use Rattle.page_store.proofs.Images.{SameBelow-fewer, SameBelow-twice, parts_written}
use Rattle.page_store.proofs.PageLaws.{sum-parts}
use Rattle.page_store.proofs.formatting.write_parts.Goals as goal

pub write_head-requires-clause-fits : goal.write_head-requires-clause-fits
write_head-requires-clause-fits g c = let fits = c.requires.fits in omega (arith, fits, sum-parts c.args.sizes.now)

pub write_twin-requires-clause-within : goal.write_twin-requires-clause-within
write_twin-requires-clause-within g c =
    let fits = c.requires.fits in
    let size = c.write_head.ensures.size in
    omega (arith, fits, size, sum-parts c.args.sizes.now)

pub returns-clause-steps : goal.returns-clause-steps
returns-clause-steps g c =
    steps_twice (SameBelow-twice 1)
    (steps_twice (SameBelow-twice 1) c.write_head.ensures.steps
    (weaker_steps (λ (i j : Image) same. SameBelow-fewer 1 4096 i j (omega arith) same) c.write_twin.ensures.steps))
    (weaker_steps (λ (i j : Image) same. SameBelow-fewer 1 (4096 * 5) i j (omega arith) same) c.write_jobs.ensures.steps)

pub returns-clause-written : goal.returns-clause-written
returns-clause-written g c =
    on_ok_weaker c.write_jobs.result
    (λ twins honest.
    let second = c.write_head.ensures.steps.time.honest.1 honest in
    let third = c.write_twin.ensures.steps.time.honest.1 second in
    parts_written c.args.sizes.now (g.D.Disk.view c.write_head.new.disk).seen (g.D.Disk.view c.write_twin.new.disk).seen (g.D.Disk.view c.write_jobs.new.disk).seen
    (c.in_ok-write_head.ensures.head honest) (c.write_twin.ensures.steps.seen second) (c.in_ok-write_twin.ensures.twin second)
    (c.write_jobs.ensures.steps.seen third) (twins third))
    c.write_jobs.ensures.twins
