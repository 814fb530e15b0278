use Rattle.std.proofs.Common.{◌≡◌, ℕ, suc, ◌+◌, ◌*◌, ◌<◌, ◌∙◌, ap, subst, sym, arith}
use Rattle.disk_model.specs.Image.{Image}
use Rattle.disk_model.proofs.Runs.{steps_twice, weaker_steps}
use Rattle.qsr_value.specs.Causes.{count_after}
use Rattle.page_store.specs.Format.{SameBelow}
use Rattle.page_store.proofs.Images.{SameBelow-fewer, SameBelow-twice, job_made, one_more_job}
use Rattle.page_store.proofs.PageLaws.{job_behind, job_within}
use Rattle.page_store.proofs.formatting.write_jobs.Goals as goal

pub write_twin-requires-clause-within : goal.write_twin-requires-clause-within
write_twin-requires-clause-within g c =
    let page = c.job_page-page.ensures.page in
    let size = c.loop-job.invariant.size in
    let fits = c.requires.fits in
    omega (arith, page, size, fits, job_within c.args.sizes.now c.loop-job.job (omega arith))

pub returns-in_err-write_twin-clause-steps : goal.returns-in_err-write_twin-clause-steps
returns-in_err-write_twin-clause-steps g c =
    steps_twice (SameBelow-twice (4096 * 5)) c.loop-job.invariant.steps
    (weaker_steps (λ (i j : Image) same. SameBelow-fewer (4096 * 5) (4096 * c.job_page-page.result) i j
    (omega (arith, c.job_page-page.ensures.page, job_behind c.args.sizes.now c.loop-job.job (omega arith))) same) c.write_twin.ensures.steps)

pub loop-job-preserved : goal.loop-job-preserved
loop-job-preserved g c =
    let before : c.loop-job.job < 8 = omega arith in
    let page = c.job_page-page.ensures.page in
    record {
      steps = steps_twice (SameBelow-twice (4096 * 5)) c.loop-job.invariant.steps
          (weaker_steps (λ (i j : Image) same. SameBelow-fewer (4096 * 5) (4096 * c.job_page-page.result) i j
          (omega (arith, page, job_behind c.args.sizes.now c.loop-job.job before)) same) c.write_twin.ensures.steps);
      twins = λ honest.
          let was = c.loop-job.invariant.steps.time.honest.1 honest in
          one_more_job c.args.sizes.now (g.D.Disk.view c.loop-job.disk).seen (g.D.Disk.view c.write_twin.new.disk).seen c.loop-job.job before
          (c.loop-job.invariant.twins honest)
          (subst (λ (k : ℕ). SameBelow (4096 * k) (g.D.Disk.view c.loop-job.disk).seen (g.D.Disk.view c.write_twin.new.disk).seen) page (c.write_twin.ensures.steps.seen was))
          (job_made c.args.sizes.now (g.D.Disk.view c.write_twin.new.disk).seen c.loop-job.job c.job_page-page.result before page (c.in_ok-write_twin.ensures.twin was));
      size = c.write_twin.ensures.size ∙ c.loop-job.invariant.size;
      faults = c.in_ok-write_twin.ensures.faults ∙ c.loop-job.invariant.faults;
      reads = c.write_twin.ensures.reads ∙ c.loop-job.invariant.reads;
      syncs = c.write_twin.ensures.syncs ∙ c.loop-job.invariant.syncs;
      writes =
          let more : 2 * (c.loop-job.job + 1) ≡ suc (suc (2 * c.loop-job.job)) = omega arith in
          c.in_ok-write_twin.ensures.writes ∙ ap (count_after 2) c.loop-job.invariant.writes ∙ ap (λ (n : ℕ). count_after n (g.D.Disk.writes_of c.args.disk.now)) (sym more);
    }
