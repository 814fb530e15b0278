use Rattle.std.proofs.Common.{◌≡◌, ℕ, suc, ◌+◌, ◌*◌, ◌/◌, ◌∙◌, ap, refl, arith, true, false, is_some, subst}
use Rattle.qsr_value.specs.Causes.{count_after}
use Rattle.disk_model.specs.Image.{Image}
use Rattle.disk_model.proofs.Runs.{stays_twice}
use Rattle.page_store.specs.Store.{twin_at, twin_span}
use Rattle.page_store.specs.Twin.{twin_body}
use Rattle.page_store.proofs.StoreCommits.{damaged_here, whole_more}
use Rattle.page_store.proofs.opening.first_damaged.Goals as goal

pub returns-then-not-branch-clause-found : goal.returns-then-not-branch-clause-found
returns-then-not-branch-clause-found g c = λ honest.
    let run = c.loop-number.invariant.stays in
    let sizes = c.args.sizes.now in
    let place = c.place_of-place.result in
    let seen = c.in_ok-has_current.ensures.current (run.time.honest.1 honest) in
    damaged_here sizes c.loop-number.number place.span place.at (place.at / 4096) (g.D.Disk.view c.args.disk.now).seen (omega arith)
    (c.place_of-place.ensures.span ∙ ap twin_span c.twin_of.ensures.number) (c.place_of-place.ensures.at ∙ ap (twin_at sizes) c.twin_of.ensures.number) refl
    (c.loop-number.invariant.whole honest)
    (let is = c.if-not-branch.true in subst (λ (s : Image). false ≡ is_some (twin_body place.span place.at s)) run.seen (cc))

pub loop-number-preserved : goal.loop-number-preserved
loop-number-preserved g c =
    let run = c.loop-number.invariant.stays in
    let sizes = c.args.sizes.now in
    let place = c.place_of-place.result in
    record {
      stays = stays_twice run c.has_current.ensures.stays;
      whole = λ honest.
          let seen = c.in_ok-has_current.ensures.current (run.time.honest.1 honest) in
          whole_more sizes c.loop-number.number place.span place.at (g.D.Disk.view c.args.disk.now).seen (omega arith)
          (c.place_of-place.ensures.span ∙ ap twin_span c.twin_of.ensures.number) (c.place_of-place.ensures.at ∙ ap (twin_at sizes) c.twin_of.ensures.number)
          (c.loop-number.invariant.whole honest)
          (let is = c.if-not-branch.false in subst (λ (s : Image). true ≡ is_some (twin_body place.span place.at s)) run.seen (cc));
      size = c.has_current.ensures.size ∙ c.loop-number.invariant.size;
      faults = c.in_ok-has_current.ensures.faults ∙ c.loop-number.invariant.faults;
      reads =
          let more : suc (suc (2 * c.loop-number.number)) ≡ 2 * (c.loop-number.number + 1) = omega arith in
          c.in_ok-has_current.ensures.reads ∙ ap (count_after 2) c.loop-number.invariant.reads ∙ ap (λ (n : ℕ). count_after n (g.D.Disk.reads_of c.args.disk.now)) more;
      writes = c.has_current.ensures.writes ∙ c.loop-number.invariant.writes;
      syncs = c.has_current.ensures.syncs ∙ c.loop-number.invariant.syncs;
    }

pub returns-clause-reads : goal.returns-clause-reads
returns-clause-reads g c =
    let all : 2 * c.loop-number.number ≡ 18 = omega arith in
    c.loop-number.invariant.reads ∙ ap (λ (n : ℕ). count_after n (g.D.Disk.reads_of c.args.disk.now)) all

pub returns-then-not-branch-clause-reads : goal.returns-then-not-branch-clause-reads
returns-then-not-branch-clause-reads g c =
    let sizes = c.args.sizes.now in
    let number = c.loop-number.number in
    let at = c.place_of-place.ensures.at ∙ ap (twin_at sizes) c.twin_of.ensures.number in
    let more : suc (suc (2 * number)) ≡ 2 * (number + 1) = omega arith in
    record {
      sizes = sizes;
      twin = number;
      some = omega arith;
      first = omega (arith, at);
      reads = c.in_ok-has_current.ensures.reads ∙ ap (count_after 2) c.loop-number.invariant.reads ∙ ap (λ (n : ℕ). count_after n (g.D.Disk.reads_of c.args.disk.now)) more;
    }
