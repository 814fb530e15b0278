use Rattle.std.proofs.Common.{◌≡◌, ℕ, ◌∙◌, true, refl, sym, subst, arith}
use Rattle.std.proofs.lemmas.Bool.{leb-false, leb-true}
use Rattle.std.proofs.lemmas.Result.{err_from_is_err_and}
use Rattle.std.specs.Prelude.{leb}
use Rattle.page_store.specs.Store.{store_view}
use Rattle.out_file.specs.Reading.{out_area}
use Rattle.out_file.proofs.Ends.{has_all, lists_all, lists_some}
use Rattle.out_file.proofs.OnlyReads.{none_read, read_twice}
use Rattle.out_file.proofs.ListingSteps.{HasCome, at_start, fault_then, listed_all, listed_none, listed_some, step, stepped_then}
use Rattle.out_file.proofs.listing.rows_from.Goals as goal

pub returns-in_default-clause-listed : goal.returns-in_default-clause-listed
returns-in_default-clause-listed g c =
    listed_none c.args.schema.now c.args.from ((store_view c.args.store.now).honest) (out_area c.args.job (store_view c.args.store.now).seen) c.args.head.now.end
    (g.R.RowSink.pushed c.args.out.now)

pub loop-listing-init : goal.loop-listing-init
loop-listing-init g c =
    let listing = c.new-listing.result in
    let seen = (store_view c.args.store.now).seen in
    let honest = (store_view c.args.store.now).honest in
    let sink = g.R.RowSink.pushed c.args.out.now in
    let none = c.new-listing.ensures.none in
    let at = c.new-listing.ensures.at in
    record {
      job = c.new-listing.ensures.job;
      end = c.new-listing.ensures.end;
      behind = omega (arith, none);
      few = omega arith;
      came = subst (λ (k : ℕ). HasCome c.args.schema.now c.args.from honest (out_area c.args.job seen) k 0 sink sink) (sym at)
          (at_start c.args.schema.now c.args.from honest (out_area c.args.job seen) sink);
      page = λ told page is. absurd (omega (arith, none, is));
      read = none_read c.args.store.now;
      faults = refl;
      reads = omega arith;
      follows = g.R.Outside.follows_itself c.args.out.now;
      calls = refl;
      unbounded = c.requires.sink;
      row_faults = refl;
    }

pub returns-in_err-step-clause-listed : goal.returns-in_err-step-clause-listed
returns-in_err-step-clause-listed g c =
    let was = c.loop-listing.invariant in
    let listing = c.loop-listing.listing in
    let run = was.read.stays in
    let seen = (store_view c.args.store.now).seen in
    let wanted = leb c.args.from c.loop-listing.number in
    let is = c.in_err-step.ensures.fault seen run.seen (λ later. was.page (run.time.honest.0 later)) in
    let fault = fault_then c.args.schema.now (wanted ≡ true) ((store_view c.args.store.now).honest) ((store_view c.loop-listing.store).honest) seen
    c.args.job listing.window.job listing.at listing.end c.args.head.now.end c.in_err-step.field-0.0 was.job was.end run.time.honest.1 is in
    let more = c.loop-listing-test.true in
    let listed = listed_some wanted c.args.head.now.end c.in_err-step.field-0.0 (omega (arith, more)) (leb-true c.args.from c.loop-listing.number) c.in_err-step.ensures.kept was.came fault in
    let p = err_from_is_err_and c.from_residual.result c.from_residual.ensures.1 in
    rw (p.1, p.2) listed

pub returns-in_err-step-clause-rows : goal.returns-in_err-step-clause-rows
returns-in_err-step-clause-rows g c = λ rows are short long holds.
    let was = c.loop-listing.invariant in
    let listing = c.loop-listing.listing in
    let run = was.read.stays in
    let seen = (store_view c.args.store.now).seen in
    let wanted = leb c.args.from c.loop-listing.number in
    let is = c.in_err-step.ensures.fault seen run.seen (λ later. was.page (run.time.honest.0 later)) in
    let fault = fault_then c.args.schema.now (wanted ≡ true) ((store_view c.args.store.now).honest) ((store_view c.loop-listing.store).honest) seen
    c.args.job listing.window.job listing.at listing.end c.args.head.now.end c.in_err-step.field-0.0 was.job was.end run.time.honest.1 is in
    let more = c.loop-listing-test.true in
    let lists = lists_some (wanted ≡ true) c.args.head.now.end rows c.in_err-step.field-0.0 (g.R.RowSink.pushed c.step.new.out) (omega (arith, more)) was.came fault
    (λ honest. has_all c.args.schema.now (out_area c.args.job seen) c.args.head.now.end rows are short long (holds honest)) in
    let p = err_from_is_err_and c.from_residual.result c.from_residual.ensures.1 in
    rw (p.1, p.2) lists

pub returns-in_err-step-clause-ready : goal.returns-in_err-step-clause-ready
returns-in_err-step-clause-ready g c = (read_twice c.loop-listing.invariant.read c.step.ensures.read).ready

pub loop-listing-preserved : goal.loop-listing-preserved
loop-listing-preserved g c =
    let was = c.loop-listing.invariant in
    let listing = c.loop-listing.listing in
    let run = was.read.stays in
    let seen = (store_view c.args.store.now).seen in
    let honest = (store_view c.args.store.now).honest in
    let from = c.args.from in
    let number = c.loop-listing.number in
    let wanted = leb from number in
    let setup = c.step.ensures.setup in
    let on = c.in_ok-step.ensures.on in
    let few = was.few in
    let stepped = c.in_ok-step.ensures.stepped seen run.seen (λ later. was.page (run.time.honest.0 later)) in
    record {
      job = setup.0 ∙ was.job;
      end = setup.1 ∙ was.end;
      behind = c.in_ok-step.ensures.behind;
      few = omega (arith, on, few);
      came = step wanted (leb-true from number) (leb-false from number) was.came
          (stepped_then c.args.schema.now wanted honest ((store_view c.loop-listing.store).honest) seen c.args.job listing.window.job listing.at c.step.new.self.at
          (g.R.RowSink.pushed c.loop-listing.out) (g.R.RowSink.pushed c.step.new.out) was.job run.time.honest.1 stepped);
      page = λ told. c.in_ok-step.ensures.page seen run.seen (run.time.honest.1 told) (was.page told);
      read = read_twice was.read c.step.ensures.read;
      faults = c.in_ok-step.ensures.cause.0 ∙ was.faults;
      reads = omega (arith, c.step.ensures.reads, was.reads);
      follows = g.R.Outside.goes_on c.args.out.now c.loop-listing.out c.step.new.out was.follows c.step.ensures.follows;
      calls = c.step.ensures.calls ∙ was.calls;
      unbounded = c.step.ensures.unbounded;
      row_faults = c.in_ok-step.ensures.cause.1 ∙ was.row_faults;
    }

pub returns-clause-listed : goal.returns-clause-listed
returns-clause-listed g c =
    let was = c.loop-listing.invariant in
    let done = c.loop-listing-test.false in
    let within = c.loop-listing.listing.within in
    let end = was.end in
    listed_all c.args.head.now.end tt (omega (arith, done, within, end)) was.came

pub returns-clause-rows : goal.returns-clause-rows
returns-clause-rows g c = λ rows are short long holds honest.
    let was = c.loop-listing.invariant in
    let done = c.loop-listing-test.false in
    let within = c.loop-listing.listing.within in
    let end = was.end in
    lists_all c.args.head.now.end rows (omega (arith, done, within, end)) was.came honest
    (has_all c.args.schema.now (out_area c.args.job (store_view c.args.store.now).seen) c.args.head.now.end rows are short long (holds honest))
