use Rattle.std.proofs.Common.{◌≡◌, suc, ◌+◌, ◌∙◌, ap, arith, pos, rules, subst, sym}
use Rattle.std.proofs.lemmas.Int.{to_z-of_z}
use Rattle.std.proofs.lemmas.Option.{get_or_from_slice_get}
use Rattle.std.specs.Int.{w64}
use Rattle.std.specs.List.{slice_index_or}
use Rattle.std.specs.Prelude.{FitsSigned}
use Rattle.disk_model.proofs.Runs.{stays_twice}
use Rattle.qsr_value.specs.Causes.{count_after, next_count}
use Rattle.row_script.specs.declared.numbers.Numbers.{Numbers}
use Rattle.row_script.proofs.AnswerLemmas.{Answers-listed, CutsOff-row, Listing-more}
use Rattle.row_script.proofs.RowLemmas.{told_row}
use Rattle.row_script.proofs.script.Script.list_rows.Goals as goal

pub returns-in-Err-clause-err : goal.returns-in-Err-clause-err
returns-in-Err-clause-err g c =
    let script = c.args.self.now in
    let place = c.loop-place.place in
    let inside = c.loop-place-test.true in
    let within = c.args.self.now.within in
    let value = c.in-Ok.value in
    let fits : FitsSigned w64 value = search rules in
    let kept = ap (λ (numbers : Numbers). numbers.rows) c.loop-place.invariant.same.1 in
    let is : slice_index_or script.numbers.rows place (pos 0) ≡ c.get-row.result.now =
    ap (λ rows. slice_index_or rows place (pos 0)) (sym kept) ∙ get_or_from_slice_get c.loop-place.self.numbers.rows place c.get-row.result.now (pos 0) c.get-row.ensures in
    let get_fits : FitsSigned w64 c.get-row.result.now = search rules in
    let row_fits : FitsSigned w64 (slice_index_or script.numbers.rows place (pos 0)) = subst (FitsSigned w64) (sym is) get_fits in
    let told = told_row place value c.loop-place.invariant.stays inside fits row_fits c.in-Ok.ensures.value in
    let same = to_z-of_z w64 value fits in
    let err = c.in-Err.ensures.err in
    CutsOff-row script.size script.numbers c.in-Err.end within inside c.loop-place.invariant.listing _ (λ tells. same ∙ told tells) err.0 err.1 err.2

pub loop-place-preserved : goal.loop-place-preserved
loop-place-preserved g c =
    let script = c.args.self.now in
    let place = c.loop-place.place in
    let inside = c.loop-place-test.true in
    let within = c.args.self.now.within in
    let value = c.in-Ok.value in
    let fits : FitsSigned w64 value = search rules in
    let kept = ap (λ (numbers : Numbers). numbers.rows) c.loop-place.invariant.same.1 in
    let is : slice_index_or script.numbers.rows place (pos 0) ≡ c.get-row.result.now =
    ap (λ rows. slice_index_or rows place (pos 0)) (sym kept) ∙ get_or_from_slice_get c.loop-place.self.numbers.rows place c.get-row.result.now (pos 0) c.get-row.ensures in
    let get_fits : FitsSigned w64 c.get-row.result.now = search rules in
    let row_fits : FitsSigned w64 (slice_index_or script.numbers.rows place (pos 0)) = subst (FitsSigned w64) (sym is) get_fits in
    let told = told_row place value c.loop-place.invariant.stays inside fits row_fits c.in-Ok.ensures.value in
    let same = to_z-of_z w64 value fits in
    let one : suc place ≡ place + 1 = omega arith in
    record {
      listing = Listing-more c.loop-place.invariant.listing _ (λ tells. same ∙ told tells) (omega (arith, inside, within)) c.in_default-list_row.ensures.ok;
      stays = stays_twice c.loop-place.invariant.stays c.in-Ok.ensures.stays;
      size = c.in-Ok.ensures.size ∙ c.loop-place.invariant.size;
      faults = c.in-Ok.ensures.faults ∙ c.loop-place.invariant.faults;
      reads = c.in-Ok.ensures.reads ∙ ap next_count c.loop-place.invariant.reads ∙ ap (λ calls. count_after calls (g.D.Disk.reads_of c.args.disk.now)) one;
      writes = c.in-Ok.ensures.writes ∙ c.loop-place.invariant.writes;
      syncs = c.in-Ok.ensures.syncs ∙ c.loop-place.invariant.syncs;
      sink = c.in_default-list_row.ensures.unfailed ∙ c.loop-place.invariant.sink;
      same = (c.list_row.ensures.same.0 ∙ c.loop-place.invariant.same.0, c.list_row.ensures.same.1 ∙ c.loop-place.invariant.same.1, c.list_row.ensures.same.2 ∙ c.loop-place.invariant.same.2, c.list_row.ensures.same.3 ∙ c.loop-place.invariant.same.3);
    }

pub returns-in-Ok-push-clause-ok : goal.returns-in-Ok-push-clause-ok
returns-in-Ok-push-clause-ok g c =
    let script = c.args.self.now in
    let within = c.args.self.now.within in
    let here : c.loop-place.place ≡ script.numbers.acknowledged = omega arith in
    Answers-listed script.size script.numbers within here c.loop-place.invariant.listing c.in-Ok-push.ensures.ok
