use Rattle.std.proofs.Common.{rules, ◌≡◌, ℕ, ◌+◌, ◌-◌, ◌*◌, ◌<◌, ◌++◌, ◌∙◌, refl, sym, ap, arith, length-drop, length, take, drop, slice_index, subst, ◌/◌, ◌%◌}
use borrow.Rule.Slice.PartMut.{post_of, put_mid}
use Rattle.std.proofs.lemmas.List.{length-take-le}
use Rattle.page_store.specs.PageOrder.{job_part}
use Rattle.page_store.specs.Store.{AreaHolds}
use Rattle.page_store.specs.Twin.{bytes_at}
use Rattle.out_file.specs.Reading.{out_area}
use Rattle.out_file.proofs.AreaBytes.{no_bytes}
use Rattle.out_file.proofs.OnlyReads.{none_read, read_twice}
use Rattle.out_file.proofs.Windows.{has_page, left_long, page_piece, piece_more}
use Rattle.out_file.proofs.window.Window.fill.Goals as goal

pub loop-done-init : goal.loop-done-init
loop-done-init g c = record {
  within = omega arith;
  job = refl;
  behind = omega (arith, c.requires.behind);
  read = none_read c.args.store.now;
  faults = refl;
  reads = omega arith;
  bytes = λ m seen honest has. (has, no_bytes (out_area c.args.self.now.job m) c.args.at);
}

pub returns-in_err-go_to-clause-read : goal.returns-in_err-go_to-clause-read
returns-in_err-go_to-clause-read g c = read_twice c.loop-done.invariant.read c.go_to.ensures.read

pub loop-done-preserved : goal.loop-done-preserved
loop-done-preserved g c =
    let out = c.loop-done.out in
    let done = c.loop-done.done in
    let count = c.copy_to-done.result in
    let place = c.args.at + done in
    let window = c.go_to.new.self in
    let left = left_long out done in
    let more = c.loop-done-test.true in
    let counted = c.copy_to-done.ensures.count in
    let next = c.go_to.ensures.next in
    let run = c.loop-done.invariant.read in
    let job = c.go_to.ensures.job in
    record {
      within = search rules;
      job = job ∙ c.loop-done.invariant.job;
      behind = omega (arith, left, more, counted, next);
      read = read_twice run c.go_to.ensures.read;
      faults = c.in_ok-go_to.ensures.faults ∙ c.loop-done.invariant.faults;
      reads = omega (arith, c.go_to.ensures.reads, c.loop-done.invariant.reads);
      bytes = λ m seen honest has.
          let before = c.loop-done.invariant.bytes m seen honest has in
          let area = out_area c.args.self.now.job m in
          let holds = c.in_ok-go_to.ensures.bytes m (run.stays.seen ∙ seen) (run.stays.time.honest.1 honest) before.0 in
          let long : length window.bytes ≡ 4096 = c.copy_to-done.ensures.page in
          let holds_here : (i : ℕ) → i < length window.bytes → area (4096 * (place / 4096) + i) ≡ slice_index window.bytes i =
          subst (λ (j : ℕ). AreaHolds (job_part j 4) (4096 * (place / 4096)) window.bytes m) c.loop-done.invariant.job holds in
          let piece : take count (drop (place % 4096) window.bytes) ≡ bytes_at area place count =
          page_piece area (place / 4096) (place % 4096) count place window.bytes long holds_here (omega (arith, counted)) (omega arith) in
          let old = take (length out - done) (drop done out) in
          let piece_long : length (take count (drop (place % 4096) window.bytes)) ≡ count = length-take-le count (drop (place % 4096) window.bytes) (omega (arith, counted, long, length-drop (place % 4096) window.bytes)) in
          let put : take (done + count) (put_mid done (length out - done) out c.copy_to-done.new.out)
          ≡ take (done + count) (take done out ++ ((take count (drop (place % 4096) window.bytes) ++ drop count old) ++ post_of done (length out - done) out)) =
          ap (λ xs. take (done + count) (put_mid done (length out - done) out xs)) c.copy_to-done.ensures.bytes in (
            has_page window m (place / 4096) next (subst (λ (j : ℕ). AreaHolds (job_part j 4) (4096 * (place / 4096)) window.bytes m) (sym job) holds),
            put ∙ piece_more area c.args.at done count out (take count (drop (place % 4096) window.bytes)) (drop count old) (post_of done (length out - done) out)
                c.loop-done.invariant.within piece_long before.1 piece,
          );
    }
