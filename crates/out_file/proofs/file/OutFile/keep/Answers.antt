use Rattle.std.proofs.Common.{◌≡◌, ◌+◌, ◌-◌, ◌%◌, List, ℕ, take, drop, length, arith, subst, sym, ap, ◌∙◌, length-drop, rules}
use Rattle.std.proofs.lemmas.List.{drop-drop}
use Rattle.page_store.specs.PageOrder.{job_part}
use Rattle.page_store.specs.Store.{AreaHolds, store_view}
use Rattle.out_file.specs.Output.{OutHolds}
use Rattle.out_file.proofs.Outputs.{front_left, left_behind, next_stands}
use Rattle.out_file.proofs.file.OutFile.keep.Goals as goal

pub returns-clause-held : goal.returns-clause-held
returns-clause-held g c = λ bytes left.
    let out = c.args.self.now in
    let front = out.written % 4096 in
    let rest = drop front out.page in
    let past = c.if-end-lt-PAGE_BYTES.false in
    let count : c.args.end - front ≡ (4096 - front) + (c.args.end - 4096) = omega (arith, past) in
    let place : front + (4096 - front) ≡ 4096 = omega arith in
    ap (λ (n : ℕ). drop n bytes) c.next_page.ensures.written
    ∙ left_behind out.written (4096 - front) (c.args.end - 4096) bytes rest (left ∙ ap (λ (n : ℕ). take n rest) count)
    ∙ ap (take (c.args.end - 4096)) (drop-drop (4096 - front) front out.page ∙ ap (λ (n : ℕ). drop n out.page) place)
    ∙ sym c.next_page.ensures.bytes

pub returns-clause-stands : goal.returns-clause-stands
returns-clause-stands g c = λ bytes long left before honest_after.
    let out = c.args.self.now in
    let front = out.written % 4096 in
    let rest = drop front out.page in
    let past = c.if-end-lt-PAGE_BYTES.false in
    let honest = c.write_up_to.ensures.grows.time.honest.0 honest_after in
    let page : length out.page ≡ 5120 = search rules in
    let count : c.args.end - front ≡ (4096 - front) + (c.args.end - 4096) = omega (arith, past) in
    let part : take (4096 - front) (drop out.written bytes) ≡ take (4096 - front) rest =
    front_left out.written (4096 - front) (c.args.end - 4096) bytes rest (left ∙ ap (λ (n : ℕ). take n rest) count) (omega (arith, page, length-drop front out.page)) in
    subst (λ (n : ℕ). OutHolds out.job (take n bytes) (store_view c.write_up_to.new.store).seen) (sym c.next_page.ensures.written)
    (next_stands out.job out.written (4096 - front) bytes (store_view c.args.store.now).seen (store_view c.write_up_to.new.store).seen long (c.write_up_to.ensures.grows.seen honest) (before honest)
    (subst (λ (l : List ℕ). AreaHolds (job_part out.job 4) out.written l (store_view c.write_up_to.new.store).seen) (sym part) (c.in_ok-write_up_to.ensures.stands honest)))
