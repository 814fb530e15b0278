-- How the bytes of an output file go together: those that are written, those that are held back, and those of a new row.
use Rattle.std.proofs.Common.{◌≡◌, ℕ, ◌+◌, ◌-◌, ◌*◌, ◌≤◌, List, [], ◌∷◌, ◌++◌, length, take, drop, refl, sym, ap, ◌∙◌, subst, arith, length-append, length-drop}
use Rattle.std.proofs.lemmas.List.{drop-append-le, drop-drop, drop-take, length-take-le, take-append-le, take_all}
use Rattle.std.proofs.Math.Seq.{take-add}
use Rattle.page_store.specs.PageOrder.{job_part}
use Rattle.page_store.specs.Store.{AreaHolds, Contents}
use Rattle.page_store.proofs.AreaPieces.{holds_both}
use Rattle.qsr_value.specs.Encoding.{encoded_row}
use Rattle.qsr_value.specs.declared.schema.Column.{Column}
use Rattle.qsr_value.specs.declared.row.Value.{Value}
use Rattle.row_page.specs.Framed.{framed, rows_bytes}
use Rattle.row_page.proofs.Framing.{length-framed}
use Rattle.out_file.specs.Output.{HasOut, OutGrows, OutHolds, held_bytes}
use Rattle.out_file.specs.declared.file.OutFile.{OutFile}

-- each row has the two bytes of its length
pub rows_few : (schema : List Column) (rows : List (List Value)) → 2 * length rows ≤ length (rows_bytes (encoded_row schema) rows)
rows_few schema [] = omega arith
rows_few schema (row ∷ rest) =
    omega (arith, rows_few schema rest, length-append (framed (encoded_row schema row)) (rows_bytes (encoded_row schema) rest), length-framed (encoded_row schema row))

-- nothing was written
pub none_grows : (job at : ℕ) (m : Contents) → OutGrows job at m m
none_grows job at m = record {
  head = refl;
  bodies = refl;
  others = λ b other. refl;
  below = λ i before. refl;
}

-- what stands in front of the place from which bytes are written stays
pub front_stays : (job at : ℕ) (bytes : List ℕ) (old new : Contents) → length bytes ≤ at → OutGrows job at old new → OutHolds job bytes old → OutHolds job bytes new
front_stays job at bytes old new long grows holds i before =
    let here : 0 + i ≡ i = omega arith in
    rw here (grows.below i (omega arith) ∙ ap (old.area (job_part job 4)) (sym here) ∙ holds i before)

-- What is written next of an output, behind what stood before it: the first n bytes that are left.
pub next_stands : (job at n : ℕ) (bytes : List ℕ) (old new : Contents) → at ≤ length bytes → OutGrows job at old new → OutHolds job (take at bytes) old
    → AreaHolds (job_part job 4) at (take n (drop at bytes)) new → OutHolds job (take (at + n) bytes) new
next_stands job at n bytes old new long grows holds more =
    let count : length (take at bytes) ≡ at = length-take-le at bytes long in
    rw (take-add at n bytes) (holds_both (job_part job 4) 0 at (take at bytes) (take n (drop at bytes)) new (omega (arith, count))
    (front_stays job at (take at bytes) old new (omega (arith, count)) grows holds) more)

-- what is left behind a front of what was left
pub left_behind : (at n m : ℕ) (bytes rest : List ℕ) → drop at bytes ≡ take (n + m) rest → drop (at + n) bytes ≡ take m (drop n rest)
left_behind at n m bytes rest left = sym (drop-drop n at bytes) ∙ ap (drop n) left ∙ drop-take n m rest

pub front_left : (at n m : ℕ) (bytes rest : List ℕ) → drop at bytes ≡ take (n + m) rest → n ≤ length rest → take n (drop at bytes) ≡ take n rest
front_left at n m bytes rest left some =
    rw left (ap (take n) (take-add n m rest) ∙ take-append-le n (take n rest) (take m (drop n rest)) (omega (arith, length-take-le n rest some)) ∙ take_all n (take n rest) (omega (arith, length-take-le n rest some)))

-- what was held back in the buffer stays in front of what is put behind it
pub held_kept : (front held from : ℕ) (page put more : List ℕ) → front + held ≤ length page → from ≡ front + held → put ≡ take from page ++ more
    → take held (drop front put) ≡ take held (drop front page)
held_kept front held from page put more long place is =
    let before : length (take from page) ≡ front + held = length-take-le from page (omega (arith, place, long)) ∙ place in
    let has : length (take held (drop front page)) ≡ held = length-take-le held (drop front page) (omega (arith, length-drop front page)) in
    ap (λ (l : List ℕ). take held (drop front l)) is
    ∙ ap (take held) (drop-append-le front (take from page) more (omega (arith, before)) ∙ ap (λ (n : ℕ). drop front (take n page) ++ more) place ∙ ap (λ (l : List ℕ). l ++ more) (drop-take front held page))
    ∙ take-append-le held (take held (drop front page)) more (omega (arith, has)) ∙ take_all held (take held (drop front page)) (omega (arith, has))

-- A file has the rows that it had, where it holds back the same bytes, and of the area only what lies behind those that are
-- written may have changed.
pub has_still : (schema : List Column) (rows : List (List Value)) (old new : OutFile) (before after : Contents)
    → new.job ≡ old.job → new.rows ≡ old.rows → new.written ≡ old.written → new.held ≡ old.held → held_bytes new ≡ held_bytes old
    → OutGrows old.job old.written before after → HasOut schema rows old before → HasOut schema rows new after
has_still schema rows old new before after job count written held bytes grows has =
    let all = rows_bytes (encoded_row schema) rows in
    let long : length all ≡ old.written + old.held = has.long in
    let some : length (take old.written all) ≡ old.written = length-take-le old.written all (omega (arith, long)) in
    let stands : OutHolds old.job (take old.written all) after =
    front_stays old.job old.written (take old.written all) before after (omega (arith, some)) grows has.stands in
    record {
      count = count ∙ has.count;
      long = omega (arith, long, written, held);
      held = ap (λ (n : ℕ). drop n all) written ∙ has.held ∙ sym bytes;
      stands = subst (λ (n : ℕ). OutHolds new.job (take n all) after) (sym written) (subst (λ (n : ℕ). OutHolds n (take old.written all) after) (sym job) stands);
    }
