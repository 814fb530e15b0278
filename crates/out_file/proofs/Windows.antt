-- What a window gives of an area, a piece behind another.
use Rattle.std.proofs.Common.{◌≡◌, ℕ, ◌+◌, ◌-◌, ◌*◌, ◌<◌, ◌≤◌, List, ◌++◌, length, take, drop, slice_index, sym, ap, subst, ◌∙◌, arith, append_assoc, length-append, length-drop}
use Rattle.std.proofs.Math.Seq.{take-append_seam}
use Rattle.std.proofs.lemmas.List.{length-take-le}
use Rattle.page_store.specs.PageOrder.{job_part}
use Rattle.page_store.specs.Store.{AreaHolds, Contents}
use Rattle.page_store.specs.Twin.{bytes_at}
use Rattle.out_file.specs.Reading.{HasPage}
use Rattle.out_file.specs.declared.window.Window.{Window}
use Rattle.out_file.proofs.AreaBytes.{bytes_on, bytes_stand, bytes_within}

-- a window that was stepped to a page has it
pub has_page : (w : Window) (m : Contents) (page : ℕ) → w.next ≡ page + 1 → AreaHolds (job_part w.job 4) (4096 * page) w.bytes m → HasPage w m
has_page w m page next holds = λ other is. let same : page ≡ other = omega arith in subst (λ (p : ℕ). AreaHolds (job_part w.job 4) (4096 * p) w.bytes m) same holds

-- a piece of a page
pub page_piece : (c : ℕ → ℕ) (page from n place : ℕ) (bytes : List ℕ) → length bytes ≡ 4096 → ((i : ℕ) → i < length bytes → c (4096 * page + i) ≡ slice_index bytes i)
    → from + n ≤ 4096 → place ≡ 4096 * page + from → take n (drop from bytes) ≡ bytes_at c place n
page_piece c page from n place bytes long holds within is =
    ap (λ xs. take n (drop from xs)) (bytes_stand c (4096 * page) bytes holds)
    ∙ bytes_within c (4096 * page) (length bytes) from n (omega arith)
    ∙ ap (λ (k : ℕ). bytes_at c k n) (sym is)

-- a piece that was put behind the first bytes
pub piece_more : (c : ℕ → ℕ) (at done n : ℕ) (out piece left rest : List ℕ) → done ≤ length out → length piece ≡ n
    → take done out ≡ bytes_at c at done → piece ≡ bytes_at c (at + done) n
    → take (done + n) (take done out ++ ((piece ++ left) ++ rest)) ≡ bytes_at c at (done + n)
piece_more c at done n out piece left rest within long before is =
    let front = take done out in
    let count : length (front ++ piece) ≡ done + n = omega (arith, length-append front piece, length-take-le done out within, long) in
    let parts : front ++ ((piece ++ left) ++ rest) ≡ (front ++ piece) ++ (left ++ rest) =
    ap (λ xs. front ++ xs) (append_assoc piece left rest) ∙ sym (append_assoc front piece (left ++ rest)) in
    ap (take (done + n)) parts ∙ ap (λ (k : ℕ). take k ((front ++ piece) ++ (left ++ rest))) (sym count) ∙ take-append_seam (front ++ piece) (left ++ rest)
    ∙ ap (λ xs. xs ++ piece) before ∙ ap (λ xs. bytes_at c at done ++ xs) is ∙ sym (bytes_on c at done n)

-- how many bytes are left behind a place
pub left_long : (out : List ℕ) (done : ℕ) → length (take (length out - done) (drop done out)) ≡ length out - done
left_long out done = length-take-le (length out - done) (drop done out) (omega (arith, length-drop done out))
