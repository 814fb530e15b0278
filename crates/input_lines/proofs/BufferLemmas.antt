-- The bytes that a buffer holds, as a range of a vector.
use Rattle.std.proofs.Common.{◌≡◌, ℕ, ◌+◌, ◌-◌, ◌≤◌, List, ◌++◌, length, take, drop, Option, Some, None, arith, ap, sym, ◌∙◌, append_assoc}
use Rattle.std.proofs.Math.Seq.{take-add}
use Rattle.std.proofs.lemmas.List.{drop-take, drop-drop, length-take}
use Rattle.std.specs.Io.KnownBytes.{Consumes, Keeps, prepend_known}
use Rattle.std.specs.List.{slice_range}

-- the front of a range is taken away
pub slice_range-later : (xs : List ℕ) (start end n : ℕ) → n ≤ length (slice_range xs start end) → slice_range xs (start + n) end ≡ drop n (slice_range xs start end)
slice_range-later xs start end n within =
    let fits : n ≤ end - start = omega (arith, within, length-take (end - start) (drop start xs)) in
    let parts : end - start ≡ n + (end - (start + n)) = omega arith in
    rw (parts, drop-take n (end - (start + n)) (drop start xs)) (ap (take (end - (start + n))) (sym (drop-drop n start xs)))

-- behind the bytes that were held come those that a read brought
grown : (old xs : List ℕ) (held n : ℕ) → take held xs ≡ old → slice_range xs 0 (held + n) ≡ old ++ take n (drop held xs)
grown old xs held n kept =
    let all : held + n - 0 ≡ held + n = omega arith in
    rw (all, take-add held n xs) (ap (λ front. front ++ take n (drop held xs)) kept)

-- what is held and what is left stay together what they were
pub Keeps-read : (a b : Option (List ℕ)) (old xs : List ℕ) (held n : ℕ) → take held xs ≡ old → Consumes a b (take n (drop held xs)) → Keeps (prepend_known old a) (prepend_known (slice_range xs 0 (held + n)) b)
Keeps-read None b old xs held n kept consumes = tt
Keeps-read (Some all) None old xs held n kept consumes = absurd consumes
Keeps-read (Some all) (Some left) old xs held n kept consumes =
    ap (λ front. front ++ left) (grown old xs held n kept) ∙ append_assoc old (take n (drop held xs)) left ∙ ap (λ back. old ++ back) (sym consumes)
