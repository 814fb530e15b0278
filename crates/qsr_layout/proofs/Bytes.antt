-- Bytes of a page, put together from the fields that stand there.
use Rattle.std.proofs.Common.{◌≡◌, ℕ, ◌+◌, ◌-◌, ◌<◌, ◌≤◌, List, ◌++◌, length, take, drop, slice_index, length-append, length-drop, arith, ap, sym, refl, inl, inr, ◌∙◌}
use Rattle.std.proofs.lemmas.Bool.{cases_lt}
use Rattle.std.proofs.lemmas.List.{ext_get_or, get_or_append_left, get_or-take, get_or-drop, get_or-append_right, length-take-le}
use Rattle.qsr_layout.specs.Page.{PageHolds, PageSameOutside}

-- one field more, behind those that stand there
pub holds_more : (page new front more : List ℕ) (from at n : ℕ) → from + length front ≡ at
    → PageHolds page from front → PageHolds new at more → PageSameOutside at n page new → PageHolds new from (front ++ more)
holds_more page new front more from at n here front_stands more_stands same = record {
  each = λ k inside. elim (cases_lt k (length front)) [
    | inl before ↦ same.below (from + k) (omega arith) ∙ front_stands.each k before ∙ sym (get_or_append_left front more 0 k before)
    | inr behind ↦
        let place : from + k ≡ at + (k - length front) = omega arith in
        ap (slice_index new) place
        ∙ more_stands.each (k - length front) (omega (arith, inside, length-append front more))
        ∙ sym (get_or-append_right front more (length front) k 0 refl behind)
  ];
}

-- the bytes that stand there, as a list
pub is_part : (page bytes : List ℕ) (at n : ℕ) → n ≡ length bytes → at + n ≤ length page → PageHolds page at bytes → take n (drop at page) ≡ bytes
is_part page bytes at n long within stands =
    let rest = length-drop at page in
    let count : length (take n (drop at page)) ≡ n = length-take-le n (drop at page) (omega (arith, rest, within)) in
    ext_get_or 0 (take n (drop at page)) bytes (count ∙ long)
    (λ i inside. get_or-take n (drop at page) i 0 (omega (arith, inside, count)) ∙ get_or-drop at page i 0 ∙ stands.each i (omega (arith, inside, count, long)))
