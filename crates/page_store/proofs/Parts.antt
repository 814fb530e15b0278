-- The laws of parts that stand one behind the other, over any list of sizes.
use Rattle.std.proofs.Common.{◌≡◌, ℕ, zero, suc, ◌+◌, ◌-◌, ◌*◌, ◌<◌, ◌≤◌, List, [], ◌∷◌, ◌++◌, length, replicate, slice_index, sum, refl, sym, ap, ◌∙◌, suc-mul, arith, inl, inr}
use Rattle.std.proofs.lemmas.List.Sums.{sum_by-cons}
use Rattle.std.proofs.lemmas.Bool.{cases_lt}
use Rattle.std.proofs.lemmas.Bool.Decides.{leb_tells}
use Rattle.page_store.specs.PageOrder.{start_of, repeated, IsPageOf, IsOfOnePart}

-- a part ends before a later one begins
pub apart : (ss : List ℕ) (k j : ℕ) → k < j → k < length ss → start_of ss k + slice_index ss k ≤ start_of ss j
apart [] k j before part = absurd (omega arith)
apart (s ∷ ss) k zero before part = absurd (omega arith)
apart (s ∷ ss) zero (suc j) before part = omega arith
apart (s ∷ ss) (suc k) (suc j) before part = let rest = apart ss k j (omega arith) (omega arith) in omega (arith, rest)

-- behind the last part all pages are counted
pub start_of-all : (ss : List ℕ) → start_of ss (length ss) ≡ sum ss
start_of-all [] = refl
start_of-all (s ∷ ss) = ap (λ n. s + n) (start_of-all ss) ∙ sym (sum_by-cons (λ x. x) s ss)

-- a part ends within all pages
pub part_within : (ss : List ℕ) (k : ℕ) → k < length ss → start_of ss k + slice_index ss k ≤ sum ss
part_within ss k part = let law = apart ss k (length ss) part part in omega (arith, law, start_of-all ss)

-- a page of a later part
in_rest : (s : ℕ) (ss : List ℕ) (k page : ℕ) → s ≤ page → IsPageOf ss k (page - s) → IsPageOf (s ∷ ss) (suc k) page
in_rest s ss k page behind is = record {
  part = let part = is.part in omega (arith, part);
  first = let first = is.first in omega (arith, first);
  last = let last = is.last in omega (arith, last);
}

-- each page is one of a part
pub has_part : (ss : List ℕ) (page : ℕ) → page < sum ss → (k : ℕ) × IsPageOf ss k page
has_part [] page below = absurd (omega arith)
has_part (s ∷ ss) page below = elim (leb_tells s page) [
  | inl behind ↦
      let all = sum_by-cons (λ x. x) s ss in
      let has = has_part ss (page - s) (omega (arith, all, below, behind.1)) in
      (suc has.0, in_rest s ss has.0 page behind.1 has.1)
  | inr inside ↦ (0, record { part = omega arith; first = omega arith; last = omega (arith, inside.1) })
]

-- and of no other
one_part : (ss : List ℕ) (k j page : ℕ) → IsPageOf ss k page → IsPageOf ss j page → k ≡ j
one_part ss k j page first second = elim (cases_lt k j) [
  | inl before ↦ let law = apart ss k j before first.part in absurd (omega (arith, law))
  | inr not_before ↦ elim (cases_lt j k) [
    | inl behind ↦ let law = apart ss j k behind second.part in absurd (omega (arith, law))
    | inr not_behind ↦ omega arith
  ]
]

-- each page is one of exactly one part
pub covers : (ss : List ℕ) (page : ℕ) → page < sum ss → IsOfOnePart ss page
covers ss page below =
    let has = has_part ss page below in
    record { number = has.0; is = has.1; only = λ j is. one_part ss j has.0 page is has.1 }

pub start_of-append_left : (xs ys : List ℕ) (k : ℕ) → k ≤ length xs → start_of (xs ++ ys) k ≡ start_of xs k
start_of-append_left [] [] k within = refl
start_of-append_left [] (y ∷ ys) zero within = refl
start_of-append_left [] (y ∷ ys) (suc k) within = absurd (omega arith)
start_of-append_left (x ∷ xs) ys zero within = refl
start_of-append_left (x ∷ xs) ys (suc k) within = ap (λ n. x + n) (start_of-append_left xs ys k (omega arith))

start_behind : (xs ys : List ℕ) (j : ℕ) → start_of (xs ++ ys) (length xs + j) ≡ start_of xs (length xs) + start_of ys j
start_behind [] ys j = let at : 0 + j ≡ j = omega arith in rw at (omega arith)
start_behind (x ∷ xs) ys j =
    let at : suc (length xs) + j ≡ suc (length xs + j) = omega arith in
    rw at (ap (λ n. x + n) (start_behind xs ys j) ∙ omega arith)

pub start_of-append_right : (xs ys : List ℕ) (k j : ℕ) → k ≡ length xs + j → start_of (xs ++ ys) k ≡ start_of xs (length xs) + start_of ys j
start_of-append_right xs ys k j is = ap (start_of (xs ++ ys)) is ∙ start_behind xs ys j

pub start_of-replicate : (n s k : ℕ) → k ≤ n → start_of (replicate n s) k ≡ k * s
start_of-replicate zero s k within = let at : k ≡ 0 = omega arith in rw at (omega arith)
start_of-replicate (suc n) s zero within = omega arith
start_of-replicate (suc n) s (suc k) within = ap (λ n. s + n) (start_of-replicate n s k (omega arith)) ∙ omega (arith, suc-mul k s)

-- a part of one of the lists that stand one behind the other
pub start_of-repeated : (n : ℕ) (xs : List ℕ) (j k : ℕ) → j < n → k ≤ length xs
    → start_of (repeated n xs) (j * length xs + k) ≡ j * start_of xs (length xs) + start_of xs k
start_of-repeated zero xs j k before within = absurd (omega arith)
start_of-repeated (suc n) xs zero k before within =
    let at : 0 * length xs + k ≡ k = omega arith in
    rw at (start_of-append_left xs (repeated n xs) k within ∙ omega arith)
start_of-repeated (suc n) xs (suc j) k before within =
    let at : suc j * length xs + k ≡ length xs + (j * length xs + k) = omega (arith, suc-mul j (length xs)) in
    let rest = start_of-repeated n xs j k (omega arith) within in
    rw at (start_behind xs (repeated n xs) (j * length xs + k) ∙ omega (arith, rest, suc-mul j (start_of xs (length xs))))
