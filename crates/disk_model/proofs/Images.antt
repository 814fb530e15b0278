-- Bytes over others, as lists and as images.
use Rattle.std.proofs.Common.{◌≡◌, ℕ, ◌+◌, ◌-◌, ◌<◌, ◌≤◌, true, false, List, length, get_or, replicate, slice_index, arith, ◌∙◌, ap, inl, inr}
use Rattle.std.proofs.lemmas.Grind.{common_steps}
use Rattle.std.proofs.lemmas.Bool.Decides.{nat_tests, leb_tells}
use Rattle.std.proofs.lemmas.List.{get_or-replicate}
use Rattle.disk_model.specs.Replay.{is_within, written, filled}
use borrow.Rule.Slice.PartMut.{put_mid}

pub within_is : (at n i : ℕ) → at ≤ i → i < at + n → is_within at n i ≡ true
within_is at n i above below = grind (arith, nat_tests)

pub below_is : (at n i : ℕ) → i < at → is_within at n i ≡ false
below_is at n i below = grind (arith, nat_tests)

pub above_is : (at n i : ℕ) → at + n ≤ i → is_within at n i ≡ false
above_is at n i above = grind (arith, nat_tests)

pub get_before : (xs ys : List ℕ) (at n i : ℕ) → i < at → at ≤ length xs → get_or (put_mid at n xs ys) i 0 ≡ get_or xs i 0
get_before xs ys at n i below within = grind (arith, common_steps)

get_inside : (xs ys : List ℕ) (at n i : ℕ) → at ≤ i → i < at + length ys → at ≤ length xs → get_or (put_mid at n xs ys) i 0 ≡ get_or ys (i - at) 0
get_inside xs ys at n i above below within = grind (arith, common_steps)

pub get_behind : (xs ys : List ℕ) (at n i : ℕ) → n ≡ length ys → at + n ≤ i → at + n ≤ length xs → get_or (put_mid at n xs ys) i 0 ≡ get_or xs i 0
get_behind xs ys at n i count above within = grind (arith, common_steps)

written_at : (xs ys : List ℕ) (at n i : ℕ) → n ≡ length ys → at + n ≤ length xs → get_or (put_mid at n xs ys) i 0 ≡ written at ys (slice_index xs) i
written_at xs ys at n i count within = elim (leb_tells at i) [
  | inl above ↦ elim (leb_tells (at + n) i) [
    | inl behind ↦ rw (above_is at (length ys) i (omega (arith, count, behind.1))) (get_behind xs ys at n i count behind.1 within)
    | inr below ↦ rw (within_is at (length ys) i above.1 (omega (arith, count, below.1))) (get_inside xs ys at n i above.1 (omega (arith, count, below.1)) (omega arith))
  ]
  | inr before ↦ rw (below_is at (length ys) i before.1) (get_before xs ys at n i before.1 (omega arith))
]

pub put_mid-written : (xs ys zs : List ℕ) (at n : ℕ) → zs ≡ ys → n ≡ length ys → at + length ys ≤ length xs → slice_index (put_mid at n xs zs) ≡ written at ys (slice_index xs)
put_mid-written xs ys zs at n same count within = rw same (λ i k. written_at xs ys at n k count (omega (arith, count, within)) i)

filled_at : (xs ys : List ℕ) (at n b i : ℕ) → ys ≡ replicate n b → n ≡ length ys → at + n ≤ length xs → get_or (put_mid at n xs ys) i 0 ≡ filled at n b (slice_index xs) i
filled_at xs ys at n b i same count within = elim (leb_tells at i) [
  | inl above ↦ elim (leb_tells (at + n) i) [
    | inl behind ↦ rw (above_is at n i behind.1) (get_behind xs ys at n i count behind.1 within)
    | inr below ↦ rw (within_is at n i above.1 below.1)
        (get_inside xs ys at n i above.1 (omega (arith, count, below.1)) (omega arith) ∙ ap (λ bytes. get_or bytes (i - at) 0) same ∙ get_or-replicate n (i - at) b 0 (omega (arith, above.1, below.1)))
  ]
  | inr before ↦ rw (below_is at n i before.1) (get_before xs ys at n i before.1 (omega arith))
]

pub put_mid-filled : (xs ys : List ℕ) (at n m k b : ℕ) → k ≡ n → ys ≡ replicate k b → m ≡ n → n ≡ length ys → at + n ≤ length xs → slice_index (put_mid at m xs ys) ≡ filled at n b (slice_index xs)
put_mid-filled xs ys at n m k b size same count long within =
    rw count (λ i p. filled_at xs ys at n b p (same ∙ ap (λ times. replicate times b) size) long within i)
