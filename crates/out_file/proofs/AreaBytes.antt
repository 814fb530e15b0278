-- The bytes of an area from a place on.
use Rattle.std.proofs.Common.{◌≡◌, ℕ, zero, suc, ◌+◌, ◌-◌, ◌<◌, ◌≤◌, List, [], ◌∷◌, ◌++◌, length, take, drop, slice_index, refl, sym, ap, ◌∙◌, arith}
use Rattle.std.proofs.Math.Seq.{take-append_seam}
use Rattle.byteorder.specs.Endian.{little_number}
use Rattle.byteorder.specs.Numbers.{little_from-take}
use Rattle.page_store.specs.Twin.{bytes_at}

pub length-bytes_at : (c : ℕ → ℕ) (at n : ℕ) → length (bytes_at c at n) ≡ n
unfolding bytes_at
length-bytes_at c at zero = refl
length-bytes_at c at (suc n) = ap suc (length-bytes_at c (at + 1) n)

-- the first bytes, and the next
pub bytes_on : (c : ℕ → ℕ) (at m n : ℕ) → bytes_at c at (m + n) ≡ bytes_at c at m ++ bytes_at c (at + m) n
unfolding bytes_at
bytes_on c at zero n =
    let none : zero + n ≡ n = omega arith in
    let here : at + zero ≡ at = omega arith in
    rw (none, here) refl
bytes_on c at (suc m) n =
    let more : suc m + n ≡ suc (m + n) = omega arith in
    let place : (at + 1) + m ≡ at + suc m = omega arith in
    let rest = bytes_on c (at + 1) m n in
    ap (bytes_at c at) more ∙ ap (λ xs. c at ∷ xs) (rest ∙ ap (λ (k : ℕ). bytes_at c (at + 1) m ++ bytes_at c k n) place)

-- bytes that stand there are those
pub bytes_stand : (c : ℕ → ℕ) (at : ℕ) (xs : List ℕ) → ((i : ℕ) → i < length xs → c (at + i) ≡ slice_index xs i) → xs ≡ bytes_at c at (length xs)
unfolding bytes_at
bytes_stand c at [] stand = refl
bytes_stand c at (x ∷ xs) stand =
    let here : at + 0 ≡ at = omega arith in
    let first : x ≡ c at = sym (ap c (sym here) ∙ stand 0 (omega arith)) in
    let rest = bytes_stand c (at + 1) xs (λ i low.
    let place : (at + 1) + i ≡ at + suc i = omega arith in
    ap c place ∙ stand (suc i) (omega arith)) in
    ap (λ (b : ℕ). b ∷ xs) first ∙ ap (λ ys. c at ∷ ys) rest

drop-seam : (xs ys : List ℕ) → drop (length xs) (xs ++ ys) ≡ ys
drop-seam [] ys = refl
drop-seam (x ∷ xs) ys = drop-seam xs ys

-- what is cut out of such bytes
pub bytes_within : (c : ℕ → ℕ) (at all from n : ℕ) → from + n ≤ all → take n (drop from (bytes_at c at all)) ≡ bytes_at c (at + from) n
bytes_within c at all from n within =
    let rest = all - from - n in
    let parts : all ≡ from + (n + rest) = omega arith in
    let split = ap (bytes_at c at) parts ∙ bytes_on c at from (n + rest) in
    let front = bytes_at c at from in
    let behind : drop from (bytes_at c at all) ≡ bytes_at c (at + from) (n + rest) =
    ap (drop from) split ∙ ap (λ (k : ℕ). drop k (front ++ bytes_at c (at + from) (n + rest))) (sym (length-bytes_at c at from)) ∙ drop-seam front (bytes_at c (at + from) (n + rest)) in
    let piece = bytes_at c (at + from) n in
    ap (take n) (behind ∙ bytes_on c (at + from) n rest)
    ∙ ap (λ (k : ℕ). take k (piece ++ bytes_at c (at + from + n) rest)) (sym (length-bytes_at c (at + from) n)) ∙ take-append_seam piece (bytes_at c (at + from + n) rest)

-- the bytes up to a place, and those behind it
pub bytes_before : (c : ℕ → ℕ) (at end : ℕ) → at ≤ end → take at (bytes_at c 0 end) ≡ bytes_at c 0 at
bytes_before c at end within = bytes_within c 0 end 0 at (omega arith)

pub bytes_behind : (c : ℕ → ℕ) (at end : ℕ) → at ≤ end → drop at (bytes_at c 0 end) ≡ bytes_at c at (end - at)
bytes_behind c at end within =
    let parts : end ≡ at + (end - at) = omega arith in
    let here : 0 + at ≡ at = omega arith in
    let front = bytes_at c 0 at in
    ap (λ (k : ℕ). drop at (bytes_at c 0 k)) parts ∙ ap (drop at) (bytes_on c 0 at (end - at)) ∙ ap (λ (k : ℕ). drop at (front ++ bytes_at c k (end - at))) here
    ∙ ap (λ (k : ℕ). drop k (front ++ bytes_at c at (end - at))) (sym (length-bytes_at c 0 at)) ∙ drop-seam front (bytes_at c at (end - at))

pub no_bytes : (c : ℕ → ℕ) (at : ℕ) → [] ≡ bytes_at c at 0
unfolding bytes_at
no_bytes c at = refl

-- the number in the first two bytes
pub number_at_front : (c : ℕ → ℕ) (at n : ℕ) → 2 ≤ n → little_number 2 (bytes_at c at n) ≡ little_number 2 (bytes_at c at 2)
number_at_front c at n long =
    let here : at + 0 ≡ at = omega arith in
    sym (little_from-take 0 2 2 (bytes_at c at n) (omega arith)) ∙ ap (little_number 2) (bytes_within c at n 0 2 (omega arith) ∙ ap (λ (k : ℕ). bytes_at c k 2) here)
