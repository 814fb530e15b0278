-- The number in some bytes of a page.
use Rattle.std.proofs.Common.{◌≡◌, ℕ, zero, suc, ◌+◌, ◌*◌, ◌/◌, ◌%◌, ◌^◌, ◌<◌, ◌≤◌, List, [], ◌∷◌, length, drop, slice_index, refl, sym, ap, ◌∙◌, arith, append-nil}
use Rattle.std.proofs.Math.Nat.{div-div-eq-div-mul, pow-succ'}
use Rattle.std.proofs.lemmas.List.{get_or-drop}
use Rattle.std.specs.Int.{byte_at, bytes_low_first}
use Rattle.byteorder.specs.Endian.{little_bytes, little_from}
use Rattle.byteorder.specs.Numbers.{length-bytes_low_first, little_number-reads_back}
use Rattle.qsr_layout.specs.Page.{PageHolds}

-- the number reads only its own bytes
pub little_from-same : (at n : ℕ) (xs ys : List ℕ) → ((k : ℕ) → at ≤ k → k < at + n → slice_index xs k ≡ slice_index ys k)
    → little_from at n xs ≡ little_from at n ys
little_from-same at zero xs ys same = refl
little_from-same at (suc n) xs ys same =
    let byte = same at (omega arith) (omega arith) in
    let rest = little_from-same (suc at) n xs ys (λ k low high. same k (omega arith) (omega arith)) in
    rw (byte, rest) refl

-- the number in bytes that stand further on
pub little_from-moved : (at i n : ℕ) (page bytes : List ℕ) → ((k : ℕ) → k < i + n → slice_index page (at + k) ≡ slice_index bytes k)
    → little_from (at + i) n page ≡ little_from i n bytes
little_from-moved at i zero page bytes same = refl
little_from-moved at i (suc n) page bytes same =
    let byte = same i (omega arith) in
    let next : suc (at + i) ≡ at + suc i = omega arith in
    let rest = little_from-moved at (suc i) n page bytes (λ k high. same k (omega arith)) in
    rw (byte, next, rest) refl

-- the number behind a first part of the page
pub little_from-drop : (at n : ℕ) (page : List ℕ) → little_from 0 n (drop at page) ≡ little_from at n page
little_from-drop at n page =
    let start : at + 0 ≡ at = omega arith in
    sym (ap (λ (i : ℕ). little_from i n page) (sym start) ∙ little_from-moved at 0 n page (drop at page) (λ k high. sym (get_or-drop at page k 0)))

-- where the bytes of a number stand, that number stands
pub little_from-holds : (at n v : ℕ) (page : List ℕ) → v < 256 ^ n → PageHolds page at (little_bytes n v) → little_from at n page ≡ v
little_from-holds at n v page fits holds =
    let long : length (little_bytes n v) ≡ n = length-bytes_low_first 0 n v in
    let start : at + 0 ≡ at = omega arith in
    let moved = little_from-moved at 0 n page (little_bytes n v) (λ k high. holds.each k (omega (arith, long))) in
    let back = little_number-reads_back n v [] fits in
    ap (λ (i : ℕ). little_from i n page) (sym start) ∙ moved ∙ ap (little_from 0 n) (sym (append-nil (little_bytes n v))) ∙ back

-- the bytes of a number above its lowest one
byte_at-next : (j x : ℕ) → byte_at (suc j) x ≡ byte_at j (x / 256)
byte_at-next zero x = refl
byte_at-next (suc j) x = ap (λ (p : ℕ). x / p % 256) (pow-succ' 256 (suc j)) ∙ ap (λ (n : ℕ). n % 256) (sym (div-div-eq-div-mul x 256 (256 ^ suc j)))

low_first-next : (j n x : ℕ) → bytes_low_first (suc j) n x ≡ bytes_low_first j n (x / 256)
low_first-next j zero x = refl
low_first-next j (suc n) x =
    let byte = byte_at-next j x in
    let rest = low_first-next (suc j) n x in
    rw (byte, rest) refl

-- a byte, and others behind it
holds-cons : (at : ℕ) (page : List ℕ) (b : ℕ) (bs : List ℕ) → slice_index page at ≡ b → PageHolds page (suc at) bs → PageHolds page at (b ∷ bs)
holds-cons at page b bs byte rest = record { each = each } where
  each : (k : ℕ) → k < length (b ∷ bs) → slice_index page (at + k) ≡ slice_index (b ∷ bs) k
  each zero inside = let here : at + 0 ≡ at = omega arith in ap (slice_index page) here ∙ byte
  each (suc k) inside = let there : at + suc k ≡ suc at + k = omega arith in ap (slice_index page) there ∙ rest.each k (omega arith)

-- the number in some bytes has these bytes
pub holds-little_from : (at n : ℕ) (page : List ℕ) → ((k : ℕ) → slice_index page k < 256) → PageHolds page at (little_bytes n (little_from at n page))
holds-little_from at zero page bytes = record { each = λ k inside. absurd (omega arith) }
holds-little_from at (suc n) page bytes =
    let byte = bytes at in
    let above = little_from (suc at) n page in
    let x = slice_index page at + 256 * above in
    let lowest : x % 256 ≡ slice_index page at = omega (arith, byte) in
    let left : x / 256 ≡ above = omega (arith, byte) in
    let rest = holds-little_from (suc at) n page bytes in
    let more : bytes_low_first 1 n x ≡ little_bytes n above = low_first-next 0 n x ∙ ap (little_bytes n) left in
    holds-cons at page (x % 256) (bytes_low_first 1 n x) (sym lowest) (rw more rest)
