-- The rows of numbers on the disk, under writes behind them.
use Rattle.std.proofs.Common.{◌≡◌, ◌⊎◌, ℕ, suc, ◌+◌, ◌*◌, ◌^◌, ◌<◌, ◌≤◌, ℤ, pos, List, [], ◌++◌, length, replicate, append-nil, refl, subst, sym, ap, ◌∙◌, arith, inl, inr}
use Rattle.std.specs.Int.{cast_signed, cast_unsigned, from_le_bytes, w64}
use Rattle.std.specs.List.{slice_index_or}
use Rattle.std.specs.Prelude.{FitsSigned, get_or}
use Rattle.std.proofs.lemmas.Int.{of_z-to_z, to_z-of_z}
use Rattle.std.proofs.lemmas.List.{ext_get_or}
use Rattle.std.proofs.Math.Facts.{Fits-lt-pow, Fits-of_z}
use Rattle.std.proofs.lemmas.Nat.{le_bytes_8}
use Rattle.byteorder.specs.Endian.{little_bytes, little_number}
use Rattle.byteorder.specs.Numbers.{little_from-lt, little_number-reads_back}
use borrow.Rule.Slice.PartMut.{put_mid}
use Rattle.byteorder.proofs.Bytes.{from_le_bytes-put_mid8}
use Rattle.disk_model.specs.Image.{Image, Holds, SameOutside}
use Rattle.disk_model.specs.View.{View, Stays}
use Rattle.row_script.specs.Answers.{Tells}
use Rattle.row_script.specs.declared.numbers.Numbers.{Numbers}
use Rattle.row_script.specs.Rows.{row_bytes, HasRows, WritesRows}
use Rattle.qsr_value.specs.Causes.{next_count}
use Rattle.row_script.specs.declared.turns.TheConstants.{ROW_BYTES}

pub length-row_bytes : (value : ℤ) → length (row_bytes value) ≡ 8
unfolding row_bytes
length-row_bytes value = refl

-- a write behind the rows leaves them
pub HasRows-kept : (rows : List ℤ) (n place : ℕ) (c d : Image) → n ≤ place → HasRows rows n c → SameOutside (ROW_BYTES * place) ROW_BYTES c d → HasRows rows n d
HasRows-kept rows n place c d below has same = record {
  each = λ k lt i within.
      let long = length-row_bytes (slice_index_or rows k (pos 0)) in
      same.below (ROW_BYTES * k + i) (omega (arith, long)) ∙ has.each k lt i within;
}

at_place : (rows : List ℤ) (n k : ℕ) (c : Image) → HasRows rows n c → Holds c (ROW_BYTES * n) (row_bytes (slice_index_or rows n (pos 0)))
    → (k < n) ⊎ (k ≡ n) → Holds c (ROW_BYTES * k) (row_bytes (slice_index_or rows k (pos 0)))
at_place rows n k c has row (inl lt) = has.each k lt
at_place rows n k c has row (inr is) = subst (λ (k : ℕ). Holds c (ROW_BYTES * k) (row_bytes (slice_index_or rows k (pos 0)))) (sym is) row

-- one row more
pub HasRows-more : (rows : List ℤ) (n : ℕ) (c : Image) → HasRows rows n c → Holds c (ROW_BYTES * n) (row_bytes (slice_index_or rows n (pos 0))) → HasRows rows (n + 1) c
HasRows-more rows n c has row = record { each = λ k lt. at_place rows n k c has row (grind arith) }

-- one write more
pub WritesRows-more : {before after old mid new : ℕ} → WritesRows before after old mid → new ≡ next_count mid → WritesRows before (after + 1) old new
WritesRows-more writes next = record {
  rows = suc writes.rows;
  more = let more = writes.more in omega (arith, more);
  each = next ∙ ap next_count writes.each;
}

-- the bytes of the number that 8 bytes are
pub row_bytes-read : (bytes : List ℕ) → length bytes ≡ 8 → ((i : ℕ) → get_or bytes i 0 < 256) → row_bytes (cast_signed w64 (little_number 8 bytes)) ≡ bytes
unfolding row_bytes
row_bytes-read bytes long small =
    let placed : put_mid 0 8 (replicate 8 0) bytes ≡ bytes = append-nil bytes in
    let same : from_le_bytes w64 bytes ≡ little_number 8 bytes = ap (from_le_bytes w64) (sym placed) ∙ from_le_bytes-put_mid8 bytes 8 (omega arith) long in
    let bound : little_number 8 bytes < 2 ^ 64 = little_from-lt 0 8 bytes small in
    ap (little_bytes 8) (of_z-to_z w64 (little_number 8 bytes) bound) ∙ le_bytes_8 bytes (little_number 8 bytes) long small (sym same)

-- a row is what its bytes say
row_bytes-reads_back : (value : ℤ) → FitsSigned w64 value → cast_signed w64 (little_number 8 (row_bytes value)) ≡ value
unfolding row_bytes
row_bytes-reads_back value fits =
    let bound : cast_unsigned w64 value < 256 ^ 8 = Fits-lt-pow (Fits-of_z fits) in
    let bytes : little_number 8 (row_bytes value ++ []) ≡ cast_unsigned w64 value = little_number-reads_back 8 (cast_unsigned w64 value) [] bound in
    ap (cast_signed w64) (ap (little_number 8) (sym (append-nil (row_bytes value))) ∙ bytes) ∙ to_z-of_z w64 value fits

-- one row stands at a place
pub one_row : (c : Image) (at : ℕ) (a b : ℤ) → FitsSigned w64 a → FitsSigned w64 b → Holds c at (row_bytes a) → Holds c at (row_bytes b) → a ≡ b
one_row c at a b a_fits b_fits first second =
    let long_a = length-row_bytes a in
    let long_b = length-row_bytes b in
    let same : row_bytes a ≡ row_bytes b =
    ext_get_or 0 (row_bytes a) (row_bytes b) (long_a ∙ sym long_b) (λ i inside. sym (first i inside) ∙ second i (omega (arith, inside, long_a, long_b))) in
    sym (row_bytes-reads_back a a_fits) ∙ ap (λ bytes. cast_signed w64 (little_number 8 bytes)) same ∙ row_bytes-reads_back b b_fits

-- what the disk tells of a row is the row
pub told_row : {old now : View Image} {numbers : Numbers} (place : ℕ) (value : ℤ) → Stays old now → place < numbers.acknowledged
    → FitsSigned w64 value → FitsSigned w64 (slice_index_or numbers.rows place (pos 0))
    → (now.honest → Holds now.seen (ROW_BYTES * place) (row_bytes value)) → Tells old numbers → value ≡ slice_index_or numbers.rows place (pos 0)
told_row {old = old} {now = now} {numbers = numbers} place value stays inside value_fits row_fits reads tells =
    let row = (tells.rows old.seen (old.seen_may_stay tells.honest)).each place inside in
    let read : Holds old.seen (ROW_BYTES * place) (row_bytes value) =
    subst (λ (seen : Image). Holds seen (ROW_BYTES * place) (row_bytes value)) stays.seen (reads (stays.time.honest.1 tells.honest)) in
    one_row old.seen (ROW_BYTES * place) value (slice_index_or numbers.rows place (pos 0)) value_fits row_fits read row
