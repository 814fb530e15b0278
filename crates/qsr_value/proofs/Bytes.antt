-- The bytes of numbers and of texts: how many they are, and that they tell the value.
use Rattle.std.proofs.Common.{◌≡◌, ℕ, ◌+◌, ◌^◌, ◌<◌, ℤ, List, ◌++◌, length, sym, ap, ◌∙◌, arith, length-append}
use Rattle.std.specs.Int.{cast_unsigned, w64, w128}
use Rattle.byteorder.specs.Endian.{little_bytes, little_number}
use Rattle.byteorder.specs.Numbers.{length-bytes_low_first, little_number-reads_back}
use Rattle.qsr_value.specs.Encoding.{int_bytes, wide_bytes, text_bytes}
use Rattle.qsr_value.proofs.Lists.{same_parts}

pub length-int_bytes : (n : ℤ) → length (int_bytes n) ≡ 8
unfolding int_bytes
length-int_bytes n = length-bytes_low_first 0 8 (cast_unsigned w64 n)

pub length-wide_bytes : (n : ℤ) → length (wide_bytes n) ≡ 16
unfolding wide_bytes
length-wide_bytes n = length-bytes_low_first 0 16 (cast_unsigned w128 n)

pub length-text_bytes : (t : List ℕ) → length (text_bytes t) ≡ 2 + length t
unfolding text_bytes
length-text_bytes t = omega (arith, length-append (little_bytes 2 (length t)) t, length-bytes_low_first 0 2 (length t))

-- bytes that begin with two numbers begin with one
pub same_number : (n x y : ℕ) (xs ys : List ℕ) → x < 256 ^ n → y < 256 ^ n → little_bytes n x ++ xs ≡ little_bytes n y ++ ys → (x ≡ y) × (xs ≡ ys)
same_number n x y xs ys x_fits y_fits same =
    let long : length (little_bytes n x) ≡ length (little_bytes n y) = length-bytes_low_first 0 n x ∙ sym (length-bytes_low_first 0 n y) in
    let number : x ≡ y = sym (little_number-reads_back n x xs x_fits) ∙ ap (little_number n) same ∙ little_number-reads_back n y ys y_fits in
    (number, (same_parts (little_bytes n x) (little_bytes n y) xs ys long same).1)

pub ruleset byte_counts = (length-int_bytes, length-wide_bytes, length-text_bytes)
