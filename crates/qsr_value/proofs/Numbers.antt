-- Numbers in some bytes, the lowest first: their bytes are those that they were read from.
use Rattle.std.proofs.Common.{◌≡◌, ℕ, zero, suc, ◌^◌, ◌<◌, ◌≤◌, List, [], ◌∷◌, length, take, get_or, refl, sym, ap, ◌∙◌, append-nil, arith}
use Rattle.std.proofs.lemmas.List.{length-take-le}
use Rattle.std.specs.Int.{byte_at, bytes_low_first}
use Rattle.byteorder.specs.Endian.{little_bytes, little_number}
use Rattle.byteorder.specs.Numbers.{length-bytes_low_first, little_from-cons, little_from-lt, little_from-take, little_number-reads_back}

-- each item is a byte
pub record AreBytes (bytes : List ℕ) : Type 0 where
  pub each : (i : ℕ) → get_or bytes i 0 < 256

AreBytes-rest : (b : ℕ) (bytes : List ℕ) → AreBytes (b ∷ bytes) → AreBytes bytes
AreBytes-rest b bytes are = record { each = λ i. are.each (suc i) }

byte_at-lt : (i x : ℕ) → byte_at i x < 256
byte_at-lt zero x = omega arith
byte_at-lt (suc i) x = omega arith

byte_of : (j n x i : ℕ) → get_or (bytes_low_first j n x) i 0 < 256
byte_of j zero x i = omega arith
byte_of j (suc n) x zero = byte_at-lt j x
byte_of j (suc n) x (suc i) = byte_of (suc j) n x i

AreBytes-take : (n : ℕ) (bytes : List ℕ) → AreBytes bytes → AreBytes (take n bytes)
AreBytes-take n [] are = elim n as (λ m. AreBytes (take m [])) [ zero ↦ are | (suc m) ↦ are ]
AreBytes-take zero (b ∷ bytes) are = record { each = λ i. omega arith }
AreBytes-take (suc n) (b ∷ bytes) are =
    let rest = AreBytes-take n bytes (AreBytes-rest b bytes are) in
    record { each = λ i. elim i as (λ k. get_or (b ∷ take n bytes) k 0 < 256) [ zero ↦ are.each 0 | (suc k) ↦ rest.each k ] }

-- as many bytes with one number are the same
same_bytes : (n : ℕ) (xs ys : List ℕ) → length xs ≡ n → length ys ≡ n → AreBytes xs → AreBytes ys → little_number n xs ≡ little_number n ys → xs ≡ ys
same_bytes zero [] [] long_x long_y x_are y_are same = refl
same_bytes zero [] (y ∷ ys) long_x long_y x_are y_are same = absurd (omega arith)
same_bytes zero (x ∷ xs) ys long_x long_y x_are y_are same = absurd (omega arith)
same_bytes (suc n) [] ys long_x long_y x_are y_are same = absurd (omega arith)
same_bytes (suc n) (x ∷ xs) [] long_x long_y x_are y_are same = absurd (omega arith)
same_bytes (suc n) (x ∷ xs) (y ∷ ys) long_x long_y x_are y_are same =
    let x_byte = x_are.each 0 in
    let y_byte = y_are.each 0 in
    let x_rest = little_from-cons 0 n x xs in
    let y_rest = little_from-cons 0 n y ys in
    let heads : x ≡ y = omega (arith, same, x_byte, y_byte, x_rest, y_rest) in
    let tails : little_number n xs ≡ little_number n ys = omega (arith, same, x_byte, y_byte, x_rest, y_rest) in
    let rest = same_bytes n xs ys (omega arith) (omega arith) (AreBytes-rest x xs x_are) (AreBytes-rest y ys y_are) tails in
    cc

-- the bytes of the number that some bytes are
pub little_bytes-read : (n : ℕ) (bytes : List ℕ) → n ≤ length bytes → AreBytes bytes → little_bytes n (little_number n bytes) ≡ take n bytes
little_bytes-read n bytes room are =
    let number = little_number n bytes in
    let bound : number < 256 ^ n = little_from-lt 0 n bytes are.each in
    let back : little_number n (little_bytes n number) ≡ number =
    ap (little_number n) (sym (append-nil (little_bytes n number))) ∙ little_number-reads_back n number [] bound in
    same_bytes n (little_bytes n number) (take n bytes) (length-bytes_low_first 0 n number) (length-take-le n bytes room)
    (record { each = byte_of 0 n number }) (AreBytes-take n bytes are) (back ∙ sym (little_from-take 0 n n bytes (omega arith)))
