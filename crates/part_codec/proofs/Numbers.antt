-- Numbers in some bytes, the lowest first, and texts: what is read is what was put, and the other way round.
use Rattle.std.proofs.Common.{◌≡◌, ℕ, zero, suc, ◌+◌, ◌^◌, ◌<◌, ◌≤◌, false, cond, ltb, ℤ, List, ◌∷◌, ◌++◌, length, take, drop, get_or, Result, Ok, Err, refl, sym, ap, subst, ◌∙◌, arith, length-append}
use Rattle.std.proofs.lemmas.Bool.{le-ltb, ltb-false}
use Rattle.std.proofs.lemmas.Int.{of_z-to_z, to_z-of_z}
use Rattle.std.proofs.lemmas.List.{drop_at, length-take-le, take-append-drop, take_at}
use Rattle.std.proofs.lemmas.Str.{IsUtf8-from_is_utf8, is_utf8-from_IsUtf8}
use Rattle.std.specs.Int.{Width, w8, w16, w32, w64, w128, byte_at as byte_of_number, bytes_low_first, cast_signed, cast_unsigned}
use Rattle.std.specs.Prelude.{FitsSigned}
use Rattle.std.specs.Str.{IsUtf8, is_utf8}
use Rattle.byteorder.specs.Endian.{little_bytes, little_number}
use Rattle.byteorder.specs.Numbers.{length-bytes_low_first, little_from-lt, little_number-reads_back}
use Rattle.qsr_value.proofs.Numbers.{AreBytes, little_bytes-read}
use Rattle.part_codec.specs.Puts.{short_text_bytes, signed_bytes}
use Rattle.part_codec.specs.Reading.{within_limits, unsigned_at, short_text_at, signed_at, text_at, width_bytes}
use Rattle.part_codec.proofs.Parts.{else_ok, limited_again, limited_within, then_ok}
use Rattle.part_codec.proofs.Readers.{AreBytes-drop, IsReader, Takes, byte_reads, chained_reads, mapped_reads}
use Rattle.part_codec.proofs.Repeats.{ok, ok_is}
use mir.Val.{bits}
use mir.ValLaws.{of_z_fits, to_z-Fits}

-- the bytes of a number that was read, and what follows them
number_parts : (size : ℕ) (bytes : List ℕ) → size ≤ length bytes → AreBytes bytes → bytes ≡ little_bytes size (little_number size bytes) ++ drop size bytes
number_parts size bytes room are = sym (take-append-drop size bytes) ∙ ap (λ t. t ++ drop size bytes) (sym (little_bytes-read size bytes room are))

-- the bytes of a number are bytes
byte_is : (i x : ℕ) → byte_of_number i x < 256
byte_is zero x = omega arith
byte_is (suc i) x = omega arith

bytes_are : (j n x i : ℕ) → get_or (bytes_low_first j n x) i 0 < 256
bytes_are j zero x i = omega arith
bytes_are j (suc n) x zero = byte_is j x
bytes_are j (suc n) x (suc i) = bytes_are (suc j) n x i

pub little_are : (size number : ℕ) → AreBytes (little_bytes size number)
little_are size number = record { each = bytes_are 0 size number }

-- a number within limits
number_takes : (size least most : ℕ) (bytes : List ℕ) (x : ℕ × List ℕ) → AreBytes bytes → unsigned_at size least most bytes ≡ Ok x
    → ((least ≤ x.0) × (x.0 ≤ most)) × Takes bytes (little_bytes size x.0) x.1
unfolding unsigned_at
number_takes size least most bytes x are e =
    let number = little_number size bytes in
    let test = else_ok (ltb (length bytes) size) (length bytes) (within_limits least most number (length bytes) (drop size bytes)) x e in
    let room = ltb-false (length bytes) size test.0 in
    let within = limited_within least most number (length bytes) (drop size bytes) x test.1 in
    subst (λ (y : ℕ × List ℕ). ((least ≤ y.0) × (y.0 ≤ most)) × Takes bytes (little_bytes size y.0) y.1) within.0
    ((within.1, within.2), record { parts = number_parts size bytes room are; rest_are = AreBytes-drop size bytes are })

number_again : (size least most n : ℕ) (rest : List ℕ) → n < 256 ^ size → least ≤ n → n ≤ most → unsigned_at size least most (little_bytes size n ++ rest) ≡ Ok (n, rest)
unfolding unsigned_at
number_again size least most n rest fits low high =
    let bytes : List ℕ = little_bytes size n ++ rest in
    let left = length bytes in
    let long = length-bytes_low_first 0 size n in
    let room : ltb (length bytes) size ≡ false = le-ltb (length bytes) size (omega (arith, long, length-append (little_bytes size n) rest)) in
    let number : little_number size bytes ≡ n = little_number-reads_back size n rest fits in
    let behind : drop size bytes ≡ rest = drop_at (little_bytes size n) rest size long in
    ap (λ b. cond b (Err left) (within_limits least most (little_number size bytes) left (drop size bytes))) room
    ∙ ap (λ m. within_limits least most m left (drop size bytes)) number ∙ ap (within_limits least most n left) behind ∙ limited_again least most n left rest low high

pub number_reads : (size least most : ℕ) → most < 256 ^ size → IsReader (unsigned_at size least most) (little_bytes size) (λ n. (least ≤ n) × (n ≤ most))
number_reads size least most fits = record {
  takes = number_takes size least most;
  again = λ n rest is. let high = is.1 in number_again size least most n rest (omega (arith, high, fits)) is.0 high;
}

-- a number with a sign
width_powers : (width : Width) → 256 ^ width_bytes width ≡ 2 ^ bits width
width_powers w8 = refl
width_powers w16 = refl
width_powers w32 = refl
width_powers w64 = refl
width_powers w128 = refl

signed_takes : (width : Width) (bytes : List ℕ) (x : ℤ × List ℕ) → AreBytes bytes → signed_at width bytes ≡ Ok x → FitsSigned width x.0 × Takes bytes (signed_bytes width x.0) x.1
unfolding signed_at
signed_takes width bytes x are e =
    let size = width_bytes width in
    let number = little_number size bytes in
    let signed = cast_signed width number in
    let test = else_ok (ltb (length bytes) size) (length bytes) (ok (signed, drop size bytes)) x e in
    let room = ltb-false (length bytes) size test.0 in
    let bound : number < 2 ^ bits width = subst (λ m. number < m) (width_powers width) (little_from-lt 0 size bytes are.each) in
    let parts : bytes ≡ signed_bytes width signed ++ drop size bytes =
    number_parts size bytes room are ∙ ap (λ n. little_bytes size n ++ drop size bytes) (sym (of_z-to_z width number bound)) in
    subst (λ (y : ℤ × List ℕ). FitsSigned width y.0 × Takes bytes (signed_bytes width y.0) y.1) (ok_is (signed, drop size bytes) x test.1)
    (to_z-Fits width number (record { fits = bound }), record { parts = parts; rest_are = AreBytes-drop size bytes are })

signed_again : (width : Width) (signed : ℤ) (rest : List ℕ) → FitsSigned width signed → signed_at width (signed_bytes width signed ++ rest) ≡ Ok (signed, rest)
unfolding signed_at
signed_again width signed rest is =
    let size = width_bytes width in
    let number = cast_unsigned width signed in
    let bytes : List ℕ = little_bytes size number ++ rest in
    let left = length bytes in
    let long = length-bytes_low_first 0 size number in
    let fits : number < 256 ^ size = subst (λ m. number < m) (sym (width_powers width)) (of_z_fits width signed is).fits in
    let room : ltb (length bytes) size ≡ false = le-ltb (length bytes) size (omega (arith, long, length-append (little_bytes size number) rest)) in
    let read : little_number size bytes ≡ number = little_number-reads_back size number rest fits in
    let behind : drop size bytes ≡ rest = drop_at (little_bytes size number) rest size long in
    ap (λ b. cond b (Err left) (ok (cast_signed width (little_number size bytes), drop size bytes))) room
    ∙ ap (λ n. ok (cast_signed width n, drop size bytes)) read ∙ ap (λ t. ok (cast_signed width number, t)) behind ∙ ap (λ z. ok (z, rest)) (to_z-of_z width signed is)

pub signed_reads : (width : Width) → IsReader (signed_at width) (signed_bytes width) (FitsSigned width)
signed_reads width = record { takes = signed_takes width; again = signed_again width }

-- a text of so many bytes
text_takes : (size : ℕ) (bytes : List ℕ) (x : List ℕ × List ℕ) → AreBytes bytes → text_at size bytes ≡ Ok x → ((length x.0 ≡ size) × IsUtf8 x.0) × Takes bytes x.0 x.1
unfolding text_at
text_takes size bytes x are e =
    let left = length bytes in
    let test = else_ok (ltb (length bytes) size) left (cond (is_utf8 (take size bytes)) (ok (take size bytes, drop size bytes)) (Err left)) x e in
    let room = ltb-false (length bytes) size test.0 in
    let text = then_ok (is_utf8 (take size bytes)) left (take size bytes, drop size bytes) x test.1 in
    subst (λ (y : List ℕ × List ℕ). ((length y.0 ≡ size) × IsUtf8 y.0) × Takes bytes y.0 y.1) text.1
    ((length-take-le size bytes room, IsUtf8-from_is_utf8 (take size bytes) text.0), record { parts = sym (take-append-drop size bytes); rest_are = AreBytes-drop size bytes are })

text_again : (size : ℕ) (text rest : List ℕ) → length text ≡ size → IsUtf8 text → text_at size (text ++ rest) ≡ Ok (text, rest)
unfolding text_at
text_again size text rest long utf8 =
    let left = length (text ++ rest) in
    let room : ltb (length (text ++ rest)) size ≡ false = le-ltb (length (text ++ rest)) size (omega (arith, long, length-append text rest)) in
    let front = take_at text rest size long in
    let behind = drop_at text rest size long in
    ap (λ b. cond b (Err left) (cond (is_utf8 (take size (text ++ rest))) (ok (take size (text ++ rest), drop size (text ++ rest))) (Err left))) room
    ∙ ap (λ t. cond (is_utf8 t) (ok (t, drop size (text ++ rest))) (Err left)) front
    ∙ ap (λ b. cond b (ok (text, drop size (text ++ rest))) (Err left)) (is_utf8-from_IsUtf8 text utf8)
    ∙ ap (λ t. ok (text, t)) behind

pub text_reads : (size : ℕ) → IsReader (text_at size) (λ text. text) (λ text. (length text ≡ size) × IsUtf8 text)
text_reads size = record {
  takes = text_takes size;
  again = λ text rest is. text_again size text rest is.0 is.1;
}

-- a text behind its length
pub short_text_reads : (least most : ℕ) → IsReader (short_text_at least most) short_text_bytes (λ text. ((least ≤ length text) × (length text ≤ most)) × IsUtf8 text)
unfolding short_text_at
short_text_reads least most =
    mapped_reads (λ (p : ℕ × List ℕ). p.1) (λ text. (length text, text)) short_text_bytes (λ text. ((least ≤ length text) × (length text ≤ most)) × IsUtf8 text)
    (chained_reads (byte_reads least most) (λ size _. text_reads size))
    (λ p is. (((subst (λ n. least ≤ n) (sym is.1.0) is.0.0, subst (λ n. n ≤ most) (sym is.1.0) is.0.1), is.1.1), ap (λ n. n ∷ p.1) (sym is.1.0)))
    (λ text is. ((is.0, (refl, is.1)), refl, refl))
