-- What std's `parse` makes of a number's text.
use Rattle.std.proofs.Common.{◌≡◌, ℕ, ◌^◌, ◌<◌, ℤ, pos, neg_ℤ, Bool, true, false, ◌&&◌, List, [], ◌∷◌, length, drop, get_or, Some, None, Result, Ok, Err, ap, refl, arith, rules, cond, nat_le, nat_lt}
use Rattle.std.proofs.lemmas.Bool.{eqb-true, ltb-true, leb-true, le-leb, lt-ltb}
use Rattle.std.proofs.lemmas.Fmt.{IsAscii-from_digits}
use Rattle.std.proofs.lemmas.Str.{IsUtf8-from_ascii}
use Rattle.std.proofs.lemmas.Str.Ascii.{IsAscii-nil, IsAscii-cons}
use Rattle.std.specs.Str.{IsAscii, IsUtf8}
use Rattle.std.proofs.lemmas.Str.Parse.{IsNumeralModel, numerals_by_value, parse_digits, parse_signed_digits, parse_signed_minus}
use Rattle.std.specs.Char.{is_ascii_digit}
use Rattle.std.specs.Int.{w64}
use Rattle.std.specs.List.{list_all}
use Rattle.std.specs.Result.{result_ok, OkIff}
use Rattle.std.specs.Str.Parse.{ParsesSigned, ParsesUnsigned, digits_value, starts_with_minus}
use Rattle.qsr_value.specs.Number.{count_of, is_digits, number_of, without_minus, positive_of, negative_of}
use Rattle.qsr_value.specs.declared.number.TheConstants.{MAX_DIGITS, MAX_SIGNED_DIGITS}

own : IsNumeralModel (λ ds. list_all is_ascii_digit ds ≡ true) (digits_value 10)
own = numerals_by_value _ (search rules)

-- an error's side: the test fails where the fact does
pub none_if_not : {V : Type 0} (t : Bool) (v : V) → (t ≡ true → ⊥) → None ≡ cond t (Some v) None
none_if_not true v h = absurd (h refl)
none_if_not false v h = refl

-- a result that is Ok exactly where a test passes
ok_by_test : {V E : Type 0} (Q : Type 0) (r : Result V E) (t : Bool) (v : V) → OkIff r Q v → (Q → t ≡ true) → (t ≡ true → Q) → result_ok r ≡ cond t (Some v) None
ok_by_test Q (Ok x) t v h to from = rw (to h.0) (ap Some h.1)
ok_by_test Q (Err e) t v h to from = none_if_not t v (λ passes. h (from passes))

and_left : (a b : Bool) → (a && b) ≡ true → a ≡ true
and_left true b h = refl
and_left false b h = cc

pub and_right : (a b : Bool) → (a && b) ≡ true → b ≡ true
and_right true b h = h
and_right false b h = cc

some_digits : (most : ℕ) (ds : List ℕ) → is_digits most ds ≡ true → 0 < length ds
some_digits most ds h = ltb-true 0 (length ds) (and_left (nat_lt 0 (length ds)) _ (and_left _ (list_all is_ascii_digit ds) h))

all_digits : (most : ℕ) (ds : List ℕ) → is_digits most ds ≡ true → list_all is_ascii_digit ds ≡ true
all_digits most ds h = and_right _ (list_all is_ascii_digit ds) h

-- of digits only their value is left to test
parsed_plain : {E : Type 0} (text : List ℕ) (r : Result ℤ E) → is_digits MAX_SIGNED_DIGITS text ≡ true → ParsesSigned w64 10 text r → result_ok r ≡ positive_of text
parsed_plain text r digits h =
    let value = digits_value 10 text in
    rw digits (ok_by_test _ r (nat_lt value (2 ^ 63)) (pos value) (parse_signed_digits own w64 text r h (all_digits MAX_SIGNED_DIGITS text digits))
    (λ q. lt-ltb value (2 ^ 63) q.1) (λ t. (some_digits MAX_SIGNED_DIGITS text digits, ltb-true value (2 ^ 63) t)))

parsed_minus : {E : Type 0} (text : List ℕ) (r : Result ℤ E) → get_or text 0 0 ≡ 45 → is_digits MAX_SIGNED_DIGITS (drop 1 text) ≡ true → ParsesSigned w64 10 text r → result_ok r ≡ negative_of (drop 1 text)
parsed_minus text r minus digits h =
    let value = digits_value 10 (drop 1 text) in
    rw digits (ok_by_test _ r (nat_le value (2 ^ 63)) (neg_ℤ (pos value)) (parse_signed_minus own w64 text r h minus)
    (λ q. le-leb value (2 ^ 63) q.2) (λ t. (all_digits MAX_SIGNED_DIGITS (drop 1 text) digits, some_digits MAX_SIGNED_DIGITS (drop 1 text) digits, leb-true value (2 ^ 63) t)))

parsed_by : {E : Type 0} (text : List ℕ) (r : Result ℤ E) (minus : Bool) → starts_with_minus text ≡ minus
    → is_digits MAX_SIGNED_DIGITS (cond minus (drop 1 text) text) ≡ true → ParsesSigned w64 10 text r → result_ok r ≡ cond minus (negative_of (cond minus (drop 1 text) text)) (positive_of text)
parsed_by text r true is digits h = parsed_minus text r (eqb-true (get_or text 0 0) 45 is) digits h
parsed_by text r false is digits h = parsed_plain text r digits h

-- std's answer is the number
pub parsed : {E : Type 0} (text : List ℕ) (r : Result ℤ E) → is_digits MAX_SIGNED_DIGITS (without_minus text) ≡ true → ParsesSigned w64 10 text r → result_ok r ≡ number_of text
parsed text r digits h = parsed_by text r (starts_with_minus text) refl digits h

ascii_by : (text : List ℕ) (minus : Bool) → starts_with_minus text ≡ minus → is_digits MAX_SIGNED_DIGITS (cond minus (drop 1 text) text) ≡ true → IsAscii text
ascii_by [] minus is digits = IsAscii-nil
ascii_by (byte ∷ text) true is digits = IsAscii-cons byte text (let same = eqb-true byte 45 is in omega arith) (IsAscii-from_digits text (own.to text (all_digits MAX_SIGNED_DIGITS text digits)))
ascii_by (byte ∷ text) false is digits = IsAscii-from_digits (byte ∷ text) (own.to (byte ∷ text) (all_digits MAX_SIGNED_DIGITS (byte ∷ text) digits))

-- a number is text
pub IsUtf8-number : (text : List ℕ) → is_digits MAX_SIGNED_DIGITS (without_minus text) ≡ true → IsUtf8 text
IsUtf8-number text digits = IsUtf8-from_ascii text (ascii_by text (starts_with_minus text) refl digits)

-- the same of a number without a sign
pub parsed_count : {E : Type 0} (text : List ℕ) (r : Result ℕ E) → is_digits MAX_DIGITS text ≡ true → ParsesUnsigned 64 10 text r → result_ok r ≡ count_of text
parsed_count text r digits h =
    let value = digits_value 10 text in
    rw digits (ok_by_test _ r (nat_lt value (2 ^ 64)) value (parse_digits own 64 text r h (all_digits MAX_DIGITS text digits))
    (λ q. lt-ltb value (2 ^ 64) q.1) (λ t. (some_digits MAX_DIGITS text digits, ltb-true value (2 ^ 64) t)))

pub IsUtf8-digits : (text : List ℕ) → is_digits MAX_DIGITS text ≡ true → IsUtf8 text
IsUtf8-digits text digits = IsUtf8-from_ascii text (IsAscii-from_digits text (own.to text (all_digits MAX_DIGITS text digits)))
