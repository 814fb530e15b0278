-- Whole numbers of 64 bits as they are written: an optional minus and 1 to 19 decimal digits, or 1 to 20 digits without a sign.
use Rattle.std.specs.Prelude.{ℕ, ◌^◌, ℤ, pos, neg_ℤ, Bool, ◌&&◌, nat_lt, nat_le, List, length, drop, Option, Some, None, if◌then◌else◌}
use Rattle.std.specs.Char.{is_ascii_digit}
use Rattle.std.specs.List.{list_all}
use Rattle.std.specs.Str.Parse.{digits_value, starts_with_minus}
use Rattle.qsr_value.specs.declared.number.TheConstants.{MAX_DIGITS, MAX_SIGNED_DIGITS}

abbrev pub without_minus : List ℕ → List ℕ
without_minus text = if starts_with_minus text then drop 1 text else text

-- one digit or more, and at most so many
abbrev pub is_digits : ℕ → List ℕ → Bool
is_digits most digits = nat_lt 0 (length digits) && nat_le (length digits) most && list_all is_ascii_digit digits

-- digits with no sign before them
abbrev pub positive_of : List ℕ → Option ℤ
positive_of digits = if is_digits MAX_SIGNED_DIGITS digits && nat_lt (digits_value 10 digits) (2 ^ 63) then Some (pos (digits_value 10 digits)) else None

-- digits behind a minus
abbrev pub negative_of : List ℕ → Option ℤ
negative_of digits = if is_digits MAX_SIGNED_DIGITS digits && nat_le (digits_value 10 digits) (2 ^ 63) then Some (neg_ℤ (pos (digits_value 10 digits))) else None

abbrev pub number_of : List ℕ → Option ℤ
number_of text = if starts_with_minus text then negative_of (without_minus text) else positive_of text

-- a number without a sign
abbrev pub count_of : List ℕ → Option ℕ
count_of digits = if is_digits MAX_DIGITS digits && nat_lt (digits_value 10 digits) (2 ^ 64) then Some (digits_value 10 digits) else None
