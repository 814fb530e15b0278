-- A format of many fields, stated as the list of its parts.
use Rattle.std.specs.Prelude.{◌≡◌, ◌⊎◌, ℕ, ◌+◌, ◌^◌, ◌<◌, ◌≤◌, ℤ, List, [], ◌∷◌, ◌++◌, length, FitsSigned, Ok, ⊤}
use Rattle.std.specs.Int.{Width}
use Rattle.std.specs.Str.{IsUtf8}
use Rattle.byteorder.specs.Endian.{little_bytes}
use Rattle.part_codec.specs.Puts.{short_text_bytes, signed_bytes}
use Rattle.part_codec.specs.Reading.{Reader, byte_at, unsigned_at, paired, short_text_at, signed_at}

-- What a part is: a byte within limits, a number of so many bytes within limits, a number of a width with a sign, or a text behind
-- its length in one byte, which is within limits.
pub data Part : Type 0 where
  byte_part : ℕ → ℕ → Part
  number_part : ℕ → ℕ → ℕ → Part
  signed_part : Width → Part
  text_part : ℕ → ℕ → Part

-- the value of a part · those of all parts of a format
abbrev pub PartValue : Part → Type 0
PartValue (byte_part least most) = ℕ
PartValue (number_part size least most) = ℕ
PartValue (signed_part width) = ℤ
PartValue (text_part least most) = List ℕ

abbrev pub FormatValue : List Part → Type 0
FormatValue [] = ⊤
FormatValue (part ∷ parts) = PartValue part × FormatValue parts

-- a part of whose numbers each fits its bytes
abbrev pub FitsSize : Part → Type 0
FitsSize (byte_part least most) = ⊤
FitsSize (number_part size least most) = most < 256 ^ size
FitsSize (signed_part width) = ⊤
FitsSize (text_part least most) = ⊤

abbrev pub AllFitSizes : List Part → Type 0
AllFitSizes [] = ⊤
AllFitSizes (part ∷ parts) = FitsSize part × AllFitSizes parts

-- what the value of a part may be · what those of all parts may be
abbrev pub IsPartValue : (part : Part) → PartValue part → Type 0
IsPartValue (byte_part least most) = λ byte. (least ≤ byte) × (byte ≤ most)
IsPartValue (number_part size least most) = λ number. (least ≤ number) × (number ≤ most)
IsPartValue (signed_part width) = λ number. FitsSigned width number
IsPartValue (text_part least most) = λ text. ((least ≤ length text) × (length text ≤ most)) × IsUtf8 text

abbrev pub IsFormatValue : (parts : List Part) → FormatValue parts → Type 0
IsFormatValue [] = λ value. ⊤
IsFormatValue (part ∷ parts) = λ value. IsPartValue part value.0 × IsFormatValue parts value.1

-- the bytes of the value of a part · of all parts, one behind the other
abbrev pub part_bytes : (part : Part) → PartValue part → List ℕ
part_bytes (byte_part least most) = λ byte. byte ∷ []
part_bytes (number_part size least most) = λ number. little_bytes size number
part_bytes (signed_part width) = λ number. signed_bytes width number
part_bytes (text_part least most) = λ text. short_text_bytes text

abbrev pub format_bytes : (parts : List Part) → FormatValue parts → List ℕ
format_bytes [] = λ value. []
format_bytes (part ∷ parts) = λ value. part_bytes part value.0 ++ format_bytes parts value.1

-- how a part is read · how all parts are, one behind the other
abbrev pub part_at : (part : Part) → Reader (PartValue part)
part_at (byte_part least most) = byte_at least most
part_at (number_part size least most) = unsigned_at size least most
part_at (signed_part width) = signed_at width
part_at (text_part least most) = short_text_at least most

abbrev pub format_at : (parts : List Part) → Reader (FormatValue parts)
format_at [] = λ bytes. Ok (tt, bytes)
format_at (part ∷ parts) = paired (part_at part) (format_at parts)

-- the value of a part stands at the front of bytes, and these behind it
pub record StandsBefore (part : Part) (value : PartValue part) (rest bytes : List ℕ) : Type 0 where
  pub may : IsPartValue part value
  pub stands : bytes ≡ part_bytes part value ++ rest

-- where a part is bad that isn't at the front of bytes: there, or, of a text, at the byte behind its length
abbrev pub IsBadPlace : Part → List ℕ → ℕ → Type 0
IsBadPlace (byte_part least most) bytes left = left ≡ length bytes
IsBadPlace (number_part size least most) bytes left = left ≡ length bytes
IsBadPlace (signed_part width) bytes left = left ≡ length bytes
IsBadPlace (text_part least most) bytes left = (left ≡ length bytes) ⊎ (left + 1 ≡ length bytes)

-- no value of a part stands at the front of bytes, and so many are left where it is bad
pub record IsBadPart (part : Part) (bytes : List ℕ) (left : ℕ) : Type 0 where
  pub none : (value : PartValue part) (rest : List ℕ) → StandsBefore part value rest bytes → ⊥
  pub place : IsBadPlace part bytes left

-- The first bad part: those before it stand there, one behind the other, and it doesn't.
abbrev pub IsFormatBadAt : List Part → List ℕ → ℕ → Type 0
IsFormatBadAt [] bytes left = ⊥
IsFormatBadAt (part ∷ parts) bytes left =
    IsBadPart part bytes left ⊎ ((value : PartValue part) × (rest : List ℕ) × StandsBefore part value rest bytes × IsFormatBadAt parts rest left)
