-- Bytes that are put into a buffer one part after the other, from a place on.
use Rattle.std.specs.Prelude.{◌≡◌, ℕ, ◌+◌, ℤ, List, ◌∷◌, ◌++◌, length, take}
use Rattle.std.specs.Int.{Width, cast_unsigned}
use Rattle.byteorder.specs.Endian.{little_bytes}
use Rattle.part_codec.specs.Reading.{width_bytes}

-- These bytes were put into a buffer from a place on, and what is in front of them is as it was.
pub record Puts (old : List ℕ) (at : ℕ) (bytes new : List ℕ) (end : ℕ) : Type 0 where
  pub end_is : end ≡ at + length bytes
  pub front : take end new ≡ take at old ++ bytes
  pub long : length new ≡ length old

-- a number with a sign: in two's complement, the lowest byte first
abbrev pub signed_bytes : Width → ℤ → List ℕ
signed_bytes width number = little_bytes (width_bytes width) (cast_unsigned width number)

-- a text behind its length in one byte
abbrev pub short_text_bytes : List ℕ → List ℕ
short_text_bytes text = length text ∷ text
