-- An input as lines, each ended by an LF but for the last one, which may lack it.
use Rattle.std.specs.Prelude.{ℕ, ◌-◌, Bool, true, false, ◌==◌, nat_eq, List, [], ◌∷◌, length, take, codes, if◌then◌else◌}
use Rattle.std.specs.List.{ends_with}

-- a line without the one carriage return that may stand at its end
abbrev pub without_cr : List ℕ → List ℕ
without_cr text = if ends_with nat_eq text (codes "\r") then take (length text - 1) text else text

pub record InputLine : Type 0 where
  -- without the LF
  pub text : List ℕ
  -- an LF ends it
  pub ended : Bool

-- a line that an LF ends, and one that the input's end does
abbrev pub whole : List ℕ → InputLine
whole text = record { text = text; ended = true }

abbrev pub unended : List ℕ → InputLine
unended text = record { text = text; ended = false }

-- the text of a line: where an LF ends it, one CR before that isn't of it
abbrev pub text_of_line : InputLine → List ℕ
text_of_line line = if line.ended then without_cr line.text else line.text

-- the lines of an input that has one more byte in front, which is no LF
abbrev pub longer : ℕ → List InputLine → List InputLine
longer byte [] = unended (byte ∷ []) ∷ []
longer byte (line ∷ lines) = record { text = byte ∷ line.text; ended = line.ended } ∷ lines

abbrev pub lines_of : List ℕ → List InputLine
lines_of [] = []
lines_of (byte ∷ bytes) = if byte == 10 then whole [] ∷ lines_of bytes else longer byte (lines_of bytes)
