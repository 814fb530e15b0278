-- What the bytes that are held tell of the next line.
use Rattle.std.specs.Prelude.{⊤, ◌≡◌, ◌≢◌, ℕ, ◌+◌, ◌<◌, ◌≤◌, List, [], ◌∷◌, ◌++◌, length, take, drop, All, Option, None, Some}
use Rattle.qsr_value.specs.declared.limits.TheConstants.{MAX_LINE}
use Rattle.input_lines.specs.declared.next_line.NextLine.{NextLine}
use Rattle.input_lines.specs.declared.next_line.NextLine.TheVariants.{Whole, TooLong, Unended, End}
use Rattle.input_lines.specs.Lines.{InputLine, whole, unended, lines_of}

-- part of a line: no LF, and no more bytes than a line may have
pub record IsPartial (held : List ℕ) : Type 0 where
  pub short : length held ≤ MAX_LINE
  pub open_ended : All (λ byte. byte ≢ 10) held

-- a line that is too long is the first of these
pub record BeginsTooLong (lines : List InputLine) : Type 0 where
  pub line : InputLine
  pub rest : List InputLine
  pub first : lines ≡ line ∷ rest
  pub long : MAX_LINE < length line.text

-- the line of so many bytes is the first of the unread input, and is held whole
pub record BeginsWhole (len : ℕ) (held unread : List ℕ) : Type 0 where
  pub within : len < length held
  pub short : len ≤ MAX_LINE
  pub first : lines_of unread ≡ whole (take len held) ∷ lines_of (drop (len + 1) unread)

-- the next line of the unread input, which begins with the bytes that are held
abbrev pub IsNext : NextLine → List ℕ → List ℕ → Type 0
IsNext (Whole len) held unread = BeginsWhole len held unread
IsNext TooLong held unread = BeginsTooLong (lines_of unread)
IsNext Unended held unread = lines_of unread ≡ unended held ∷ []
IsNext End held unread = unread ≡ []

-- a whole line is held with its LF, and one that the input's end does is as short as a line may be
abbrev pub IsHeld : NextLine → List ℕ → Type 0
IsHeld (Whole len) held = (len < length held) × (len ≤ MAX_LINE)
IsHeld TooLong held = ⊤
IsHeld Unended held = length held ≤ MAX_LINE
IsHeld End held = ⊤

-- the same, where the source tells the bytes that it has left
abbrev pub BeginsWholeTold : ℕ → List ℕ → Option (List ℕ) → Type 0
BeginsWholeTold len held None = ⊤
BeginsWholeTold len held (Some left) = BeginsWhole len held (held ++ left)

abbrev pub IsNextTold : NextLine → List ℕ → Option (List ℕ) → Type 0
IsNextTold next held None = ⊤
IsNextTold next held (Some left) = IsNext next held (held ++ left)
