-- Texts between marks, where two marks are one. The mark is 39.
use Rattle.std.specs.Prelude.{◌≡◌, ℕ, ◌+◌, ◌-◌, ◌<◌, Bool, true, false, ◌&&◌, ◌==◌, if◌then◌else◌, List, [], ◌∷◌, take, drop, slice_index, Option, Some, None, option_map}

-- so many bytes more
abbrev pub past : ℕ → Option ℕ → Option ℕ
past n length = option_map (λ m. n + m) length

-- How many bytes stand behind a text's first mark, up to and with its last. The flag says that a mark has come which is the last
-- unless another follows right behind it.
abbrev pub text_length : Bool → List ℕ → Option ℕ
text_length false [] = None
text_length true [] = Some 0
text_length false (b ∷ rest) = past 1 (text_length (b == 39) rest)
text_length true (b ∷ rest) = if b == 39 then past 1 (text_length false rest) else Some 0

-- these bytes with one mark for two: the flag says that a mark has come whose second is left out
abbrev pub undoubled : Bool → List ℕ → List ℕ
undoubled _ [] = []
undoubled marked (b ∷ rest) = if marked && b == 39 then undoubled false rest else b ∷ undoubled (b == 39) rest

-- the bytes between the marks of the text at this place with so many bytes
abbrev pub between_marks : List ℕ → ℕ → ℕ → List ℕ
between_marks bytes at length = take (length - 2) (drop at bytes)

-- what a text at this place with so many bytes says
abbrev pub text_content : List ℕ → ℕ → ℕ → List ℕ
text_content bytes at length = undoubled false (between_marks bytes at length)

-- a text with so many bytes stands at this place
pub record IsTextAt (bytes : List ℕ) (at length : ℕ) : Type 0 where
  pub counted : 0 < at
  pub begins : slice_index bytes (at - 1) ≡ 39
  pub ends : option_map (λ m. 1 + m) (text_length false (drop at bytes)) ≡ Some length
