-- The bytes of a disk, by their offsets.
use Rattle.std.specs.Prelude.{◌≡◌, ℕ, ◌+◌, ◌<◌, ◌≤◌, List, length, slice_index}

abbrev pub Image : Type 0
Image = ℕ → ℕ

-- these bytes stand at this offset
abbrev pub Holds : Image → ℕ → List ℕ → Type 0
Holds c at bytes = (i : ℕ) → i < length bytes → c (at + i) ≡ slice_index bytes i

-- the same outside n bytes at this offset: the crash rule of a write, and what a write does to what is seen
pub record SameOutside (at n : ℕ) (old new : Image) : Type 0 where
  pub below : (i : ℕ) → i < at → new i ≡ old i
  pub above : (i : ℕ) → at + n ≤ i → new i ≡ old i
