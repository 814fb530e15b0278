-- The bytes of a page, by their offsets.
use Rattle.std.specs.Prelude.{◌≡◌, ℕ, ◌+◌, ◌<◌, ◌≤◌, List, length, slice_index}

-- these bytes stand at this offset
pub record PageHolds (page : List ℕ) (at : ℕ) (bytes : List ℕ) : Type 0 where
  pub each : (k : ℕ) → k < length bytes → slice_index page (at + k) ≡ slice_index bytes k

-- the same outside n bytes at this offset
pub record PageSameOutside (at n : ℕ) (old new : List ℕ) : Type 0 where
  pub below : (k : ℕ) → k < at → slice_index new k ≡ slice_index old k
  pub above : (k : ℕ) → at + n ≤ k → slice_index new k ≡ slice_index old k
