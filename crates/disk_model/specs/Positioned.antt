-- What is read and written of a file by offsets.
use Rattle.std.specs.Prelude.{◌≡◌, ℕ, ◌≤◌}
use Rattle.disk_model.specs.Image.{Image}

-- zeros from this offset on
abbrev pub IsZeroFrom : Image → ℕ → Type 0
IsZeroFrom c at = (i : ℕ) → at ≤ i → c i ≡ 0
