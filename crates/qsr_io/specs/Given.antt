-- What a sink was given by a run of writes that was cut off.
use Rattle.std.specs.Prelude.{ℕ, ◌<◌, List, length, take, Option}
use Rattle.std.specs.Io.KnownBytes.{Appends}

-- the first of these bytes, and not all
abbrev pub GivesFront : Option (List ℕ) → Option (List ℕ) → List ℕ → Type 0
GivesFront old new bytes = (n : ℕ) × (n < length bytes) × Appends old new (take n bytes)
