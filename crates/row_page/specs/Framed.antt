-- Rows as bytes, one behind the other, each behind its length.
use Rattle.std.specs.Prelude.{ℕ, List, [], ◌∷◌, ◌++◌, length}
use Rattle.byteorder.specs.Endian.{little_bytes}

-- bytes behind their length, which takes two bytes, the lowest first
abbrev pub framed : List ℕ → List ℕ
framed bytes = little_bytes 2 (length bytes) ++ bytes

-- the bytes of rows of which each has an encoding
abbrev pub rows_bytes : {A : Type 0} → (A → List ℕ) → List A → List ℕ
rows_bytes encoded [] = []
rows_bytes encoded (row ∷ rows) = framed (encoded row) ++ rows_bytes encoded rows
