-- What is left of a line where the first of its fields were read.
use Rattle.std.specs.Prelude.{ℕ, List, [], ◌∷◌, drop, Option, Some, None}
use Rattle.table_file.specs.Fields.{fields_of}

-- the fields that follow one, of what stands behind its bytes: its tab and a field at least, or nothing
abbrev pub fields_behind : List ℕ → List (List ℕ)
fields_behind [] = []
fields_behind (tab ∷ bytes) = fields_of bytes

-- the fields of a line from the one that begins at this byte on, or none
abbrev pub fields_from : List ℕ → Option ℕ → List (List ℕ)
fields_from text None = []
fields_from text (Some at) = fields_of (drop at text)
