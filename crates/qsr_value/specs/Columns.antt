-- The columns of a table, and how many bytes a row has at most.
use Rattle.std.specs.Prelude.{ℕ, ◌+◌, List, [], ◌∷◌}
use Rattle.qsr_value.specs.declared.kind.ColKind.{ColKind}
use Rattle.qsr_value.specs.declared.kind.ColKind.TheVariants.{Int, Wide, Text}
use Rattle.qsr_value.specs.declared.schema.Column.{Column}

-- how many bytes a value of this kind has at most
abbrev pub width_of_kind : ColKind → ℕ
width_of_kind Int = 8
width_of_kind Wide = 16
width_of_kind (Text max) = 2 + max

-- how many bytes a row of these columns has at most
abbrev pub width_of : List Column → ℕ
width_of [] = 0
width_of (c ∷ cs) = width_of_kind c.kind + width_of cs
