-- Which values a column may have, and which rows a table.
use Rattle.std.specs.Prelude.{ℕ, ◌<◌, ◌≤◌, ◌^◌, List, [], ◌∷◌, length, ⊤, FitsSigned}
use Rattle.std.specs.Int.{w64, w128}
use Rattle.std.specs.Str.{IsUtf8}
use Rattle.qsr_value.specs.declared.kind.ColKind.{ColKind}
use Rattle.qsr_value.specs.declared.kind.ColKind.TheVariants as kinds
use Rattle.qsr_value.specs.declared.row.Value.{Value}
use Rattle.qsr_value.specs.declared.row.Value.TheVariants.{Int, Text}
use Rattle.qsr_value.specs.declared.schema.Column.{Column}

-- a text that a column of at most so many bytes may have; its length is a number of 16 bits, as each such column's is
pub record FitsText (max : ℕ) (text : List ℕ) : Type 0 where
  pub within : length text ≤ max
  pub short : length text < 2 ^ 16

-- a value is one of a column of this kind; numbers of clauses have no bound of their own, so both widths are said
abbrev pub IsOfKind : ColKind → Value → Type 0
IsOfKind kinds.Int (Int n) = FitsSigned w64 n
IsOfKind kinds.Int (Text t) = ⊥
IsOfKind kinds.Wide (Int n) = FitsSigned w128 n
IsOfKind kinds.Wide (Text t) = ⊥
IsOfKind (kinds.Text max) (Int n) = ⊥
IsOfKind (kinds.Text max) (Text t) = FitsText max t

-- as many values as columns, each of its column's kind
abbrev pub Fits : List Column → List Value → Type 0
Fits [] [] = ⊤
Fits [] (v ∷ vs) = ⊥
Fits (c ∷ cs) [] = ⊥
Fits (c ∷ cs) (v ∷ vs) = IsOfKind c.kind v × Fits cs vs

-- a text is UTF-8; this holds of each value that the program has, but not of every list of bytes
abbrev pub IsText : Value → Type 0
IsText (Int n) = ⊤
IsText (Text t) = IsUtf8 t

-- each text of a row is UTF-8
abbrev pub AreTexts : List Value → Type 0
AreTexts [] = ⊤
AreTexts (v ∷ vs) = IsText v × AreTexts vs
