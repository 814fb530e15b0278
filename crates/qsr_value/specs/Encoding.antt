-- The bytes of a row, and where bytes are none.
use Rattle.std.specs.Prelude.{◌≡◌, ◌⊎◌, ℕ, ◌+◌, ◌<◌, ◌≤◌, ℤ, List, [], ◌∷◌, ◌++◌, length, take, drop}
use Rattle.std.specs.Int.{w64, w128, cast_unsigned}
use Rattle.std.specs.Str.{IsUtf8}
use Rattle.byteorder.specs.Endian.{little_bytes, little_number}
use Rattle.qsr_value.specs.declared.kind.ColKind.{ColKind}
use Rattle.qsr_value.specs.declared.kind.ColKind.TheVariants as kinds
use Rattle.qsr_value.specs.declared.row.Value.{Value}
use Rattle.qsr_value.specs.declared.row.Value.TheVariants.{Int, Text}
use Rattle.qsr_value.specs.declared.schema.Column.{Column}
use Rattle.qsr_value.specs.declared.decode.RowFault.{RowFault}
use Rattle.qsr_value.specs.declared.decode.RowFault.TheVariants.{BadRow, Memory}
use Rattle.qsr_value.specs.Values.{IsOfKind, Fits, IsText, AreTexts}

-- a number in 8 and in 16 bytes, in two's complement, the lowest byte first
unfoldable pub int_bytes : ℤ → List ℕ
int_bytes n = little_bytes 8 (cast_unsigned w64 n)

unfoldable pub wide_bytes : ℤ → List ℕ
wide_bytes n = little_bytes 16 (cast_unsigned w128 n)

-- a text: its length in 2 bytes, the lowest first, and its bytes
unfoldable pub text_bytes : List ℕ → List ℕ
text_bytes t = little_bytes 2 (length t) ++ t

-- the bytes of a value of a column of this kind; one of another kind has none
abbrev pub encoded : ColKind → Value → List ℕ
encoded kinds.Int (Int n) = int_bytes n
encoded kinds.Int (Text t) = []
encoded kinds.Wide (Int n) = wide_bytes n
encoded kinds.Wide (Text t) = []
encoded (kinds.Text max) (Int n) = []
encoded (kinds.Text max) (Text t) = text_bytes t

-- the bytes of a row: those of its values, one after another
abbrev pub encoded_row : List Column → List Value → List ℕ
encoded_row [] vs = []
encoded_row (c ∷ cs) [] = []
encoded_row (c ∷ cs) (v ∷ vs) = encoded c.kind v ++ encoded_row cs vs

-- the value, which is one of a column of this kind, stands at the front of the bytes
pub record StandsAtFront (kind : ColKind) (bytes : List ℕ) (value : Value) : Type 0 where
  pub of_kind : IsOfKind kind value
  pub text : IsText value
  pub front : take (length (encoded kind value)) bytes ≡ encoded kind value

-- at the front of the bytes stands no text of at most so many bytes: its length is cut off or too large, or its bytes are
-- cut off or not UTF-8
abbrev pub IsBadText : ℕ → List ℕ → Type 0
IsBadText max rest =
    (length rest < 2) ⊎ ((max < little_number 2 rest) ⊎ ((length rest < 2 + little_number 2 rest)
    ⊎ (¬ (IsUtf8 (take (little_number 2 rest) (drop 2 rest))))))

-- at the front of the bytes stands no value of a column of this kind
abbrev pub IsBadValue : ColKind → List ℕ → Type 0
IsBadValue kinds.Int rest = length rest < 8
IsBadValue kinds.Wide rest = length rest < 16
IsBadValue (kinds.Text max) rest = IsBadText max rest

-- no column is left and a byte is, or the next value is bad
abbrev pub IsBadRest : List Column → List ℕ → Type 0
IsBadRest [] rest = 0 < length rest
IsBadRest (c ∷ cs) rest = IsBadValue c.kind rest

-- The place of the first byte that isn't of a row: values of the first columns stand before it, and what follows is bad.
pub record IsBadRow (schema : List Column) (bytes : List ℕ) (at : ℕ) : Type 0 where
  pub values : List Value
  pub fits : Fits (take (length values) schema) values
  pub texts : AreTexts values
  pub within : at ≤ length bytes
  pub read : take at bytes ≡ encoded_row (take (length values) schema) values
  pub rest : IsBadRest (drop (length values) schema) (drop at bytes)

-- of an error: where it names a place, the bytes are bad there
abbrev pub IsFault : List Column → List ℕ → RowFault → Type 0
IsFault schema bytes (BadRow at) = IsBadRow schema bytes at
IsFault schema bytes Memory = Unit {0}
