-- A row as a line of text: its fields, separated by one tab each.
use Rattle.std.specs.Prelude.{◌≡◌, ℕ, ◌+◌, ◌==◌, ◌&&◌, nat_le, List, [], ◌∷◌, length, Option, Some, None, Result, Ok, Err, if◌then◌else◌, ⊤}
use Rattle.std.specs.Option.{option_map}
use Rattle.std.specs.Str.{is_utf8}
use Rattle.qsr_value.specs.declared.kind.ColKind.{ColKind}
use Rattle.qsr_value.specs.declared.kind.ColKind.TheVariants as kinds
use Rattle.qsr_value.specs.declared.row.Value.{Value}
use Rattle.qsr_value.specs.declared.row.Value.TheVariants.{Int, Text}
use Rattle.qsr_value.specs.declared.schema.Column.{Column}
use Rattle.qsr_value.specs.Number.{number_of}
use Rattle.table_file.specs.declared.fault.TableFault.{TableFault}
use Rattle.table_file.specs.declared.fault.TableFault.TheVariants.{Exists, CatalogFull, RowTooWide, NoTable, BadField, TableFull, NotStore, Failed, Memory}

-- one byte more in front of the first field
abbrev pub longer_field : ℕ → List (List ℕ) → List (List ℕ)
longer_field byte [] = (byte ∷ []) ∷ []
longer_field byte (field ∷ fields) = (byte ∷ field) ∷ fields

-- The fields of a line: what stands between its tabs. A line with no tab is one field, an empty one too.
abbrev pub fields_of : List ℕ → List (List ℕ)
fields_of [] = [] ∷ []
fields_of (byte ∷ bytes) = if byte == 9 then [] ∷ fields_of bytes else longer_field byte (fields_of bytes)

-- the value of a column of this kind that a field is: a number of 64 bits, or a text in UTF-8 that isn't too long
abbrev pub value_of_field : ColKind → List ℕ → Option Value
value_of_field kinds.Int field = option_map Int (number_of field)
value_of_field kinds.Wide field = None
value_of_field (kinds.Text max) field = if nat_le (length field) max && is_utf8 field then Some (Text field) else None

abbrev pub with_value : ℕ → Option Value → Result (List Value) ℕ → Result (List Value) ℕ
with_value number None rest = Err number
with_value number (Some value) (Ok values) = Ok (value ∷ values)
with_value number (Some value) (Err wrong) = Err wrong

-- The row of these columns that the fields are, or the number of the first wrong column: its field is missing or is no value
-- of it, or there is a field too many. The first column has this number.
abbrev pub row_of : ℕ → List Column → List (List ℕ) → Result (List Value) ℕ
row_of number [] [] = Ok []
row_of number [] (field ∷ fields) = Err number
row_of number (column ∷ columns) [] = Err number
row_of number (column ∷ columns) (field ∷ fields) = with_value number (value_of_field column.kind field) (row_of (number + 1) columns fields)

-- what a line of fields is
abbrev pub read_row : List Column → List ℕ → Result (List Value) ℕ
read_row columns text = row_of 1 columns (fields_of text)

-- of a fault of `read_fields`: it tells the line and the first wrong column, or memory was wanting
abbrev pub IsFieldFault : List Column → ℕ → List ℕ → TableFault → Type 0
IsFieldFault columns line text (BadField told column) = (told ≡ line) × (read_row columns text ≡ Err column)
IsFieldFault columns line text Memory = ⊤
IsFieldFault columns line text Exists = ⊥
IsFieldFault columns line text CatalogFull = ⊥
IsFieldFault columns line text (RowTooWide bytes) = ⊥
IsFieldFault columns line text NoTable = ⊥
IsFieldFault columns line text TableFull = ⊥
IsFieldFault columns line text (NotStore page) = ⊥
IsFieldFault columns line text Failed = ⊥
