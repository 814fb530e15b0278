-- The fields of a record, and the numbers that stand in them.
use Rattle.std.specs.Prelude.{ℕ, ◌+◌, ◌<◌, ◌≤◌, List, length}
use Rattle.std.specs.List.{slice_index_or}
use Rattle.byteorder.specs.Endian.{little_from}
use Rattle.qsr_layout.specs.declared.fields.Field.{Field}

-- the field of a number; none there has no bytes
abbrev pub field_at : List Field → ℕ → Field
field_at fields i = slice_index_or fields i (record { at = 0; bytes = 0 })

-- where a field begins, how many bytes it has, and where it ends
abbrev pub field_start_of : List Field → ℕ → ℕ
field_start_of fields i = (field_at fields i).at

abbrev pub field_width_of : List Field → ℕ → ℕ
field_width_of fields i = (field_at fields i).bytes

abbrev pub field_end_of : List Field → ℕ → ℕ
field_end_of fields i = field_start_of fields i + field_width_of fields i

-- Each field has 1 to 16 bytes and ends within a page of 4,096, and no field begins before the end of an earlier one.
pub record IsChecked (fields : List Field) : Type 0 where
  pub some : (i : ℕ) → i < length fields → 1 ≤ field_width_of fields i
  pub most : (i : ℕ) → i < length fields → field_width_of fields i ≤ 16
  pub within : (i : ℕ) → i < length fields → field_end_of fields i ≤ 4096
  pub apart : (i j : ℕ) → i < j → j < length fields → field_end_of fields i ≤ field_start_of fields j

-- the number in the bytes of a field, the lowest first
abbrev pub field_value : List Field → ℕ → List ℕ → ℕ
field_value fields i page = little_from (field_start_of fields i) (field_width_of fields i) page
