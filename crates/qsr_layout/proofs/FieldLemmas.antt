-- The laws of reads and writes, over all fields of a layout that is checked, and the steps of its check.
use Rattle.std.proofs.Common.{◌≡◌, ◌≢◌, ◌⊎◌, ℕ, zero, suc, ◌+◌, ◌^◌, ◌<◌, ◌≤◌, List, length, arith, inl, inr}
use Rattle.std.proofs.lemmas.Bool.{cases_lt}
use Rattle.byteorder.specs.Endian.{little_bytes}
use Rattle.qsr_layout.specs.declared.fields.Field.{Field}
use Rattle.qsr_layout.specs.Fields.{IsChecked, field_value, field_start_of, field_width_of, field_end_of}
use Rattle.qsr_layout.specs.Page.{PageHolds, PageSameOutside}
use Rattle.qsr_layout.proofs.Numbers.{little_from-holds, little_from-same}

-- what was written is read back
pub written_is_read : (fields : List Field) (i v : ℕ) (page : List ℕ) → v < 256 ^ field_width_of fields i
    → PageHolds page (field_start_of fields i) (little_bytes (field_width_of fields i) v) → field_value fields i page ≡ v
written_is_read fields i v page fits holds = little_from-holds (field_start_of fields i) (field_width_of fields i) v page fits holds

-- a field below or above the bytes that changed keeps its number
kept : (fields : List Field) (i j : ℕ) (old new : List ℕ)
    → (field_end_of fields j ≤ field_start_of fields i) ⊎ (field_end_of fields i ≤ field_start_of fields j)
    → PageSameOutside (field_start_of fields i) (field_width_of fields i) old new → field_value fields j new ≡ field_value fields j old
kept fields i j old new (inl below) same =
    little_from-same (field_start_of fields j) (field_width_of fields j) new old (λ k low high. same.below k (omega arith))
kept fields i j old new (inr above) same =
    little_from-same (field_start_of fields j) (field_width_of fields j) new old (λ k low high. same.above k (omega arith))

-- of two fields one stands below the other
two_apart : (fields : List Field) (i j : ℕ) → IsChecked fields → i < length fields → j < length fields → j ≢ i
    → (field_end_of fields j ≤ field_start_of fields i) ⊎ (field_end_of fields i ≤ field_start_of fields j)
two_apart fields i j checked i_in j_in other = elim (cases_lt j i) [
  | inl before ↦ inl (checked.apart j i before i_in)
  | inr behind ↦ inr (checked.apart i j (omega arith) j_in)
]

-- a write to one field leaves the numbers of the others
pub others_stay : (fields : List Field) (i j : ℕ) (old new : List ℕ) → IsChecked fields → i < length fields → j < length fields → j ≢ i
    → PageSameOutside (field_start_of fields i) (field_width_of fields i) old new → field_value fields j new ≡ field_value fields j old
others_stay fields i j old new checked i_in j_in other same = kept fields i j old new (two_apart fields i j checked i_in j_in other) same

-- The first n fields are checked, and this is the end of the last of them.
pub record ChecksTo (fields : List Field) (n end : ℕ) : Type 0 where
  pub some : (i : ℕ) → i < n → 1 ≤ field_width_of fields i
  pub most : (i : ℕ) → i < n → field_width_of fields i ≤ 16
  pub within : (i : ℕ) → i < n → field_end_of fields i ≤ 4096
  pub apart : (i j : ℕ) → i < j → j < n → field_end_of fields i ≤ field_start_of fields j
  pub passed : (i : ℕ) → i < n → field_end_of fields i ≤ end
  pub first : n ≡ 0 → end ≡ 0
  pub last : (i : ℕ) → n ≡ i + 1 → end ≡ field_end_of fields i

-- where all fields are checked, the next one begins behind the last one
pub starts_behind : (fields : List Field) (n end : ℕ) → ChecksTo fields n end → n < length fields → IsChecked fields → end ≤ field_start_of fields n
starts_behind fields zero end checks inside checked = let first = checks.first (omega arith) in omega arith
starts_behind fields (suc i) end checks inside checked =
    let last = checks.last i (omega arith) in
    let apart = checked.apart i (suc i) (omega arith) inside in
    omega (arith, last, apart)
