-- What is listed of the bytes of an output file: the rows from one of them on, up to the end or to the first bad row.
use Rattle.std.specs.Prelude.{◌≡◌, ◌⊎◌, ℕ, ◌+◌, ◌<◌, ◌≤◌, ⊤, List, [], ◌++◌, All, length, take, drop, Result, Ok, Err}
use Rattle.byteorder.specs.Endian.{little_number}
use Rattle.qsr_value.specs.Encoding.{encoded_row}
use Rattle.qsr_value.specs.Values.{AreTexts, Fits}
use Rattle.qsr_value.specs.declared.schema.Column.{Column}
use Rattle.qsr_value.specs.declared.row.Value.{Value}
use Rattle.row_page.specs.Framed.{rows_bytes}
use Rattle.out_file.specs.declared.fault.OutFault.{OutFault}
use Rattle.out_file.specs.declared.fault.OutFault.TheVariants.{OutFull, BadRow, Failed, Memory}

-- each row is one of the schema
abbrev pub AreOutRows : List Column → List (List Value) → Type 0
AreOutRows schema rows = All (λ row. Fits schema row × AreTexts row) rows

-- where a sink had some rows it has these behind them · it has the same
abbrev pub Appended : List (List Value) → (List (List Value) → Type 0) → (List (List Value) → Type 0) → Type 0
Appended rows old new = (told : List (List Value)) → old told → new (told ++ rows)

abbrev pub Kept : (List (List Value) → Type 0) → (List (List Value) → Type 0) → Type 0
Kept old new = (told : List (List Value)) → old told → new told

-- The first `at` bytes are rows: so many that are passed over by their lengths alone, all of the first `from` of them, and
-- behind them these.
pub record IsOutFront (schema : List Column) (from : ℕ) (bytes : List ℕ) (at : ℕ) (over : List (List ℕ)) (rows : List (List Value)) : Type 0 where
  pub short : All (λ row. length row < 65536) over
  pub most : length over ≤ from
  pub all : (length over ≡ from) ⊎ (rows ≡ [])
  pub within : at ≤ length bytes
  pub read : take at bytes ≡ rows_bytes (λ row. row) over ++ rows_bytes (encoded_row schema) rows

-- these bytes are no row of the schema
abbrev pub IsNoRow : List Column → List ℕ → Type 0
IsNoRow schema bytes = (row : List Value) → Fits schema row → AreTexts row → bytes ≡ encoded_row schema row → ⊥

-- At the front of these bytes stands a bad row: its length or its bytes are cut off, or it is looked at and is no row of
-- the schema.
pub record IsBadFront (schema : List Column) (rest : List ℕ) (looked_at : Type 0) : Type 0 where
  pub some : 0 < length rest
  pub bad : (length rest < 2)
      ⊎ ((length rest < 2 + little_number 2 rest) ⊎ (looked_at × IsNoRow schema (take (little_number 2 rest) (drop 2 rest))))

-- How a listing ends behind so many bytes, of which these are the rest: all is listed, or a bad row stands there; or it
-- was cut off.
abbrev pub IsListingEnd : List Column → ℕ → List ℕ → Type 0 → Result ⊤ OutFault → Type 0
IsListingEnd schema at rest looked_at (Ok _) = rest ≡ []
IsListingEnd schema at rest looked_at (Err (BadRow place)) = (place ≡ at) × IsBadFront schema rest looked_at
IsListingEnd schema at rest looked_at (Err (OutFull free)) = ⊥
IsListingEnd schema at rest looked_at (Err Failed) = ⊤
IsListingEnd schema at rest looked_at (Err Memory) = ⊤

-- A sink was given rows of the schema; where the disk is honest they are those in front of some place of these bytes, and
-- the listing ended there.
pub record HasListed (schema : List Column) (from : ℕ) (honest : Type 0) (bytes : List ℕ) (result : Result ⊤ OutFault) (old new : (List (List Value) → Type 0)) : Type 0 where
  pub rows : List (List Value)
  pub over : List (List ℕ)
  pub at : ℕ
  pub are : AreOutRows schema rows
  pub pushed : Appended rows old new
  pub front : honest → IsOutFront schema from bytes at over rows
  pub ends : honest → IsListingEnd schema at (drop at bytes) (length over ≡ from) result

-- Over an area that has just these rows, those from one of them on are given to the sink, and none is bad.
abbrev pub ListsFrom : ℕ → Type 0 → List (List Value) → Result ⊤ OutFault → (List (List Value) → Type 0) → (List (List Value) → Type 0) → Type 0
ListsFrom from honest rows (Ok _) old new = honest → Appended (drop from rows) old new
ListsFrom from honest rows (Err (BadRow place)) old new = honest → ⊥
ListsFrom from honest rows (Err (OutFull free)) old new = ⊥
ListsFrom from honest rows (Err Failed) old new = ⊤
ListsFrom from honest rows (Err Memory) old new = ⊤
