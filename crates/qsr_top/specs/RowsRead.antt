-- How `load` stands between two lines: what was read of the input, and what was added to the table.
use Rattle.std.specs.Prelude.{◌≡◌, ℕ, Bool, false, true, List, ◌++◌, Option, None, Some, Result, Ok, Err, if◌then◌else◌, nat_lt, ⊤}
use Rattle.std.specs.Io.KnownBytes.{IsAtEnd}
use Rattle.disk_model.specs.View.{View, After, EachImage, LeavesOnly}
use Rattle.page_store.specs.Store.{Contents}
use Rattle.page_store.specs.declared.pages.Sizes.{Sizes}
use Rattle.qsr_value.specs.declared.row.Value.{Value}
use Rattle.qsr_value.specs.declared.schema.Column.{Column}
use Rattle.table_file.specs.Appending.{HasAdded, HasCounted, IsBehind}
use Rattle.table_file.specs.Fields.{read_row}
use Rattle.table_file.specs.Refusals.{exceeds}
use Rattle.table_file.specs.Tables.{AreRows, HasTables, OnlyTables, Table, Tables}
use Rattle.table_file.specs.declared.writer.TableWriter.{TableWriter}
use Rattle.qsr_value.specs.declared.limits.TheConstants.{MAX_LINES}
use Rattle.qsr_top.specs.declared.told.Told.{Told}
use Rattle.qsr_top.specs.declared.told.Told.TheVariants.{Created, Loaded, Exists, RowTooWide, CatalogueFull, NoTable, BadField, TableFull, BadLine, NotStore, DiskFault, SourceFault, NoMemory}
use Rattle.input_lines.specs.Lines.{lines_of}
use Rattle.qsr_top.specs.Load.{HasReadRows, as_field, rows_in}

-- the row that the text of the line of this number is, as far as the line isn't too long
abbrev pub text_row : List Column → ℕ → List ℕ → Result (List Value) Told
text_row columns number text = if nat_lt MAX_LINES number then Err (BadLine number) else as_field number (read_row columns text)

-- these rows in front of the others
abbrev pub in_front : List (List Value) → Result (List (List Value)) Told → Result (List (List Value)) Told
in_front rows (Ok more) = Ok (rows ++ more)
in_front rows (Err told) = Err told

-- what the unread input is, whose first line has this number, where the source tells its bytes
abbrev pub IsUnread : List Column → ℕ → Option (List ℕ) → Result (List (List Value)) Told → Type 0
IsUnread columns number None read = ⊤
IsUnread columns number (Some bytes) read = rows_in columns number (lines_of bytes) ≡ read

-- These rows were read of an input whose first line has the first number, and what is unread begins with the line of the other.
abbrev pub ReadsRows : List Column → ℕ → Option (List ℕ) → ℕ → Option (List ℕ) → List (List Value) → Type 0
ReadsRows columns number None next left rows = ⊤
ReadsRows columns number (Some bytes) next None rows = ⊥
ReadsRows columns number (Some bytes) next (Some left) rows = rows_in columns number (lines_of bytes) ≡ in_front rows (rows_in columns next (lines_of left))

-- Of what is told where the rows of an input aren't added: the input stops at a line that is none, or the table has no room,
-- or a call has failed.
abbrev pub IsReadFault : (Told → Type 0) → Type 0 → Told → Type 0
IsReadFault stops full (BadField line column) = stops (BadField line column)
IsReadFault stops full (BadLine number) = stops (BadLine number)
IsReadFault stops full TableFull = full
IsReadFault stops full DiskFault = ⊤
IsReadFault stops full SourceFault = ⊤
IsReadFault stops full NoMemory = ⊤
IsReadFault stops full Created = ⊥
IsReadFault stops full (Loaded rows) = ⊥
IsReadFault stops full Exists = ⊥
IsReadFault stops full (RowTooWide bytes) = ⊥
IsReadFault stops full CatalogueFull = ⊥
IsReadFault stops full NoTable = ⊥
IsReadFault stops full (NotStore page) = ⊥

-- The writer has added these rows; or, where it is full, some of them, and the table has no room for all.
pub record IsLoading (sizes : Sizes) (columns : List Column) (rows : List (List Value)) (full : Bool) (w : TableWriter) (v : View Contents) : Type 0 where
  pub room : exceeds sizes columns rows ≡ full
  pub counted : full ≡ false → HasCounted columns rows w
  pub added : full ≡ false → v.honest → HasAdded columns rows w v.seen

-- whatever rows there were, these are behind them
abbrev pub LoadsRows : Sizes → List Column → List (List Value) → Bool → TableWriter → View Contents → Bool → TableWriter → View Contents → Type 0
LoadsRows sizes columns rows full w v full' w' v' = (before : List (List Value)) → IsLoading sizes columns before full w v → IsLoading sizes columns (before ++ rows) full' w' v'

-- A store has its tables at any moment, as long as the writer was behind the rows that they have, and it still is.
pub record WritesBehind (old new : View Contents) (w w' : TableWriter) : Type 0 where
  pub table : w'.table ≡ w.table
  pub behind : (s : Tables) → IsBehind s w → IsBehind s w'
  pub keeps : (s : Tables) → IsBehind s w → EachImage old (HasTables s) → LeavesOnly old new (HasTables s)
  pub others : LeavesOnly old new (After OnlyTables old)

-- all of the input was read, and its rows were added
pub record LoadsAll (sizes : Sizes) (columns : List Column) (number : ℕ) (left left' : Option (List ℕ)) (full : Bool) (w : TableWriter) (v : View Contents) (full' : Bool) (w' : TableWriter) (v' : View Contents) : Type 0 where
  pub rows : List (List Value)
  pub are : AreRows columns rows
  pub input : IsUnread columns number left (Ok rows)
  pub end : IsAtEnd left'
  pub loads : LoadsRows sizes columns rows full w v full' w' v'

-- All of the input was read, and its rows are behind those of the table, or it has no room for them.
pub record IsRead (sizes : Sizes) (table : Table) (left left' : Option (List ℕ)) (full : Bool) (w : TableWriter) (v : View Contents) : Type 0 where
  pub rows : List (List Value)
  pub read : HasReadRows table.columns left left' rows
  pub loading : IsLoading sizes table.columns (table.rows ++ rows) full w v

-- the same of a table that has no room for them
pub record IsReadFull (sizes : Sizes) (table : Table) (left left' : Option (List ℕ)) : Type 0 where
  pub rows : List (List Value)
  pub read : HasReadRows table.columns left left' rows
  pub full : exceeds sizes table.columns (table.rows ++ rows) ≡ true
