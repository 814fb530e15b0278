-- What `load` reads, says and leaves.
use Rattle.std.specs.Prelude.{◌≡◌, ℕ, ◌+◌, ◌||◌, nat_lt, false, true, List, [], ◌∷◌, ◌++◌, length, Option, Some, None, Result, Ok, Err, if◌then◌else◌, ⊤}
use Rattle.std.specs.Io.KnownBytes.{IsAtEnd}
use Rattle.disk_model.specs.Image.{Image}
use Rattle.disk_model.specs.View.{View}
use Rattle.page_store.specs.Opening.{IsStore}
use Rattle.page_store.specs.Store.{Contents}
use Rattle.page_store.specs.declared.pages.Sizes.{Sizes}
use Rattle.qsr_value.specs.declared.row.Value.{Value}
use Rattle.qsr_value.specs.declared.schema.Column.{Column}
use Rattle.table_file.specs.Fields.{read_row}
use Rattle.table_file.specs.Refusals.{exceeds}
use Rattle.table_file.specs.Tables.{AreRows, AreTables, HasAppended, IsTableOf, Table, Tables, names_of, place_of, with_rows}
use Rattle.row_script.specs.declared.end.End.{End}
use Rattle.qsr_value.specs.declared.limits.TheConstants.{MAX_LINE, MAX_LINES}
use Rattle.qsr_top.specs.declared.told.Told.{Told}
use Rattle.qsr_top.specs.declared.told.Told.TheVariants.{Created, Loaded, Exists, RowTooWide, CatalogueFull, NoTable, BadField, TableFull, BadLine, NotStore, DiskFault, SourceFault, NoMemory}
use Rattle.qsr_top.specs.Create.{IsToldOfDisk}
use Rattle.input_lines.specs.Lines.{InputLine, lines_of, text_of_line}
use Rattle.qsr_top.specs.Stored.{StandsFor}
use Rattle.qsr_top.specs.Told.{IsToldOr, ToldCause}

abbrev pub as_field : ℕ → Result (List Value) ℕ → Result (List Value) Told
as_field number (Ok row) = Ok row
as_field number (Err column) = Err (BadField number column)

-- The row of these columns that the line of this number is. It is a bad line where it is too long or one line too many, else
-- its first wrong column is a bad field.
abbrev pub row_in : List Column → ℕ → InputLine → Result (List Value) Told
row_in columns number line =
    if nat_lt MAX_LINE (length line.text) || nat_lt MAX_LINES number then Err (BadLine number)
    else as_field number (read_row columns (text_of_line line))

abbrev pub before_rows : Result (List Value) Told → Result (List (List Value)) Told → Result (List (List Value)) Told
before_rows (Ok row) (Ok rows) = Ok (row ∷ rows)
before_rows (Ok row) (Err told) = Err told
before_rows (Err told) rest = Err told

-- The rows that lines are, of which the first has this number, or what is told of the first that is none.
abbrev pub rows_in : List Column → ℕ → List InputLine → Result (List (List Value)) Told
rows_in columns number [] = Ok []
rows_in columns number (line ∷ lines) = before_rows (row_in columns number line) (rows_in columns (number + 1) lines)

-- what an input is, where the source tells its bytes
abbrev pub IsInput : List Column → Option (List ℕ) → Result (List (List Value)) Told → Type 0
IsInput columns None read = ⊤
IsInput columns (Some bytes) read = rows_in columns 1 (lines_of bytes) ≡ read

-- All of the input was read, and these are its rows.
pub record HasReadRows (columns : List Column) (left left' : Option (List ℕ)) (rows : List (List Value)) : Type 0 where
  pub are : AreRows columns rows
  pub input : IsInput columns left (Ok rows)
  pub end : IsAtEnd left'

-- the rows of the input are behind those of the table, and are counted
pub record HasLoaded (size : ℕ) (sizes : Sizes) (s : Tables) (name : List ℕ) (left left' : Option (List ℕ)) (disk : View Image) (count : ℕ) : Type 0 where
  pub number : ℕ
  pub table : Table
  pub rows : List (List Value)
  pub is : IsTableOf s name number table
  pub read : HasReadRows table.columns left left' rows
  pub room : exceeds sizes table.columns (table.rows ++ rows) ≡ false
  pub counted : count ≡ length (table.rows ++ rows)
  pub tables : AreTables sizes (with_rows s number table rows)
  pub stands : StandsFor size sizes (with_rows s number table rows) disk

-- the table has no room for the rows of the input
pub record HasNoRoom (sizes : Sizes) (s : Tables) (name : List ℕ) (left left' : Option (List ℕ)) : Type 0 where
  pub number : ℕ
  pub table : Table
  pub rows : List (List Value)
  pub is : IsTableOf s name number table
  pub read : HasReadRows table.columns left left' rows
  pub full : exceeds sizes table.columns (table.rows ++ rows) ≡ true

-- the first line of the input that is no row is told
pub record HasBadLine (s : Tables) (name : List ℕ) (left : Option (List ℕ)) (told : Told) : Type 0 where
  pub number : ℕ
  pub table : Table
  pub is : IsTableOf s name number table
  pub input : IsInput table.columns left (Err told)

-- What `load` leaves of a disk that stood for these tables, by what is told. Where it is refused, nothing is changed; the input
-- isn't read where there is no table. What a fault of the disk leaves is the tables with the rows of the input or without them.
abbrev pub Loads : ℕ → Sizes → Tables → List ℕ → Option (List ℕ) → Option (List ℕ) → View Image → Told → Type 0
Loads size sizes s name left left' disk (Loaded count) = HasLoaded size sizes s name left left' disk count
Loads size sizes s name left left' disk NoTable = (place_of name (names_of s) ≡ None) × (left' ≡ left) × StandsFor size sizes s disk
Loads size sizes s name left left' disk (BadField line column) = HasBadLine s name left (BadField line column) × StandsFor size sizes s disk
Loads size sizes s name left left' disk (BadLine number) = HasBadLine s name left (BadLine number) × StandsFor size sizes s disk
Loads size sizes s name left left' disk TableFull = HasNoRoom sizes s name left left' × StandsFor size sizes s disk
Loads size sizes s name left left' disk SourceFault = StandsFor size sizes s disk
Loads size sizes s name left left' disk NoMemory = StandsFor size sizes s disk
Loads size sizes s name left left' disk DiskFault = ⊤
Loads size sizes s name left left' disk Created = ⊥
Loads size sizes s name left left' disk Exists = ⊥
Loads size sizes s name left left' disk (RowTooWide bytes) = ⊥
Loads size sizes s name left left' disk CatalogueFull = ⊥
Loads size sizes s name left left' disk (NotStore page) = ⊥

-- the tables with the rows of the input behind those of the table of this name
pub record StandsLoaded (size : ℕ) (sizes : Sizes) (s : Tables) (name : List ℕ) (left : Option (List ℕ)) (m : Contents) : Type 0 where
  pub rows : List (List Value)
  pub store : IsStore size sizes m
  pub appended : HasAppended s name rows m
  pub read : IsInput appended.table.columns left (Ok rows)

-- What `load` comes to: what is told, its cause, and what it leaves of the disk.
pub record ComesToLoad (size : ℕ) (name : List ℕ) (left left' : Option (List ℕ)) (disk disk' : View Image) (faults faults' source source' : ℕ) (told : Told) : Type 0 where
  pub cause : ToldCause told faults faults' source source'
  pub of_disk : IsToldOfDisk size disk told
  pub loads : (sizes : Sizes) (s : Tables) → AreTables sizes s → StandsFor size sizes s disk → disk.honest → Loads size sizes s name left left' disk' told

-- A run of `load` over a disk of so many bytes, by the source, the disk, what the sink had been given and has, and the counts of
-- faults.
pub record LoadRan (size : ℕ) (name : List ℕ) (left left' : Option (List ℕ)) (disk disk' : View Image) (given given' : Option (List ℕ)) (faults faults' source source' sink sink' : ℕ) (end : End) : Type 0 where
  pub told : Told
  pub comes : ComesToLoad size name left left' disk disk' faults faults' source source' told
  pub tells : IsToldOr name told end given given' sink sink'
