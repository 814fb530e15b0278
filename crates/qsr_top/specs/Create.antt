-- What `create` says and leaves.
use Rattle.std.specs.Prelude.{◌≡◌, ℕ, List, Option, Some, None, ⊤}
use Rattle.disk_model.specs.Image.{Image}
use Rattle.disk_model.specs.View.{View}
use Rattle.page_store.specs.Store.{Contents, twin_page}
use Rattle.page_store.specs.declared.pages.Sizes.{Sizes}
use Rattle.qsr_value.specs.declared.schema.Column.{Column}
use Rattle.table_file.specs.Refusals.{HasNoCatalogue, create_refusal}
use Rattle.table_file.specs.Tables.{AreTables, Tables, names_of, with_table}
use Rattle.table_file.specs.declared.fault.TableFault.TheVariants as faults
use Rattle.row_script.specs.declared.end.End.{End}
use Rattle.qsr_top.specs.declared.told.Told.{Told}
use Rattle.qsr_top.specs.declared.told.Told.TheVariants.{Created, Loaded, Exists, RowTooWide, CatalogueFull, NoTable, BadField, TableFull, BadLine, NotStore, DiskFault, SourceFault, NoMemory}
use Rattle.qsr_top.specs.Stored.{IsNotStored, StandsFor}
use Rattle.qsr_top.specs.Told.{IsToldOr, ToldCause}

-- the table is there, without rows
pub record HasCreated (size : ℕ) (sizes : Sizes) (s : Tables) (name : List ℕ) (columns : List Column) (disk : View Image) : Type 0 where
  pub accepted : create_refusal (names_of s) name columns ≡ None
  pub are : AreTables sizes (with_table s name columns)
  pub stands : StandsFor size sizes (with_table s name columns) disk

-- What `create` leaves of a disk that stood for these tables, by what is told: it is refused exactly where there is a reason
-- for it, the first of which is told, and then nothing is changed. What a fault of the disk or want of memory leaves is the
-- tables with the new one or without it.
abbrev pub Creates : ℕ → Sizes → Tables → List ℕ → List Column → View Image → Told → Type 0
Creates size sizes s name columns disk Created = HasCreated size sizes s name columns disk
Creates size sizes s name columns disk Exists = (create_refusal (names_of s) name columns ≡ Some faults.Exists) × StandsFor size sizes s disk
Creates size sizes s name columns disk (RowTooWide bytes) = (create_refusal (names_of s) name columns ≡ Some (faults.RowTooWide bytes)) × StandsFor size sizes s disk
Creates size sizes s name columns disk CatalogueFull = (create_refusal (names_of s) name columns ≡ Some faults.CatalogFull) × StandsFor size sizes s disk
Creates size sizes s name columns disk DiskFault = ⊤
Creates size sizes s name columns disk NoMemory = StandsFor size sizes s disk
Creates size sizes s name columns disk (Loaded rows) = ⊥
Creates size sizes s name columns disk NoTable = ⊥
Creates size sizes s name columns disk (BadField line column) = ⊥
Creates size sizes s name columns disk TableFull = ⊥
Creates size sizes s name columns disk (BadLine number) = ⊥
Creates size sizes s name columns disk (NotStore page) = ⊥
Creates size sizes s name columns disk SourceFault = ⊥

-- what is told of an open store of these sizes: that it is none, only where its catalogue is none
abbrev pub IsToldOfCatalogue : Sizes → Type 0 → Contents → Told → Type 0
IsToldOfCatalogue sizes honest m (NotStore page) = (page ≡ twin_page sizes 0) × (honest → HasNoCatalogue sizes m)
IsToldOfCatalogue sizes honest m Created = ⊤
IsToldOfCatalogue sizes honest m (Loaded rows) = ⊤
IsToldOfCatalogue sizes honest m Exists = ⊤
IsToldOfCatalogue sizes honest m (RowTooWide bytes) = ⊤
IsToldOfCatalogue sizes honest m CatalogueFull = ⊤
IsToldOfCatalogue sizes honest m NoTable = ⊤
IsToldOfCatalogue sizes honest m (BadField line column) = ⊤
IsToldOfCatalogue sizes honest m TableFull = ⊤
IsToldOfCatalogue sizes honest m (BadLine number) = ⊤
IsToldOfCatalogue sizes honest m DiskFault = ⊤
IsToldOfCatalogue sizes honest m SourceFault = ⊤
IsToldOfCatalogue sizes honest m NoMemory = ⊤

-- what is told of a disk that isn't known to stand for tables: that it is no store, only where it is none
abbrev pub IsToldOfDisk : ℕ → View Image → Told → Type 0
IsToldOfDisk size disk (NotStore page) = disk.honest → IsNotStored size page disk.seen
IsToldOfDisk size disk Created = ⊤
IsToldOfDisk size disk (Loaded rows) = ⊤
IsToldOfDisk size disk Exists = ⊤
IsToldOfDisk size disk (RowTooWide bytes) = ⊤
IsToldOfDisk size disk CatalogueFull = ⊤
IsToldOfDisk size disk NoTable = ⊤
IsToldOfDisk size disk (BadField line column) = ⊤
IsToldOfDisk size disk TableFull = ⊤
IsToldOfDisk size disk (BadLine number) = ⊤
IsToldOfDisk size disk DiskFault = ⊤
IsToldOfDisk size disk SourceFault = ⊤
IsToldOfDisk size disk NoMemory = ⊤

-- What `create` comes to: what is told, its cause, and what it leaves of the disk.
pub record ComesToCreate (size : ℕ) (name : List ℕ) (columns : List Column) (disk disk' : View Image) (faults faults' : ℕ) (told : Told) : Type 0 where
  pub cause : (source : ℕ) → ToldCause told faults faults' source source
  pub of_disk : IsToldOfDisk size disk told
  pub creates : (sizes : Sizes) (s : Tables) → AreTables sizes s → StandsFor size sizes s disk → disk.honest → Creates size sizes s name columns disk' told

-- A run of `create` over a disk of so many bytes, by the disk, what the sink had been given and has, and the counts of faults.
pub record CreateRan (size : ℕ) (name : List ℕ) (columns : List Column) (disk disk' : View Image) (given given' : Option (List ℕ)) (faults faults' sink sink' : ℕ) (end : End) : Type 0 where
  pub told : Told
  pub comes : ComesToCreate size name columns disk disk' faults faults' told
  pub tells : IsToldOr name told end given given' sink sink'
