-- What is refused, and why.
use Rattle.std.specs.Prelude.{◌≡◌, ℕ, Bool, true, false, ◌||◌, nat_lt, nat_le, if◌then◌else◌, List, [], ◌∷◌, ◌++◌, length, map, Option, Some, None, ⊤}
use Rattle.page_store.specs.declared.pages.Sizes.{Sizes}
use Rattle.page_store.specs.Store.{Contents, twin_page}
use Rattle.qsr_value.specs.Causes.{RoseByOne}
use Rattle.qsr_value.specs.Columns.{width_of}
use Rattle.qsr_value.specs.declared.schema.Column.{Column}
use Rattle.qsr_value.specs.declared.row.Value.{Value}
use Rattle.row_page.specs.Pages.{page_count}
use Rattle.table_file.specs.CatalogueBytes.{IsCatalogue, catalogue_bytes}
use Rattle.qsr_value.specs.Names.{is_among}
use Rattle.table_file.specs.Tables.{IsTableOf, Table, Tables, names_of, place_of, table_pages}
use Rattle.table_file.specs.declared.catalogue.Catalogue.{Catalogue}
use Rattle.table_file.specs.declared.fault.TableFault.{TableFault}
use Rattle.table_file.specs.declared.fault.TableFault.TheVariants.{Exists, CatalogFull, RowTooWide, NoTable, BadField, TableFull, NotStore, Failed, Memory}

-- a name stands twice among these
abbrev pub repeats : List (List ℕ) → Bool
repeats [] = false
repeats (name ∷ names) = is_among name names || repeats names

abbrev pub table_names : Catalogue → List (List ℕ)
table_names catalogue = map (λ table. table.name) catalogue.tables

abbrev pub column_names : List Column → List (List ℕ)
column_names columns = map (λ column. column.name) columns

-- Why a table of this name and these columns isn't created, the first that holds: a table has the name, or two columns have
-- one; a row may have more than 1,000 bytes; there are 16 tables.
abbrev pub create_refusal : List (List ℕ) → List ℕ → List Column → Option TableFault
create_refusal tables name columns =
    if is_among name tables || repeats (column_names columns) then Some Exists
    else (if nat_lt 1000 (width_of columns) then Some (RowTooWide (width_of columns))
    else (if nat_le 16 (length tables) then Some CatalogFull else None))

-- A fault of `create`: what is refused is told, and what isn't has failed by the disk or for want of memory.
abbrev pub IsCreateFault : Option TableFault → TableFault → Type 0
IsCreateFault refusal Failed = refusal ≡ None
IsCreateFault refusal Memory = refusal ≡ None
IsCreateFault refusal Exists = refusal ≡ Some Exists
IsCreateFault refusal CatalogFull = refusal ≡ Some CatalogFull
IsCreateFault refusal (RowTooWide bytes) = refusal ≡ Some (RowTooWide bytes)
IsCreateFault refusal NoTable = ⊥
IsCreateFault refusal (BadField line column) = ⊥
IsCreateFault refusal TableFull = ⊥
IsCreateFault refusal (NotStore page) = ⊥

-- a table with these rows has more of them than is allowed, or takes more pages than its area has
abbrev pub exceeds : Sizes → List Column → List (List Value) → Bool
exceeds sizes columns rows = nat_lt 1048575 (length rows) || nat_lt sizes.table (page_count (table_pages columns rows))

-- the catalogue twin has a body that is no catalogue of a store of these sizes, or it has none
abbrev pub HasNoCatalogue : Sizes → Contents → Type 0
HasNoCatalogue sizes m = (catalogue : Catalogue) → IsCatalogue sizes catalogue → m.body 0 ≡ Some (catalogue_bytes catalogue) → ⊥

-- Of a fault of `load`: it tells the first page of the catalogue's twin, and no catalogue stands there, where the disk is
-- honest; or the disk failed, or memory was wanting.
abbrev pub IsLoadFault : Sizes → Type 0 → Contents → TableFault → Type 0
IsLoadFault sizes honest m (NotStore page) = (page ≡ twin_page sizes 0) × (honest → HasNoCatalogue sizes m)
IsLoadFault sizes honest m Failed = ⊤
IsLoadFault sizes honest m Memory = ⊤
IsLoadFault sizes honest m Exists = ⊥
IsLoadFault sizes honest m CatalogFull = ⊥
IsLoadFault sizes honest m (RowTooWide bytes) = ⊥
IsLoadFault sizes honest m NoTable = ⊥
IsLoadFault sizes honest m (BadField line column) = ⊥
IsLoadFault sizes honest m TableFull = ⊥

-- the count of the disk's faults rose by one where it is told that the disk failed, and else stood
abbrev pub TableCause : TableFault → ℕ → ℕ → Type 0
TableCause Failed old new = RoseByOne old new
TableCause Memory old new = new ≡ old
TableCause Exists old new = new ≡ old
TableCause CatalogFull old new = new ≡ old
TableCause (RowTooWide bytes) old new = new ≡ old
TableCause NoTable old new = new ≡ old
TableCause (BadField line column) old new = new ≡ old
TableCause TableFull old new = new ≡ old
TableCause (NotStore page) old new = new ≡ old

-- Of a fault of an append of these rows: there is no table of the name; or the table has no room for them; or the disk failed.
abbrev pub IsAppendFault : Sizes → Tables → List ℕ → List (List Value) → TableFault → Type 0
IsAppendFault sizes s name rows NoTable = place_of name (names_of s) ≡ None
IsAppendFault sizes s name rows TableFull = (number : ℕ) × (table : Table) × IsTableOf s name number table × (exceeds sizes table.columns (table.rows ++ rows) ≡ true)
IsAppendFault sizes s name rows Failed = (number : ℕ) × (place_of name (names_of s) ≡ Some number)
IsAppendFault sizes s name rows Exists = ⊥
IsAppendFault sizes s name rows CatalogFull = ⊥
IsAppendFault sizes s name rows (RowTooWide bytes) = ⊥
IsAppendFault sizes s name rows (BadField line column) = ⊥
IsAppendFault sizes s name rows (NotStore page) = ⊥
IsAppendFault sizes s name rows Memory = ⊥
