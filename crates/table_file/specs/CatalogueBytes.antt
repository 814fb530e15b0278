-- The catalogue of a store, and its bytes.
use Rattle.std.specs.Prelude.{◌≡◌, ◌≢◌, ◌↔◌, ℕ, ◌^◌, ◌<◌, ◌≤◌, List, [], ◌∷◌, ◌++◌, length, flat_map, slice_get, IfSome, ⊤}
use Rattle.std.specs.List.{AllByRecursion}
use Rattle.std.specs.Str.{IsUtf8}
use Rattle.byteorder.specs.Endian.{little_bytes}
use Rattle.page_store.specs.declared.pages.Sizes.{Sizes}
use Rattle.qsr_value.specs.Columns.{width_of}
use Rattle.qsr_value.specs.declared.kind.ColKind.{ColKind}
use Rattle.qsr_value.specs.declared.kind.ColKind.TheVariants.{Int, Wide, Text}
use Rattle.qsr_value.specs.declared.schema.Column.{Column}
use Rattle.table_file.specs.declared.entries.TableEntry.{TableEntry}
use Rattle.table_file.specs.declared.entries.IndexEntry.{IndexEntry}
use Rattle.table_file.specs.declared.catalogue.Catalogue.{Catalogue}

-- a name, behind its length in one byte
unfoldable pub name_bytes : List ℕ → List ℕ
name_bytes name = length name ∷ name

-- what the values of a column are; no column of a table is Wide
unfoldable pub kind_bytes : ColKind → List ℕ
kind_bytes Int = 0 ∷ little_bytes 2 0
kind_bytes Wide = []
kind_bytes (Text max) = 1 ∷ little_bytes 2 max

unfoldable pub column_bytes : Column → List ℕ
column_bytes column = name_bytes column.name ++ kind_bytes column.kind

-- columns behind their number
unfoldable pub columns_bytes : List Column → List ℕ
columns_bytes columns = length columns ∷ flat_map column_bytes columns

-- a table: its name, its columns, and how many rows and pages it has and where the rows of the last page end
unfoldable pub table_bytes : TableEntry → List ℕ
table_bytes table =
    name_bytes table.name ++ (columns_bytes table.schema
    ++ (little_bytes 4 table.rows ++ (little_bytes 4 table.pages ++ little_bytes 2 table.end)))

-- an index: its table, the column, its area, and how many entries, leaves, pages and levels it has
unfoldable pub index_bytes : IndexEntry → List ℕ
index_bytes index =
    index.table ∷ index.column ∷ index.area ∷ (little_bytes 4 index.rows
    ++ (little_bytes 4 index.leaves ++ (little_bytes 4 index.pages ++ index.height ∷ [])))

-- the body of the catalogue: the tables behind their number, and then the indexes behind theirs
unfoldable pub catalogue_bytes : Catalogue → List ℕ
catalogue_bytes catalogue =
    length catalogue.tables ∷ (flat_map table_bytes catalogue.tables
    ++ length catalogue.indexes ∷ flat_map index_bytes catalogue.indexes)

-- a name has 1 to 16 bytes
pub record IsName (name : List ℕ) : Type 0 where
  pub some : 1 ≤ length name
  pub most : length name ≤ 16
  pub text : IsUtf8 name

-- what the values of a column of a table may be: texts of 1 to 998 bytes
abbrev pub IsStoredKind : ColKind → Type 0
IsStoredKind Int = ⊤
IsStoredKind Wide = ⊥
IsStoredKind (Text max) = (1 ≤ max) × (max ≤ 998)

pub record IsColumn (column : Column) : Type 0 where
  pub name : IsName column.name
  pub kind : IsStoredKind column.kind

-- 1 to 16 columns, in which a row has at most 1,000 bytes
pub record IsSchema (columns : List Column) : Type 0 where
  pub some : 1 ≤ length columns
  pub most : length columns ≤ 16
  pub each : AllByRecursion IsColumn columns
  pub width : width_of columns ≤ 1000

-- Sizes whose numbers of pages are of four bytes, as those of each store are.
pub record AreWords (sizes : Sizes) : Type 0 where
  pub table : sizes.table < 2 ^ 32
  pub index : sizes.index < 2 ^ 32

-- a table in a store of these sizes
pub record IsTable (sizes : Sizes) (table : TableEntry) : Type 0 where
  pub name : IsName table.name
  pub schema : IsSchema table.schema
  pub rows : table.rows ≤ 1048575
  pub pages : table.pages ≤ sizes.table
  pub end : table.end ≤ 4096

-- an index of a column of one of these tables, in a store of these sizes
pub record IsIndex (sizes : Sizes) (tables : List TableEntry) (index : IndexEntry) : Type 0 where
  pub table : index.table < length tables
  pub column : IfSome (slice_get tables index.table) (λ table. index.column < length table.schema)
  pub area : index.area < 16
  pub rows : index.rows ≤ 1048575
  pub leaves : index.leaves ≤ sizes.index
  pub pages : index.pages ≤ sizes.index
  pub height : index.height < 2 ^ 8
  -- it has a level exactly where it has a page
  pub levels : (0 < index.height) ↔ (0 < index.pages)

-- no two of these indexes have one area
abbrev pub AreApart : List IndexEntry → Type 0
AreApart [] = ⊤
AreApart (index ∷ indexes) = AllByRecursion (λ other. other.area ≢ index.area) indexes × AreApart indexes

-- The catalogue of a store of these sizes.
pub record IsCatalogue (sizes : Sizes) (catalogue : Catalogue) : Type 0 where
  pub tables : AllByRecursion (IsTable sizes) catalogue.tables
  pub few_tables : length catalogue.tables ≤ 16
  pub indexes : AllByRecursion (IsIndex sizes catalogue.tables) catalogue.indexes
  pub few_indexes : length catalogue.indexes ≤ 16
  pub apart : AreApart catalogue.indexes

-- these bytes are those of this catalogue of a store of these sizes · they are those of none
pub record IsCatalogueOf (sizes : Sizes) (bytes : List ℕ) (catalogue : Catalogue) : Type 0 where
  pub form : IsCatalogue sizes catalogue
  pub stands : bytes ≡ catalogue_bytes catalogue

abbrev pub IsNoCatalogue : Sizes → List ℕ → Type 0
IsNoCatalogue sizes bytes = (catalogue : Catalogue) → IsCatalogueOf sizes bytes catalogue → ⊥

-- a catalogue of a store of some sizes
abbrev pub IsOfStore : Catalogue → Type 0
IsOfStore catalogue = (sizes : Sizes) × IsCatalogue sizes catalogue
