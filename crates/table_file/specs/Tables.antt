-- Tables, and how they stand in a store.
use Rattle.std.specs.Prelude.{◌≡◌, ◌≢◌, ℕ, suc, ◌+◌, ◌*◌, ◌<◌, ◌≤◌, not, ◌==◌, if◌then◌else◌, List, [], ◌∷◌, ◌++◌, length, map, filter, slice_get, slice_index_or, slice_set, Option, Some, None, ⊤}
use Rattle.std.specs.List.{AllByRecursion}
use Rattle.std.specs.Option.{option_map}
use Rattle.page_store.specs.Store.{AreaHolds, Contents}
use Rattle.page_store.specs.declared.pages.Sizes.{Sizes}
use Rattle.qsr_value.specs.Names.{same_name}
use Rattle.qsr_value.specs.Encoding.{encoded_row}
use Rattle.qsr_value.specs.Values.{AreTexts, Fits}
use Rattle.qsr_value.specs.declared.row.Value.{Value}
use Rattle.qsr_value.specs.declared.schema.Column.{Column}
use Rattle.row_page.specs.Framed.{rows_bytes}
use Rattle.row_page.specs.Pages.{Pages, ended, last_end, page_count, pages_of_rows}
use Rattle.table_file.specs.CatalogueBytes.{IsCatalogue, catalogue_bytes}
use Rattle.table_file.specs.declared.entries.TableEntry.{TableEntry}
use Rattle.table_file.specs.declared.entries.IndexEntry.{IndexEntry}
use Rattle.table_file.specs.declared.catalogue.Catalogue.{Catalogue}

-- A table: its name, its columns, and its rows in order.
pub record Table : Type 0 where
  pub name : List ℕ
  pub columns : List Column
  pub rows : List (List Value)

-- The tables of a store in order, and what the catalogue says of its indexes.
pub record Tables : Type 0 where
  pub tables : List Table
  pub indexes : List IndexEntry

abbrev pub no_tables : Tables
no_tables = record { tables = []; indexes = [] }

-- the pages that the rows of a table take
abbrev pub table_pages : List Column → List (List Value) → Pages (List Value)
table_pages columns rows = pages_of_rows (encoded_row columns) 4096 rows

-- what the catalogue says of a table
unfoldable pub entry_of : Table → TableEntry
entry_of table = record {
  name = table.name;
  schema = table.columns;
  rows = length table.rows;
  pages = page_count (table_pages table.columns table.rows);
  end = last_end (encoded_row table.columns) (table_pages table.columns table.rows);
}

-- the catalogue that says all this
unfoldable pub catalogue_of : Tables → Catalogue
catalogue_of s = record { tables = map entry_of s.tables; indexes = s.indexes }

-- each row is one of these columns
abbrev pub AreRows : List Column → List (List Value) → Type 0
AreRows columns rows = AllByRecursion (λ row. Fits columns row × AreTexts row) rows

-- Tables that a store of these sizes may have: within the limits, and each row one of its table's columns.
pub record AreTables (sizes : Sizes) (s : Tables) : Type 0 where
  pub catalogue : IsCatalogue sizes (catalogue_of s)
  pub rows : AllByRecursion (λ table. AreRows table.columns table.rows) s.tables

-- the part of a store that is the area of a table
abbrev pub table_part : ℕ → ℕ
table_part table = 3 + table

-- pages that are each followed by another stand in an area from this page on, and none goes over its end
abbrev pub FullStand : List Column → ℕ → ℕ → List (List (List Value)) → Contents → Type 0
FullStand columns part at [] m = ⊤
FullStand columns part at (page ∷ pages) m =
    AreaHolds part (4096 * at) (ended 4096 (rows_bytes (encoded_row columns) page)) m × FullStand columns part (at + 1) pages m
    × (length (rows_bytes (encoded_row columns) page) ≤ 4096)

-- The pages of a table stand in its area, from its first page on.
pub record PagesStand (columns : List Column) (part : ℕ) (pages : Pages (List Value)) (m : Contents) : Type 0 where
  pub full : FullStand columns part 0 pages.full m
  pub last : AreaHolds part (4096 * length pages.full) (rows_bytes (encoded_row columns) pages.last) m

-- the rows of a table stand in the area of the table of this number
abbrev pub RowsStand : ℕ → List Column → List (List Value) → Contents → Type 0
RowsStand number columns rows m = PagesStand columns (table_part number) (table_pages columns rows) m

-- What a store holds: its catalogue says of these tables what is to be said, and their rows stand in their areas.
pub record HasTables (s : Tables) (m : Contents) : Type 0 where
  pub catalogue : m.body 0 ≡ Some (catalogue_bytes (catalogue_of s))
  pub rows : (number : ℕ) (table : Table) → slice_get s.tables number ≡ Some table → RowsStand number table.columns table.rows m

-- the place of the first of these names that is this one
abbrev pub place_of : List ℕ → List (List ℕ) → Option ℕ
place_of name [] = None
place_of name (other ∷ others) = if same_name other name then Some 0 else option_map suc (place_of name others)

-- the names of the tables · the table of a name: its number and what it is, the first where several have the name
abbrev pub names_of : Tables → List (List ℕ)
names_of s = map (λ table. table.name) s.tables

pub record IsTableOf (s : Tables) (name : List ℕ) (number : ℕ) (table : Table) : Type 0 where
  pub place : place_of name (names_of s) ≡ Some number
  pub there : slice_get s.tables number ≡ Some table

-- the rows on a page of a table, none behind the last page
abbrev pub page_at : Pages (List Value) → ℕ → List (List Value)
page_at pages page = slice_index_or (pages.full ++ pages.last ∷ []) page []

-- one more table, which has no rows
abbrev pub with_table : Tables → List ℕ → List Column → Tables
with_table s name columns = record { tables = s.tables ++ record { name = name; columns = columns; rows = [] } ∷ []; indexes = s.indexes }

-- more rows behind those of a table; indexes of the table are dropped
abbrev pub grown : Table → List (List Value) → Table
grown table rows = record { name = table.name; columns = table.columns; rows = table.rows ++ rows }

abbrev pub of_others : ℕ → List IndexEntry → List IndexEntry
of_others number indexes = filter (λ index. not (index.table == number)) indexes

abbrev pub with_rows : Tables → ℕ → Table → List (List Value) → Tables
with_rows s number table rows = record { tables = slice_set s.tables number (grown table rows); indexes = of_others number s.indexes }

-- A store has the tables with these rows more behind those of the table of a name.
pub record HasAppended (s : Tables) (name : List ℕ) (rows : List (List Value)) (m : Contents) : Type 0 where
  pub number : ℕ
  pub table : Table
  pub is : IsTableOf s name number table
  pub tables : HasTables (with_rows s number table rows) m

-- Of a store only the area of a table is written, and of that only bytes from this one on.
pub record AreaGrows (part at : ℕ) (old new : Contents) : Type 0 where
  pub head : new.head ≡ old.head
  pub bodies : new.body ≡ old.body
  pub others : (other : ℕ) → other ≢ part → new.area other ≡ old.area other
  pub below : (i : ℕ) → i < at → new.area part i ≡ old.area part i

-- Of a store only the catalogue and the areas of tables are changed.
pub record OnlyTables (old new : Contents) : Type 0 where
  pub head : new.head ≡ old.head
  pub bodies : (twin : ℕ) → twin ≢ 0 → new.body twin ≡ old.body twin
  pub areas : (part : ℕ) → table_part 16 ≤ part → new.area part ≡ old.area part
