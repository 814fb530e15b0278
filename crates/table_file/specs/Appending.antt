-- How rows are added to a table, before the catalogue tells of them.
use Rattle.std.specs.Prelude.{◌≡◌, ℕ, ◌+◌, ◌-◌, ◌*◌, ◌≤◌, Bool, true, false, ◌||◌, ◌&&◌, ◌==◌, nat_lt, nat_le, if◌then◌else◌, List, length, take, drop, slice_get, Some}
use Rattle.page_store.specs.Store.{AreaHolds, Contents}
use Rattle.page_store.specs.declared.pages.Sizes.{Sizes}
use Rattle.qsr_value.specs.Encoding.{encoded_row}
use Rattle.qsr_value.specs.declared.row.Value.{Value}
use Rattle.qsr_value.specs.declared.schema.Column.{Column}
use Rattle.row_page.specs.Framed.{rows_bytes}
use Rattle.row_page.specs.Pages.{last_end}
use Rattle.table_file.specs.Tables.{FullStand, Table, Tables, table_pages, table_part}
use Rattle.table_file.specs.declared.entries.TableEntry.{TableEntry}
use Rattle.table_file.specs.declared.fault.TableFault.{TableFault}
use Rattle.table_file.specs.declared.fault.TableFault.TheVariants.{Exists, CatalogFull, RowTooWide, NoTable, BadField, TableFull, NotStore, Failed, Memory}
use Rattle.table_file.specs.declared.writer.TableWriter.{TableWriter}

-- the byte of the area behind all that was written
abbrev pub written_to : TableWriter → ℕ
written_to w = 4096 * w.page + w.written

-- The table has these rows, those that were added among them, as far as the writer counts.
pub record HasCounted (columns : List Column) (rows : List (List Value)) (w : TableWriter) : Type 0 where
  pub count : w.rows ≡ length rows
  pub page : w.page ≡ length (table_pages columns rows).full
  pub end : w.end ≡ last_end (encoded_row columns) (table_pages columns rows)

-- And all of them stand in its area, but for the last bytes, which are held back.
pub record HasAdded (columns : List Column) (rows : List (List Value)) (w : TableWriter) (m : Contents) : Type 0 where
  pub counted : HasCounted columns rows w
  pub full : FullStand columns (table_part w.table) 0 (table_pages columns rows).full m
  pub written : AreaHolds (table_part w.table) (4096 * w.page) (take w.written (rows_bytes (encoded_row columns) (table_pages columns rows).last)) m
  pub held : drop w.written (rows_bytes (encoded_row columns) (table_pages columns rows).last) ≡ take (w.end - w.written) (drop w.written w.bytes)

-- where the rows of a table end in its area
abbrev pub table_end : Table → ℕ
table_end table = 4096 * length (table_pages table.columns table.rows).full + last_end (encoded_row table.columns) (table_pages table.columns table.rows)

-- what will be written is behind the rows that the table has
abbrev pub IsBehind : Tables → TableWriter → Type 0
IsBehind s w = (table : Table) → slice_get s.tables w.table ≡ Some table → table_end table ≤ written_to w

-- the table has no room for a further row of so many bytes, its length among them
abbrev pub is_full : Sizes → TableWriter → ℕ → Bool
is_full sizes w bytes = (w.rows == 1048575) || (nat_lt 4096 (w.end + bytes) && nat_le sizes.table (w.page + 1))

-- Of a fault of a push: it is told that the table is full exactly where it is, or the disk failed.
abbrev pub IsPushFault : Bool → TableFault → Type 0
IsPushFault full TableFull = full ≡ true
IsPushFault full Failed = full ≡ false
IsPushFault full Exists = ⊥
IsPushFault full CatalogFull = ⊥
IsPushFault full (RowTooWide bytes) = ⊥
IsPushFault full NoTable = ⊥
IsPushFault full (BadField line column) = ⊥
IsPushFault full (NotStore page) = ⊥
IsPushFault full Memory = ⊥

-- what the catalogue says of a table, with other numbers
abbrev pub with_counts : TableEntry → ℕ → ℕ → ℕ → TableEntry
with_counts entry rows pages end = record {
  name = entry.name;
  schema = entry.schema;
  rows = rows;
  pages = pages;
  end = end;
}

-- what the catalogue is to say of a table with these rows
abbrev pub grown_entry : TableEntry → TableWriter → TableEntry
grown_entry entry w = with_counts entry w.rows (if w.end == 0 then w.page else w.page + 1) w.end
