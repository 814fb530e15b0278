-- The parts of a catalogue, read from the front of bytes.
use Rattle.std.specs.Prelude.{◌≡◌, ℕ, List, [], ◌∷◌, length, slice_get, Option, Some, None, Result, Bool, true, false, not, ◌&&◌, ◌==◌, nat_lt, if◌then◌else◌}
use Rattle.std.specs.List.{list_any}
use Rattle.page_store.specs.declared.pages.Sizes.{Sizes}
use Rattle.part_codec.specs.Format.{FormatValue, Part, byte_part, format_at, number_part}
use Rattle.part_codec.specs.Reading.{Reader, byte_at, chained, counted, mapped, unsigned_at, paired, short_text_at, tested, entire}
use Rattle.qsr_value.specs.Columns.{width_of}
use Rattle.qsr_value.specs.declared.kind.ColKind.{ColKind}
use Rattle.qsr_value.specs.declared.kind.ColKind.TheVariants.{Int, Text}
use Rattle.qsr_value.specs.declared.schema.Column.{Column}
use Rattle.table_file.specs.declared.catalogue.Catalogue.{Catalogue}
use Rattle.table_file.specs.declared.entries.IndexEntry.{IndexEntry}
use Rattle.table_file.specs.declared.entries.TableEntry.{TableEntry}

unfoldable pub name_at : Reader (List ℕ)
name_at = short_text_at 1 16

-- the greatest length behind the kind of a column, which is 0 for numbers
abbrev pub max_at : ℕ → Reader ℕ
max_at kind = if kind == 0 then unsigned_at 2 0 0 else unsigned_at 2 1 998

abbrev pub stored_kind_of : ℕ × ℕ → ColKind
stored_kind_of p = if p.0 == 0 then Int else Text p.1

unfoldable pub kind_at : Reader ColKind
kind_at = mapped stored_kind_of (chained (byte_at 0 1) max_at)

unfoldable pub column_at : Reader Column
column_at = mapped (λ p. record { name = p.0; kind = p.1 }) (paired name_at kind_at)

unfoldable pub schema_at : Reader (List Column)
schema_at = tested (λ columns. not (nat_lt 1000 (width_of columns))) (counted 1 16 column_at)

unfoldable pub table_at : Sizes → Reader TableEntry
table_at sizes = mapped (λ p. record { name = p.0; schema = p.1.0; rows = p.1.1.0; pages = p.1.1.1.0; end = p.1.1.1.1 })
    (paired name_at (paired schema_at (paired (unsigned_at 4 0 1048575) (paired (unsigned_at 4 0 sizes.table) (unsigned_at 2 0 4096)))))

-- an index whatever its table, as the list of its parts
abbrev pub entry_parts : Sizes → List Part
entry_parts sizes =
    byte_part 0 255 ∷ byte_part 0 255 ∷ byte_part 0 15
    ∷ number_part 4 0 1048575 ∷ number_part 4 0 sizes.index ∷ number_part 4 0 sizes.index ∷ byte_part 0 255 ∷ []

abbrev pub entry_of_value : (sizes : Sizes) → FormatValue (entry_parts sizes) → IndexEntry
entry_of_value sizes = λ p. record { table = p.0; column = p.1.0; area = p.1.1.0; rows = p.1.1.1.0; leaves = p.1.1.1.1.0; pages = p.1.1.1.1.1.0; height = p.1.1.1.1.1.1.0 }

unfoldable pub entry_at : Sizes → Reader IndexEntry
entry_at sizes = mapped (entry_of_value sizes) (format_at (entry_parts sizes))

-- a table has a column · an index is of one of these tables, and has a level exactly where it has a page
abbrev pub has_column : ℕ → Option TableEntry → Bool
has_column column None = false
has_column column (Some table) = nat_lt column (length table.schema)

abbrev pub is_same : Bool → Bool → Bool
is_same true b = b
is_same false b = not b

abbrev pub is_index_of : List TableEntry → IndexEntry → Bool
is_index_of tables index = has_column index.column (slice_get tables index.table) && is_same (nat_lt 0 index.height) (nat_lt 0 index.pages)

unfoldable pub index_at : Sizes → List TableEntry → Reader IndexEntry
index_at sizes tables = tested (is_index_of tables) (entry_at sizes)

-- one of these indexes has an area · no two have one
abbrev pub has_area : ℕ → List IndexEntry → Bool
has_area area indexes = list_any (λ index. index.area == area) indexes

abbrev pub are_apart : List IndexEntry → Bool
are_apart [] = true
are_apart (index ∷ indexes) = not (has_area index.area indexes) && are_apart indexes

unfoldable pub indexes_at : Sizes → List TableEntry → Reader (List IndexEntry)
indexes_at sizes tables = tested are_apart (counted 0 16 (index_at sizes tables))

unfoldable pub tables_at : Sizes → Reader (List TableEntry)
tables_at sizes = counted 0 16 (table_at sizes)

unfoldable pub catalogue_at : Sizes → Reader Catalogue
catalogue_at sizes = mapped (λ p. record { tables = p.0; indexes = p.1 }) (chained (tables_at sizes) (indexes_at sizes))

-- all of the bytes
unfoldable pub all_of : Sizes → List ℕ → Result Catalogue ℕ
all_of sizes = entire (catalogue_at sizes)
