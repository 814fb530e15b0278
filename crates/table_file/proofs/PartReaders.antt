-- Each part of a catalogue is read from its bytes, and only from them.
use Rattle.std.proofs.Common.{◌≡◌, ℕ, zero, suc, ◌^◌, ◌<◌, ◌≤◌, Bool, true, false, cond, not, ltb, eqb, ◌&&◌, List, [], ◌∷◌, ◌++◌, length, refl, sym, ap, subst, ◌∙◌, arith}
use Rattle.std.specs.Prelude.{◌↔◌, ◌≢◌, IfSome, slice_get}
use Rattle.std.specs.List.{flat_map, AllByRecursion}
use Rattle.std.proofs.lemmas.Bool.{eqb-false, le-ltb, lt-ltb, ltb-false, ltb-true, ne_eqb}
use Rattle.byteorder.specs.Endian.{little_bytes}
use Rattle.page_store.specs.declared.pages.Sizes.{Sizes}
use Rattle.qsr_value.specs.Columns.{width_of}
use Rattle.qsr_value.specs.declared.kind.ColKind.{ColKind}
use Rattle.qsr_value.specs.declared.kind.ColKind.TheVariants.{Int, Wide, Text}
use Rattle.qsr_value.specs.declared.schema.Column.{Column}
use Rattle.table_file.specs.declared.entries.IndexEntry.{IndexEntry}
use Rattle.table_file.specs.declared.entries.TableEntry.{TableEntry}
use Rattle.table_file.specs.CatalogueBytes.{AreApart, AreWords, IsColumn, IsIndex, IsName, IsSchema, IsStoredKind, IsTable, column_bytes, columns_bytes, index_bytes, kind_bytes, name_bytes, table_bytes}
use Rattle.table_file.specs.Reading.{are_apart, column_at, entry_at, entry_of_value, entry_parts, has_area, has_column, index_at, is_index_of, is_same, kind_at, stored_kind_of, max_at, name_at, schema_at, table_at, tables_at}
use Rattle.part_codec.specs.Format.{FormatValue}
use Rattle.part_codec.specs.Reading.{unsigned_at}
use Rattle.part_codec.proofs.Formats.{format_reads}
use Rattle.part_codec.proofs.Numbers.{number_reads, short_text_reads}
use Rattle.part_codec.proofs.Parts.{or_false}
use Rattle.part_codec.proofs.Readers.{IsCounted, IsReader, byte_reads, chained_reads, counted_reads, mapped_reads, said, tested_reads}

-- ---- columns

pub name_reads : IsReader name_at name_bytes IsName
unfolding name_at name_bytes
name_reads =
    said IsName (short_text_reads 1 16)
    (λ name is. record { some = is.0.0; most = is.0.1; text = is.1 })
    (λ name is. ((is.some, is.most), is.text))

-- the greatest length behind a kind
abbrev IsMax : ℕ → ℕ → Type 0
IsMax zero max = max ≡ 0
IsMax (suc kind) max = (1 ≤ max) × (max ≤ 998)

max_reads : (kind : ℕ) → IsReader (max_at kind) (little_bytes 2) (IsMax kind)
max_reads zero = said (IsMax 0) (number_reads 2 0 0 (omega arith)) (λ n is. let high = is.1 in omega (arith, high)) (λ n is. (omega (arith, is), omega (arith, is)))
max_reads (suc kind) =
    let text : eqb (suc kind) 0 ≡ false = ne_eqb (suc kind) 0 (λ h. omega (arith, h)) in
    subst (λ b. IsReader (cond b (unsigned_at 2 0 0) (unsigned_at 2 1 998)) (little_bytes 2) (IsMax (suc kind))) (sym text) (number_reads 2 1 998 (omega arith))

kind_there : (kind max : ℕ) → kind ≤ 1 → IsMax kind max → IsStoredKind (stored_kind_of (kind, max)) × (kind ∷ little_bytes 2 max ≡ kind_bytes (stored_kind_of (kind, max)))
unfolding kind_bytes
kind_there zero max le is = (tt, ap (λ n. 0 ∷ little_bytes 2 n) is)
kind_there (suc zero) max le is = (is, refl)
kind_there (suc (suc kind)) max le is = absurd (omega arith)

abbrev kind_back : ColKind → ℕ × ℕ
kind_back Int = (0, 0)
kind_back Wide = (0, 0)
kind_back (Text max) = (1, max)

kind_again : (kind : ColKind) → IsStoredKind kind
    → (((0 ≤ (kind_back kind).0) × ((kind_back kind).0 ≤ 1)) × IsMax (kind_back kind).0 (kind_back kind).1) × (stored_kind_of (kind_back kind) ≡ kind) × (kind_bytes kind ≡ ((kind_back kind).0 ∷ []) ++ little_bytes 2 (kind_back kind).1)
unfolding kind_bytes
kind_again Int is = (((omega arith, omega arith), refl), refl, refl)
kind_again Wide is = absurd is
kind_again (Text max) is = (((omega arith, omega arith), is), refl, refl)

kind_reads : IsReader kind_at kind_bytes IsStoredKind
unfolding kind_at
kind_reads = mapped_reads stored_kind_of kind_back kind_bytes IsStoredKind (chained_reads (byte_reads 0 1) (λ kind _. max_reads kind)) (λ p is. kind_there p.0 p.1 is.0.1 is.1) kind_again

pub column_reads : IsReader column_at column_bytes IsColumn
unfolding column_at column_bytes
column_reads =
    mapped_reads (λ (p : List ℕ × ColKind). record { name = p.0; kind = p.1 }) (λ column. (column.name, column.kind)) (λ column. name_bytes column.name ++ kind_bytes column.kind) IsColumn
    (chained_reads name_reads (λ _ _. kind_reads))
    (λ p is. (record { name = is.0; kind = is.1 }, refl))
    (λ column is. ((is.name, is.kind), refl, refl))

not_true : (b : Bool) → not b ≡ true → b ≡ false
not_true true e = absurd cc
not_true false e = refl

not_above : (n : ℕ) → not (ltb 1000 n) ≡ true → n ≤ 1000
not_above n e = ltb-false 1000 n (not_true (ltb 1000 n) e)

pub schema_reads : IsReader schema_at columns_bytes IsSchema
unfolding schema_at columns_bytes
schema_reads =
    said IsSchema (tested_reads (λ columns. not (ltb 1000 (width_of columns))) (counted_reads 1 16 column_reads))
    (λ columns is. record { some = is.0.some; most = is.0.most; each = is.0.each; width = not_above (width_of columns) is.1 })
    (λ columns is. (record { some = is.some; most = is.most; each = is.each }, ap not (le-ltb 1000 (width_of columns) is.width)))

-- ---- tables

abbrev TableParts : Type 0
TableParts = List ℕ × (List Column × (ℕ × (ℕ × ℕ)))

abbrev table_made : TableParts → TableEntry
table_made p = record { name = p.0; schema = p.1.0; rows = p.1.1.0; pages = p.1.1.1.0; end = p.1.1.1.1 }

abbrev table_back : TableEntry → TableParts
table_back table = (table.name, (table.schema, (table.rows, (table.pages, table.end))))

pub table_reads : (sizes : Sizes) → AreWords sizes → IsReader (table_at sizes) table_bytes (IsTable sizes)
unfolding table_at table_bytes
table_reads sizes small =
    let table_most = small.table in
    mapped_reads table_made table_back table_bytes (IsTable sizes)
    (chained_reads name_reads (λ _ _. chained_reads schema_reads (λ _ _. chained_reads (number_reads 4 0 1048575 (omega arith)) (λ _ _. chained_reads (number_reads 4 0 sizes.table (omega (arith, table_most))) (λ _ _. number_reads 2 0 4096 (omega arith))))))
    (λ p is. (record { name = is.0; schema = is.1.0; rows = is.1.1.0.1; pages = is.1.1.1.0.1; end = is.1.1.1.1.1 }, refl))
    (λ table is. ((is.name, (is.schema, ((omega arith, is.rows), ((omega arith, is.pages), (omega arith, is.end))))), refl, refl))

pub tables_reads : (sizes : Sizes) → AreWords sizes → IsReader (tables_at sizes) (λ tables. length tables ∷ flat_map table_bytes tables) (IsCounted (IsTable sizes) 0 16)
unfolding tables_at
tables_reads sizes small = counted_reads 0 16 (table_reads sizes small)

-- ---- indexes

abbrev entry_back : (sizes : Sizes) → IndexEntry → FormatValue (entry_parts sizes)
entry_back sizes = λ index. (index.table, (index.column, (index.area, (index.rows, (index.leaves, (index.pages, (index.height, tt)))))))

-- what is within the limits, whatever its table
record IsEntry (sizes : Sizes) (index : IndexEntry) : Type 0 where
  table : index.table ≤ 255
  column : index.column ≤ 255
  area : index.area ≤ 15
  rows : index.rows ≤ 1048575
  leaves : index.leaves ≤ sizes.index
  pages : index.pages ≤ sizes.index
  height : index.height ≤ 255

entry_reads : (sizes : Sizes) → AreWords sizes → IsReader (entry_at sizes) index_bytes (IsEntry sizes)
unfolding entry_at index_bytes
entry_reads sizes small =
    let index_most = small.index in
    let pages : sizes.index < 256 ^ 4 = omega (arith, index_most) in
    mapped_reads (entry_of_value sizes) (entry_back sizes) index_bytes (IsEntry sizes) (format_reads (entry_parts sizes) (tt, (tt, (tt, (omega arith, (pages, (pages, (tt, tt))))))))
    (λ p is. (record { table = is.0.1; column = is.1.0.1; area = is.1.1.0.1; rows = is.1.1.1.0.1; leaves = is.1.1.1.1.0.1; pages = is.1.1.1.1.1.0.1; height = is.1.1.1.1.1.1.0.1 }, refl))
    (λ index is. (((omega arith, is.table), ((omega arith, is.column), ((omega arith, is.area), ((omega arith, is.rows), ((omega arith, is.leaves), ((omega arith, is.pages), ((omega arith, is.height), tt))))))), refl, refl))

both_true : (a b : Bool) → (a && b) ≡ true → (a ≡ true) × (b ≡ true)
both_true true b e = (refl, e)
both_true false b e = absurd cc

there_too : (tables : List TableEntry) (number column : ℕ) → has_column column (slice_get tables number) ≡ true
    → (number < length tables) × IfSome (slice_get tables number) (λ table. column < length table.schema)
there_too [] number column e = absurd cc
there_too (table ∷ tables) zero column e = (omega arith, ltb-true column (length table.schema) e)
there_too (table ∷ tables) (suc number) column e = let rest = there_too tables number column e in let within = rest.0 in (omega (arith, within), rest.1)

is_there : (tables : List TableEntry) (number column : ℕ) → number < length tables → IfSome (slice_get tables number) (λ table. column < length table.schema)
    → has_column column (slice_get tables number) ≡ true
is_there [] number column within is = absurd (omega (arith, within))
is_there (table ∷ tables) zero column within is = lt-ltb column (length table.schema) is
is_there (table ∷ tables) (suc number) column within is = is_there tables number column (omega (arith, within)) is

same_so : (m n : ℕ) (b d : Bool) → ltb 0 m ≡ b → ltb 0 n ≡ d → is_same b d ≡ true → (0 < m) ↔ (0 < n)
same_so m n true d m_is n_is e = (λ _. ltb-true 0 n (n_is ∙ e), λ _. ltb-true 0 m m_is)
same_so m n false true m_is n_is e = absurd cc
same_so m n false false m_is n_is e =
    let m_none = ltb-false 0 m m_is in
    let n_none = ltb-false 0 n n_is in
    (λ some. absurd (omega (arith, m_none, some)), λ some. absurd (omega (arith, n_none, some)))

so_same : (m n : ℕ) (b d : Bool) → ltb 0 m ≡ b → ltb 0 n ≡ d → ((0 < m) ↔ (0 < n)) → is_same b d ≡ true
so_same m n true d m_is n_is both = sym n_is ∙ lt-ltb 0 n (both.0 (ltb-true 0 m m_is))
so_same m n false true m_is n_is both = absurd (let m_none = ltb-false 0 m m_is in let m_some = both.1 (ltb-true 0 n n_is) in omega (arith, m_none, m_some))
so_same m n false false m_is n_is both = refl

-- no table has more columns than a byte counts
few_columns : (sizes : Sizes) (tables : List TableEntry) (number column : ℕ) → AllByRecursion (IsTable sizes) tables → number < length tables
    → IfSome (slice_get tables number) (λ table. column < length table.schema) → column ≤ 255
few_columns sizes [] number column are within is = absurd (omega (arith, within))
few_columns sizes (table ∷ tables) zero column are within is = let most = are.0.schema.most in omega (arith, most, is)
few_columns sizes (table ∷ tables) (suc number) column are within is = few_columns sizes tables number column are.1 (omega (arith, within)) is

pub index_reads : (sizes : Sizes) (tables : List TableEntry) → AreWords sizes → length tables ≤ 16 → AllByRecursion (IsTable sizes) tables → IsReader (index_at sizes tables) index_bytes (IsIndex sizes tables)
unfolding index_at
index_reads sizes tables small few are =
    said (IsIndex sizes tables) (tested_reads (is_index_of tables) (entry_reads sizes small))
    (λ index is.
    let parts = both_true (has_column index.column (slice_get tables index.table)) (is_same (ltb 0 index.height) (ltb 0 index.pages)) is.1 in
    let there = there_too tables index.table index.column parts.0 in
    let area = is.0.area in
    let height = is.0.height in
    record {
      table = there.0;
      column = there.1;
      area = omega (arith, area);
      rows = is.0.rows;
      leaves = is.0.leaves;
      pages = is.0.pages;
      height = omega (arith, height);
      levels = same_so index.height index.pages (ltb 0 index.height) (ltb 0 index.pages) refl refl parts.1;
    })
    (λ index is.
    let table = is.table in
    let area = is.area in
    let height = is.height in (
      record {
        table = omega (arith, table, few);
        column = few_columns sizes tables index.table index.column are is.table is.column;
        area = omega (arith, area);
        rows = is.rows;
        leaves = is.leaves;
        pages = is.pages;
        height = omega (arith, height);
      },
      rw (is_there tables index.table index.column is.table is.column) (so_same index.height index.pages (ltb 0 index.height) (ltb 0 index.pages) refl refl is.levels),
    ))

not_it : (index : IndexEntry) (indexes : List IndexEntry) → has_area index.area indexes ≡ false → AllByRecursion (λ other. other.area ≢ index.area) indexes
not_it index [] e = tt
not_it index (other ∷ indexes) e =
    let parts = or_false (eqb other.area index.area) (has_area index.area indexes) e in
    (eqb-false other.area index.area parts.0, not_it index indexes parts.1)

has_not : (index : IndexEntry) (indexes : List IndexEntry) → AllByRecursion (λ other. other.area ≢ index.area) indexes → has_area index.area indexes ≡ false
has_not index [] are = refl
has_not index (other ∷ indexes) are = rw (ne_eqb other.area index.area are.0) (has_not index indexes are.1)

pub apart_so : (indexes : List IndexEntry) → are_apart indexes ≡ true → AreApart indexes
apart_so [] e = tt
apart_so (index ∷ indexes) e =
    let parts = both_true (not (has_area index.area indexes)) (are_apart indexes) e in
    (not_it index indexes (not_true (has_area index.area indexes) parts.0), apart_so indexes parts.1)

pub so_apart : (indexes : List IndexEntry) → AreApart indexes → are_apart indexes ≡ true
so_apart [] are = refl
so_apart (index ∷ indexes) are = rw (has_not index indexes are.0) (so_apart indexes are.1)
