-- A catalogue is read from its bytes, and only from them, and no two have the same bytes.
use Rattle.std.proofs.Common.{◌≡◌, ℕ, ◌-◌, ◌^◌, ◌≤◌, List, [], ◌∷◌, ◌++◌, length, Result, Ok, Err, refl, ap, arith}
use Rattle.std.specs.List.{flat_map, AllByRecursion}
use Rattle.page_store.specs.declared.pages.Sizes.{Sizes}
use Rattle.table_file.specs.declared.catalogue.Catalogue.{Catalogue}
use Rattle.table_file.specs.declared.entries.IndexEntry.{IndexEntry}
use Rattle.table_file.specs.declared.entries.TableEntry.{TableEntry}
use Rattle.table_file.specs.CatalogueBytes.{AreApart, AreWords, IsCatalogue, IsCatalogueOf, IsIndex, IsNoCatalogue, IsTable, catalogue_bytes, index_bytes}
use Rattle.table_file.specs.Reading.{all_of, are_apart, catalogue_at, indexes_at}
use Rattle.table_file.proofs.PartReaders.{apart_so, index_reads, so_apart, tables_reads}
use Rattle.part_codec.proofs.Readers.{IsCounted, IsReader, chained_reads, counted_reads, mapped_reads, only_one, said, tested_reads, whole_is, whole_none}
use Rattle.qsr_value.proofs.Numbers.{AreBytes}

-- what indexes are in a store of these sizes with these tables
record AreIndexes (sizes : Sizes) (tables : List TableEntry) (indexes : List IndexEntry) : Type 0 where
  each : AllByRecursion (IsIndex sizes tables) indexes
  few : length indexes ≤ 16
  apart : AreApart indexes

indexes_reads : (sizes : Sizes) (tables : List TableEntry) → AreWords sizes → IsCounted (IsTable sizes) 0 16 tables
    → IsReader (indexes_at sizes tables) (λ indexes. length indexes ∷ flat_map index_bytes indexes) (AreIndexes sizes tables)
unfolding indexes_at
indexes_reads sizes tables words are =
    said (AreIndexes sizes tables) (tested_reads are_apart (counted_reads 0 16 (index_reads sizes tables words are.most are.each)))
    (λ indexes is. record { each = is.0.each; few = is.0.most; apart = apart_so indexes is.1 })
    (λ indexes is. (record { some = omega arith; most = is.few; each = is.each }, so_apart indexes is.apart))

catalogue_reads : (sizes : Sizes) → AreWords sizes → IsReader (catalogue_at sizes) catalogue_bytes (IsCatalogue sizes)
unfolding catalogue_at catalogue_bytes
catalogue_reads sizes words =
    mapped_reads (λ (p : List TableEntry × List IndexEntry). record { tables = p.0; indexes = p.1 }) (λ c. (c.tables, c.indexes)) catalogue_bytes (IsCatalogue sizes)
    (chained_reads (tables_reads sizes words) (λ tables are. indexes_reads sizes tables words are))
    (λ p is. (record { tables = is.0.each; few_tables = is.0.most; indexes = is.1.each; few_indexes = is.1.few; apart = is.1.apart }, refl))
    (λ c is. ((record { some = omega arith; most = is.few_tables; each = is.tables }, record { each = is.indexes; few = is.few_indexes; apart = is.apart }), refl, refl))

-- what is read as a catalogue is one, and each is read
pub is_read : (sizes : Sizes) (bytes : List ℕ) (catalogue : Catalogue) → AreWords sizes → AreBytes bytes → all_of sizes bytes ≡ Ok catalogue → IsCatalogueOf sizes bytes catalogue
unfolding all_of
is_read sizes bytes catalogue words are e = let found = whole_is (catalogue_reads sizes words) bytes catalogue are e in record { form = found.0; stands = found.1 }

pub is_none : (sizes : Sizes) (bytes : List ℕ) (left : ℕ) → AreWords sizes → all_of sizes bytes ≡ Err left → IsNoCatalogue sizes bytes
unfolding all_of
is_none sizes bytes left words e catalogue is = whole_none (catalogue_reads sizes words) bytes left e catalogue is.form is.stands

-- ---- no two have the same bytes

all_weaker : {A : Type 0} {P Q : A → Type 0} (items : List A) → ((a : A) → P a → Q a) → AllByRecursion P items → AllByRecursion Q items
all_weaker [] f all = tt
all_weaker (a ∷ items) f all = (f a all.0, all_weaker items f all.1)

abbrev largest : Sizes
largest = record { table = 2 ^ 32 - 1; index = 2 ^ 32 - 1; out = 0; image = 0; spill = 0 }

of_largest : (sizes : Sizes) (catalogue : Catalogue) → AreWords sizes → IsCatalogue sizes catalogue → IsCatalogue largest catalogue
of_largest sizes catalogue words is =
    let table_most = words.table in
    let index_most = words.index in
    record {
      tables = all_weaker {P = IsTable sizes} {Q = IsTable largest} catalogue.tables
          (λ table t. let pages = t.pages in record { name = t.name; schema = t.schema; rows = t.rows; pages = omega (arith, pages, table_most); end = t.end }) is.tables;
      few_tables = is.few_tables;
      indexes = all_weaker {P = IsIndex sizes catalogue.tables} {Q = IsIndex largest catalogue.tables} catalogue.indexes
          (λ index i. let leaves = i.leaves in let pages = i.pages in
          record { table = i.table; column = i.column; area = i.area; rows = i.rows; leaves = omega (arith, leaves, index_most); pages = omega (arith, pages, index_most); height = i.height; levels = i.levels }) is.indexes;
      few_indexes = is.few_indexes;
      apart = is.apart;
    }

pub are_exact : (sizes others : Sizes) (catalogue other : Catalogue) → AreWords sizes → AreWords others → IsCatalogue sizes catalogue → IsCatalogue others other
    → catalogue_bytes catalogue ≡ catalogue_bytes other → catalogue ≡ other
are_exact sizes others catalogue other words other_words is other_is same =
    let reader = catalogue_reads largest (record { table = omega arith; index = omega arith }) in
    (only_one reader catalogue other [] [] (of_largest sizes catalogue words is) (of_largest others other other_words other_is) (ap (λ t. t ++ []) same)).0
