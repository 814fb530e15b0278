-- How many bytes the body of a catalogue has at most.
use Rattle.std.proofs.Common.{◌≡◌, ℕ, ◌+◌, ◌*◌, ◌≤◌, List, [], ◌∷◌, ◌++◌, length, refl, ap, ◌∙◌, arith, length-append}
use Rattle.std.proofs.Math.Nat.{add_comm, mul-suc}
use Rattle.std.specs.List.{flat_map, AllByRecursion}
use Rattle.std.proofs.lemmas.List.Concat.{flat_map-cons}
use Rattle.byteorder.specs.Endian.{little_bytes}
use Rattle.qsr_value.specs.declared.kind.ColKind.{ColKind}
use Rattle.qsr_value.specs.declared.kind.ColKind.TheVariants.{Int, Wide, Text}
use Rattle.qsr_value.specs.declared.schema.Column.{Column}
use Rattle.page_store.specs.declared.pages.Sizes.{Sizes}
use Rattle.table_file.specs.declared.catalogue.Catalogue.{Catalogue}
use Rattle.table_file.specs.declared.entries.IndexEntry.{IndexEntry}
use Rattle.table_file.specs.declared.entries.TableEntry.{TableEntry}
use Rattle.table_file.specs.CatalogueBytes.{IsCatalogue, IsColumn, IsIndex, IsTable, column_bytes, columns_bytes, index_bytes, kind_bytes, name_bytes, table_bytes}

-- where no part has more than so many bytes
parts_most : {A : Type 0} (Is : A → Type 0) (encode : A → List ℕ) (most : ℕ) → ((a : A) → Is a → length (encode a) ≤ most) → (items : List A) → AllByRecursion Is items
    → length (flat_map encode items) ≤ most * length items
parts_most Is encode most each [] all = omega arith
parts_most Is encode most each (a ∷ items) all =
    let first = each a all.0 in
    let others = parts_most Is encode most each items all.1 in
    let long : length (flat_map encode (a ∷ items)) ≡ length (encode a) + length (flat_map encode items) = ap length (flat_map-cons encode a items) ∙ length-append (encode a) (flat_map encode items) in
    let next : most * length (a ∷ items) ≡ most + most * length items = mul-suc most (length items) ∙ add_comm (most * length items) most in
    omega (arith, first, others, long, next)

kind_most : (kind : ColKind) → length (kind_bytes kind) ≤ 3
unfolding kind_bytes
kind_most Int = omega arith
kind_most Wide = omega arith
kind_most (Text max) = omega arith

column_most : (column : Column) → IsColumn column → length (column_bytes column) ≤ 20
unfolding column_bytes name_bytes
column_most column is =
    let name = is.name.most in
    omega (arith, name, kind_most column.kind, length-append (name_bytes column.name) (kind_bytes column.kind))

table_most : (sizes : Sizes) (table : TableEntry) → IsTable sizes table → length (table_bytes table) ≤ 348
unfolding table_bytes columns_bytes name_bytes
table_most sizes table is =
    let name = is.name.most in
    let count = is.schema.most in
    let columns = parts_most IsColumn column_bytes 20 column_most table.schema is.schema.each in
    let end : List ℕ = little_bytes 4 table.rows ++ (little_bytes 4 table.pages ++ little_bytes 2 table.end) in
    let ten : length end ≡ 10 = refl in
    omega (arith, name, count, columns, ten, length-append (name_bytes table.name) (columns_bytes table.schema ++ end), length-append (columns_bytes table.schema) end)

pub index_count : (index : IndexEntry) → length (index_bytes index) ≡ 16
unfolding index_bytes
index_count index = refl

pub catalogue_most : (sizes : Sizes) (catalogue : Catalogue) → IsCatalogue sizes catalogue
    → (length (flat_map table_bytes catalogue.tables) ≤ 5568) × (length (flat_map index_bytes catalogue.indexes) ≤ 256)
catalogue_most sizes catalogue is =
    let few_tables = is.few_tables in
    let few_indexes = is.few_indexes in
    let tables = parts_most (IsTable sizes) table_bytes 348 (table_most sizes) catalogue.tables is.tables in
    let indexes = parts_most (IsIndex sizes catalogue.tables) index_bytes 16 (λ index _. omega (arith, index_count index)) catalogue.indexes is.indexes in
    (omega (arith, few_tables, tables), omega (arith, few_indexes, indexes))
