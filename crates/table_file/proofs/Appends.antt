-- Rows behind those of the table of a name.
use Rattle.std.proofs.Common.{◌≡◌, ◌⊎◌, ℕ, ◌<◌, false, nat_lt, List, [], ◌∷◌, ◌++◌, length, map, slice_get, Option, Some, None, inl, inr, refl, sym, ap, ◌∙◌, arith, subst}
use Rattle.std.proofs.lemmas.Bool.{le-ltb, or_from}
use Rattle.std.proofs.lemmas.List.{length-map}
use Rattle.std.proofs.lemmas.Option.{slice_get-map, slice_get_cases, slice_get_within}
use Rattle.std.specs.Option.{option_map}
use Rattle.disk_model.specs.View.{EachImage, LeavesOnly, View}
use Rattle.disk_model.proofs.Runs.{and_then, weaker_run}
use Rattle.page_store.specs.Store.{Contents}
use Rattle.page_store.specs.declared.pages.Sizes.{Sizes}
use Rattle.qsr_value.specs.declared.row.Value.{Value}
use Rattle.qsr_value.specs.declared.schema.Column.{Column}
use Rattle.row_page.specs.Pages.{page_count}
use Rattle.table_file.specs.CatalogueBytes.{IsCatalogue, IsTable}
use Rattle.table_file.specs.Refusals.{exceeds, table_names}
use Rattle.table_file.specs.Tables.{HasAppended, HasTables, IsTableOf, Table, Tables, catalogue_of, entry_of, grown, names_of, place_of, table_pages, with_rows}
use Rattle.table_file.specs.declared.catalogue.Catalogue.{Catalogue}
use Rattle.table_file.specs.declared.entries.TableEntry.{TableEntry}
use Rattle.table_file.proofs.Growth.{entry_there}
use Rattle.table_file.proofs.Lists.{all_at, get_set-same}

names_list : (tables : List Table) → map (λ entry. entry.name) (map entry_of tables) ≡ map (λ table. table.name) tables
unfolding entry_of
names_list [] = refl
names_list (table ∷ tables) = ap (λ (l : List (List ℕ)). table.name ∷ l) (names_list tables)

pub names_told : (s : Tables) → table_names (catalogue_of s) ≡ names_of s
unfolding catalogue_of
names_told s = names_list s.tables

-- a name's place is that which the catalogue tells
pub place_told : (s : Tables) (old : Catalogue) (name : List ℕ) (place : Option ℕ) → old ≡ catalogue_of s → place ≡ place_of name (table_names old) → place_of name (names_of s) ≡ place
place_told s old name place is told =
    ap (place_of name) (sym (names_told s)) ∙ ap (λ (c : Catalogue). place_of name (table_names c)) (sym is) ∙ sym told

pub table_of : (s : Tables) (old : Catalogue) (name : List ℕ) (number : ℕ) → old ≡ catalogue_of s → Some number ≡ place_of name (table_names old) → number < length old.tables
    → (t : Table) × IsTableOf s name number t
unfolding catalogue_of
table_of s old name number is told low =
    let long : length old.tables ≡ length s.tables = ap (λ (c : Catalogue). length c.tables) is ∙ length-map s.tables entry_of in
    elim (slice_get_cases s.tables number).1 [
      | inl some ↦ (some.0, record { place = place_told s old name (Some number) is told; there = some.2 })
      | inr none ↦ absurd (omega (arith, none.0, low, long))
    ]

-- the columns of a table, as the catalogue tells them
pub schema_at : (tables : List TableEntry) (number : ℕ) (schema : List Column) → slice_get (map (λ entry. entry.schema) tables) number ≡ Some schema
    → (entry : TableEntry) × (slice_get tables number ≡ Some entry) × (entry.schema ≡ schema)
schema_at tables number schema is =
    let told : slice_get (map (λ (entry : TableEntry). entry.schema) tables) number ≡ option_map (λ (entry : TableEntry). entry.schema) (slice_get tables number) =
    slice_get-map (λ (entry : TableEntry). entry.schema) tables number in
    elim (slice_get_cases tables number).1 [
      | inl some ↦
          let here : Some some.0.schema ≡ Some schema = sym (told ∙ ap (option_map (λ (entry : TableEntry). entry.schema)) some.2) ∙ is in
          (some.0, some.2, cc)
      | inr none ↦
          let gone : None ≡ Some schema = sym (told ∙ ap (option_map (λ (entry : TableEntry). entry.schema)) none.1) ∙ is in
          absurd (cc)
    ]

pub columns_told : (s : Tables) (old : Catalogue) (number : ℕ) (t : Table) (schema : List Column) → old ≡ catalogue_of s → slice_get s.tables number ≡ Some t
    → slice_get (map (λ entry. entry.schema) old.tables) number ≡ Some schema → schema ≡ t.columns
unfolding entry_of
columns_told s old number t schema is there told =
    let at = schema_at old.tables number schema told in
    let same : Some at.0 ≡ Some (entry_of t) = sym at.1 ∙ entry_there s old number t is there in
    let entry : at.0 ≡ entry_of t = cc in
    sym at.2 ∙ ap (λ (e : TableEntry). e.schema) entry

-- a table that the catalogue tells of has room for its rows
pub not_exceeds : (sizes : Sizes) (s : Tables) (number : ℕ) (t : Table) (rows : List (List Value)) (new : Catalogue) → new ≡ catalogue_of (with_rows s number t rows) → IsCatalogue sizes new
    → slice_get s.tables number ≡ Some t → exceeds sizes t.columns (t.rows ++ rows) ≡ false
unfolding entry_of
not_exceeds sizes s number t rows new is form there =
    let more = grown t rows in
    let low = slice_get_within s.tables number t there in
    let entry = entry_there (with_rows s number t rows) new number more is (get_set-same s.tables number more low) in
    let table : IsTable sizes (entry_of more) = all_at (IsTable sizes) new.tables number (entry_of more) entry form.tables in
    let count = page_count (table_pages t.columns (t.rows ++ rows)) in
    or_from (nat_lt 1048575 (length (t.rows ++ rows))) (nat_lt sizes.table count) (le-ltb 1048575 (length (t.rows ++ rows)) table.rows) (le-ltb sizes.table count table.pages)

-- what a crash may leave of an append
pub appended_run : {a b c : View Contents} (s : Tables) (name : List ℕ) (rows : List (List Value)) (number told : ℕ) (t : Table) → IsTableOf s name number t → told ≡ number
    → LeavesOnly a b (HasTables s) → LeavesOnly b c (λ m. HasTables s m ⊎ HasTables (with_rows s told t rows) m) → LeavesOnly a c (λ m. HasTables s m ⊎ HasAppended s name rows m)
appended_run s name rows number told t is same first second =
    and_then (weaker_run first (λ m has. inl has))
    (weaker_run second (λ m either. elim either [
      | inl before ↦ inl before
      | inr after ↦ inr (record { number = number; table = t; is = is; tables = subst (λ (n : ℕ). HasTables (with_rows s n t rows) m) same after })
    ]))
    (λ m either. either)

pub appended_each : (c : View Contents) (s : Tables) (name : List ℕ) (rows : List (List Value)) (number told : ℕ) (t : Table) → IsTableOf s name number t → told ≡ number
    → EachImage c (HasTables (with_rows s told t rows)) → EachImage c (HasAppended s name rows)
appended_each c s name rows number told t is same each m now =
    record { number = number; table = t; is = is; tables = subst (λ (n : ℕ). HasTables (with_rows s n t rows) m) same (each m now) }
