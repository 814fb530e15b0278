-- The catalogue with one more table, and with other numbers of a table.
use Rattle.std.proofs.Common.{◌≡◌, ◌≢◌, ℕ, ◌+◌, ◌<◌, ◌≤◌, ◌==◌, Bool, not, if◌then◌else◌, List, [], ◌∷◌, ◌++◌, length, map, filter, slice_get, slice_set, Option, Some, inl, inr, refl, sym, ap, ◌∙◌, arith, subst, length-append}
use Rattle.std.proofs.lemmas.Bool.{cases_eq, cond_both}
use Rattle.std.proofs.lemmas.List.{length-set, map-append, map-set}
use Rattle.std.proofs.lemmas.Option.{slice_get-map, slice_get_cases, slice_get_within}
use Rattle.std.specs.List.{AllByRecursion}
use Rattle.std.specs.Option.{IfSome, option_map}
use Rattle.page_store.specs.declared.pages.Sizes.{Sizes}
use Rattle.qsr_value.specs.Columns.{width_of}
use Rattle.qsr_value.specs.Encoding.{encoded_row}
use Rattle.qsr_value.specs.declared.row.Value.{Value}
use Rattle.qsr_value.specs.declared.schema.Column.{Column}
use Rattle.table_file.specs.Appending.{HasCounted, grown_entry}
use Rattle.table_file.specs.CatalogueBytes.{AreApart, IsCatalogue, IsColumn, IsIndex, IsName, IsTable}
use Rattle.table_file.specs.Tables.{Table, Tables, catalogue_of, entry_of, grown, of_others, table_pages, with_rows, with_table}
use Rattle.table_file.specs.declared.catalogue.Catalogue.{Catalogue}
use Rattle.table_file.specs.declared.entries.IndexEntry.{IndexEntry}
use Rattle.table_file.specs.declared.entries.TableEntry.{TableEntry}
use Rattle.table_file.specs.declared.writer.TableWriter.{TableWriter}
use Rattle.table_file.proofs.Lists.{all_append, all_at, all_filter, all_set, all_weaker, few_filter, get_more, get_set-other, get_set-same}
use Rattle.table_file.proofs.PagesOf.{count_told}

-- a table with no rows
abbrev pub new_entry : List ℕ → List Column → TableEntry
new_entry name columns = record { name = name; schema = columns; rows = 0; pages = 0; end = 0 }

abbrev pub with_entry : Catalogue → TableEntry → Catalogue
with_entry catalogue entry = record { tables = catalogue.tables ++ entry ∷ []; indexes = catalogue.indexes }

-- what the catalogue says once a table is created
pub created_catalogue : (s : Tables) (name : List ℕ) (columns : List Column) → catalogue_of (with_table s name columns) ≡ with_entry (catalogue_of s) (new_entry name columns)
unfolding catalogue_of entry_of
created_catalogue s name columns = ap (λ (l : List TableEntry). record { tables = l; indexes = s.indexes }) (map-append entry_of s.tables (record { name = name; columns = columns; rows = [] } ∷ []))

-- an index of one of some tables is one of these and another
index_more : (sizes : Sizes) (tables more : List TableEntry) (index : IndexEntry) → IsIndex sizes tables index → IsIndex sizes (tables ++ more) index
index_more sizes tables more index is = record {
  table = omega (arith, length-append tables more, is.table);
  column = subst (λ (o : Option TableEntry). IfSome o (λ table. index.column < length table.schema)) (sym (get_more tables more index.table is.table)) is.column;
  area = is.area;
  rows = is.rows;
  leaves = is.leaves;
  pages = is.pages;
  height = is.height;
  levels = is.levels;
}

pub created_form : (sizes : Sizes) (catalogue : Catalogue) (entry : TableEntry) → IsCatalogue sizes catalogue → IsTable sizes entry → length catalogue.tables < 16
    → IsCatalogue sizes (with_entry catalogue entry)
created_form sizes catalogue entry form is few = record {
  tables = all_append (IsTable sizes) catalogue.tables (entry ∷ []) form.tables (is, tt);
  few_tables = omega (arith, length-append catalogue.tables (entry ∷ []), few);
  indexes = all_weaker (IsIndex sizes catalogue.tables) (IsIndex sizes (catalogue.tables ++ entry ∷ [])) catalogue.indexes (λ index has. index_more sizes catalogue.tables (entry ∷ []) index has) form.indexes;
  few_indexes = form.few_indexes;
  apart = form.apart;
}

pub new_table : (sizes : Sizes) (name : List ℕ) (columns : List Column) → IsName name → 1 ≤ length columns → length columns ≤ 16 → AllByRecursion IsColumn columns → width_of columns ≤ 1000
    → IsTable sizes (new_entry name columns)
new_table sizes name columns named some most each width = record {
  name = named;
  schema = record { some = some; most = most; each = each; width = width };
  rows = omega arith;
  pages = omega arith;
  end = omega arith;
}

-- what the catalogue says of a table with more rows
pub grown_is : (t : Table) (rows : List (List Value)) (w : TableWriter) → HasCounted t.columns (t.rows ++ rows) w → entry_of (grown t rows) ≡ grown_entry (entry_of t) w
unfolding entry_of
grown_is t rows w counted =
    let pages = table_pages t.columns (t.rows ++ rows) in
    let told = count_told (encoded_row t.columns) pages.full pages.last in
    let count : length (t.rows ++ rows) ≡ w.rows = sym counted.count in
    let page : length pages.full ≡ w.page = sym counted.page in
    let end = sym counted.end in
    let many = told ∙ ap (λ (n : ℕ). if n == 0 then length pages.full else length pages.full + 1) end ∙ ap (λ (n : ℕ). if w.end == 0 then n else n + 1) page in
    λ i. record { name = t.name; schema = t.columns; rows = count i; pages = many i; end = end i }

abbrev pub with_grown : Catalogue → ℕ → TableEntry → Catalogue
with_grown catalogue number entry = record { tables = slice_set catalogue.tables number entry; indexes = of_others number catalogue.indexes }

pub grown_catalogue : (s : Tables) (number : ℕ) (t : Table) (rows : List (List Value)) (w : TableWriter) → HasCounted t.columns (t.rows ++ rows) w
    → catalogue_of (with_rows s number t rows) ≡ with_grown (catalogue_of s) number (grown_entry (entry_of t) w)
unfolding catalogue_of
grown_catalogue s number t rows w counted =
    ap (λ (l : List TableEntry). record { tables = l; indexes = of_others number s.indexes })
    (map-set entry_of s.tables number (grown t rows) ∙ ap (slice_set (map entry_of s.tables) number) (grown_is t rows w counted))

abbrev pub catalogue_with : List TableEntry → List IndexEntry → Catalogue
catalogue_with tables indexes = record { tables = tables; indexes = indexes }

-- what stands in the program once the table is pushed
pub created_is : (s : Tables) (old : Catalogue) (name told : List ℕ) (columns : List Column) (tables : List TableEntry) → old ≡ catalogue_of s → told ≡ name
    → tables ≡ old.tables ++ new_entry told columns ∷ [] → catalogue_with tables old.indexes ≡ catalogue_of (with_table s name columns)
created_is s old name told columns tables is same pushed =
    ap (λ (l : List TableEntry). catalogue_with l old.indexes) pushed ∙ ap (λ (n : List ℕ). with_entry old (new_entry n columns)) same
    ∙ ap (λ (c : Catalogue). with_entry c (new_entry name columns)) is ∙ sym (created_catalogue s name columns)

pub created_is_form : (sizes : Sizes) (old : Catalogue) (name told : List ℕ) (columns : List Column) (tables : List TableEntry) → IsCatalogue sizes old → told ≡ name
    → tables ≡ old.tables ++ new_entry told columns ∷ [] → IsTable sizes (new_entry name columns) → length old.tables < 16 → IsCatalogue sizes (catalogue_with tables old.indexes)
created_is_form sizes old name told columns tables form same pushed table few =
    let is : tables ≡ old.tables ++ new_entry name columns ∷ [] = pushed ∙ ap (λ (n : List ℕ). old.tables ++ new_entry n columns ∷ []) same in
    subst (λ (l : List TableEntry). IsCatalogue sizes (catalogue_with l old.indexes)) (sym is) (created_form sizes old (new_entry name columns) form table few)

-- an index of one of some tables, where a table has other numbers
index_set : (sizes : Sizes) (tables : List TableEntry) (number : ℕ) (entry other : TableEntry) (index : IndexEntry) → slice_get tables number ≡ Some entry → other.schema ≡ entry.schema
    → IsIndex sizes tables index → IsIndex sizes (slice_set tables number other) index
index_set sizes tables number entry other index there same is = record {
  table = omega (arith, length-set tables number other, is.table);
  column = elim (cases_eq index.table number) [
    | inl here ↦
        let before : IfSome (Some entry) (λ table. index.column < length table.schema) =
        subst (λ (o : Option TableEntry). IfSome o (λ table. index.column < length table.schema)) (ap (slice_get tables) here ∙ there) is.column in
        subst (λ (o : Option TableEntry). IfSome o (λ table. index.column < length table.schema))
        (sym (ap (slice_get (slice_set tables number other)) here ∙ get_set-same tables number other (slice_get_within tables number entry there)))
        (subst (λ (schema : List Column). index.column < length schema) (sym same) before)
    | inr there_not ↦ subst (λ (o : Option TableEntry). IfSome o (λ table. index.column < length table.schema)) (sym (get_set-other tables number other index.table there_not)) is.column
  ];
  area = is.area;
  rows = is.rows;
  leaves = is.leaves;
  pages = is.pages;
  height = is.height;
  levels = is.levels;
}

-- indexes that lie apart do so where some are dropped
apart_filter : (p : IndexEntry → Bool) (indexes : List IndexEntry) → AreApart indexes → AreApart (filter p indexes)
apart_filter p [] apart = tt
apart_filter p (index ∷ indexes) apart =
    cond_both (p index) (index ∷ filter p indexes) (filter p indexes) AreApart
    (λ yes. (all_filter (λ other. other.area ≢ index.area) p indexes apart.0, apart_filter p indexes apart.1)) (λ no. apart_filter p indexes apart.1)

grown_table : (sizes : Sizes) (entry : TableEntry) (w : TableWriter) → IsTable sizes entry → w.rows ≤ 1048575 → w.end ≤ 4096 → w.page < sizes.table → IsTable sizes (grown_entry entry w)
grown_table sizes entry w is rows end page = record {
  name = is.name;
  schema = is.schema;
  rows = rows;
  pages = cond_both (w.end == 0) w.page (w.page + 1) (λ (n : ℕ). n ≤ sizes.table) (λ none. omega (arith, page)) (λ some. omega (arith, page));
  end = end;
}

pub grown_form : (sizes : Sizes) (old : Catalogue) (number : ℕ) (entry : TableEntry) (w : TableWriter) → IsCatalogue sizes old → slice_get old.tables number ≡ Some entry
    → w.rows ≤ 1048575 → w.end ≤ 4096 → w.page < sizes.table → IsCatalogue sizes (with_grown old number (grown_entry entry w))
grown_form sizes old number entry w form there rows end page =
    let more = grown_entry entry w in
    let kept = λ (index : IndexEntry). not (index.table == number) in
    record {
      tables = all_set (IsTable sizes) old.tables number more form.tables (grown_table sizes entry w (all_at (IsTable sizes) old.tables number entry there form.tables) rows end page);
      few_tables = omega (arith, length-set old.tables number more, form.few_tables);
      indexes =
          all_weaker (IsIndex sizes old.tables) (IsIndex sizes (slice_set old.tables number more)) (of_others number old.indexes)
          (λ index is. index_set sizes old.tables number entry more index there refl is) (all_filter (IsIndex sizes old.tables) kept old.indexes form.indexes);
      few_indexes = omega (arith, few_filter kept old.indexes, form.few_indexes);
      apart = apart_filter kept old.indexes form.apart;
    }

-- What the numbers of a table become: those of a writer.
pub record IsGrown (number : ℕ) (w : TableWriter) (old new : Catalogue) : Type 0 where
  pub tables : (entry : TableEntry) → slice_get old.tables number ≡ Some entry → new.tables ≡ slice_set old.tables number (grown_entry entry w)
  pub indexes : new.indexes ≡ of_others number old.indexes

pub grown_by : (number : ℕ) (entry : TableEntry) (w : TableWriter) (old new : Catalogue) → IsGrown number w old new → slice_get old.tables number ≡ Some entry
    → new ≡ with_grown old number (grown_entry entry w)
grown_by number entry w old new is there =
    let tables = is.tables entry there in
    let indexes = is.indexes in
    λ i. record { tables = tables i; indexes = indexes i }

pub grown_by_form : (sizes : Sizes) (number : ℕ) (w : TableWriter) (old new : Catalogue) → IsGrown number w old new → IsCatalogue sizes old → number < length old.tables
    → w.rows ≤ 1048575 → w.end ≤ 4096 → w.page < sizes.table → IsCatalogue sizes new
grown_by_form sizes number w old new is form low rows end page = elim (slice_get_cases old.tables number).1 [
  | inl some ↦ subst (IsCatalogue sizes) (sym (grown_by number some.0 w old new is some.2)) (grown_form sizes old number some.0 w form some.2 rows end page)
  | inr none ↦ absurd (omega (arith, none.0, low))
]

pub entry_there : (s : Tables) (old : Catalogue) (number : ℕ) (t : Table) → old ≡ catalogue_of s → slice_get s.tables number ≡ Some t → slice_get old.tables number ≡ Some (entry_of t)
unfolding catalogue_of
entry_there s old number t is there =
    ap (λ (c : Catalogue). slice_get c.tables number) is ∙ slice_get-map entry_of s.tables number ∙ ap (option_map entry_of) there

-- what the catalogue says then
pub grown_told : (s : Tables) (t : Table) (rows : List (List Value)) (number : ℕ) (w : TableWriter) (old new : Catalogue) → IsGrown number w old new → old ≡ catalogue_of s
    → slice_get s.tables number ≡ Some t → HasCounted t.columns (t.rows ++ rows) w → new ≡ catalogue_of (with_rows s number t rows)
grown_told s t rows number w old new is told there counted =
    grown_by number (entry_of t) w old new is (entry_there s old number t told there)
    ∙ ap (λ (c : Catalogue). with_grown c number (grown_entry (entry_of t) w)) told ∙ sym (grown_catalogue s number t rows w counted)

-- a writer with the same numbers as another
pub counted_same : (columns : List Column) (rows : List (List Value)) (w other : TableWriter) → other.rows ≡ w.rows → other.page ≡ w.page → other.end ≡ w.end
    → HasCounted columns rows w → HasCounted columns rows other
counted_same columns rows w other count page end counted = record { count = count ∙ counted.count; page = page ∙ counted.page; end = end ∙ counted.end }

-- a page of a table is one of its area
pub page_within : (sizes : Sizes) (catalogue : Catalogue) (number page : ℕ) → IsCatalogue sizes catalogue → number < length catalogue.tables
    → ((entry : TableEntry) → slice_get catalogue.tables number ≡ Some entry → page < entry.pages) → page < sizes.table
page_within sizes catalogue number page form low within = elim (slice_get_cases catalogue.tables number).1 [
  | inl some ↦
      let table = all_at (IsTable sizes) catalogue.tables number some.0 some.2 form.tables in
      omega (arith, table.pages, within some.0 some.2)
  | inr none ↦ absurd (omega (arith, none.0, low))
]
