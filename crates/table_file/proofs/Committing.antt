-- What a crash may leave of the tables of a store while its catalogue is committed.
use Rattle.std.proofs.Common.{◌≡◌, ◌⊎◌, ℕ, ◌<◌, List, ◌++◌, inl, inr, sym, subst}
use Rattle.disk_model.specs.View.{After, EachImage, LeavesOnly, View}
use Rattle.disk_model.proofs.Runs.{and_then, each_now, weaker_run}
use Rattle.page_store.specs.Store.{BeforeOrAfter, BodyReplaced, Contents, TwinChanged}
use Rattle.qsr_value.specs.declared.row.Value.{Value}
use Rattle.qsr_value.specs.declared.schema.Column.{Column}
use Rattle.table_file.specs.CatalogueBytes.{catalogue_bytes}
use Rattle.table_file.specs.Tables.{AreaGrows, HasTables, OnlyTables, RowsStand, Table, Tables, catalogue_of, table_part, with_rows, with_table}
use Rattle.table_file.specs.declared.catalogue.Catalogue.{Catalogue}
use Rattle.table_file.proofs.StoreStands.{created_stands, grown_stands, only_area, only_twice, only_twin}

-- a commit of one more table
pub created_run : {a b : View Contents} (s : Tables) (name : List ℕ) (columns : List Column) (catalogue : Catalogue) → catalogue ≡ catalogue_of (with_table s name columns)
    → EachImage a (HasTables s) → LeavesOnly a b (BeforeOrAfter (BodyReplaced 0 (catalogue_bytes catalogue)) a)
    → LeavesOnly a b (λ m. HasTables s m ⊎ HasTables (with_table s name columns) m)
created_run s name columns catalogue is each run = weaker_run run (λ m left. elim left.2 [
  | inl same ↦ inl (subst (HasTables s) (sym same) (each left.0 left.1))
  | inr replaced ↦ inr (created_stands s name columns catalogue left.0 m is (each left.0 left.1) replaced)
])

pub created_each : (a b : View Contents) (s : Tables) (name : List ℕ) (columns : List Column) (catalogue : Catalogue) → catalogue ≡ catalogue_of (with_table s name columns)
    → EachImage a (HasTables s) → EachImage b (After (BodyReplaced 0 (catalogue_bytes catalogue)) a) → EachImage b (HasTables (with_table s name columns))
created_each a b s name columns catalogue is each done m now =
    let old = done m now in created_stands s name columns catalogue old.0 m is (each old.0 old.1) old.2

-- a commit of more rows, which stand behind those of a table
pub grown_run : {a b c : View Contents} (s : Tables) (number : ℕ) (t : Table) (rows : List (List Value)) (catalogue : Catalogue)
    → (a.honest → catalogue ≡ catalogue_of (with_rows s number t rows)) → LeavesOnly a b (HasTables s) → EachImage b (RowsStand number t.columns (t.rows ++ rows))
    → LeavesOnly b c (BeforeOrAfter (BodyReplaced 0 (catalogue_bytes catalogue)) b) → LeavesOnly a c (λ m. HasTables s m ⊎ HasTables (with_rows s number t rows) m)
grown_run {b = b} s number t rows catalogue is first stand second =
    and_then (weaker_run first (λ m has. inl has))
    (weaker_run second (λ m left.
    let has = each_now first left.0 left.1 in
    elim left.2 [
      | inl same ↦ inl (subst (HasTables s) (sym same) has)
      | inr replaced ↦ inr (grown_stands s number t rows catalogue left.0 m (is (first.honest.0 (b.honest_if_left left.0 left.1))) has (stand left.0 left.1) replaced)
    ]))
    (λ m either. either)

pub grown_each : (a b c : View Contents) (s : Tables) (number : ℕ) (t : Table) (rows : List (List Value)) (catalogue : Catalogue)
    → (a.honest → catalogue ≡ catalogue_of (with_rows s number t rows)) → LeavesOnly a b (HasTables s) → EachImage b (RowsStand number t.columns (t.rows ++ rows))
    → EachImage c (After (BodyReplaced 0 (catalogue_bytes catalogue)) b) → EachImage c (HasTables (with_rows s number t rows))
grown_each a b c s number t rows catalogue is first stand done m now =
    let old = done m now in
    grown_stands s number t rows catalogue old.0 m (is (first.honest.0 (b.honest_if_left old.0 old.1))) (each_now first old.0 old.1) (stand old.0 old.1) old.2

-- what is changed is the catalogue and the areas of tables
pub only_commit : {a b : View Contents} → LeavesOnly a b (After (TwinChanged 0) a) → LeavesOnly a b (After OnlyTables a)
only_commit run = weaker_run run (λ m left. (left.0, left.1, only_twin left.0 m left.2))

pub only_growth : {a b : View Contents} (table at : ℕ) → table < 16 → LeavesOnly a b (After (AreaGrows (table_part table) at) a) → LeavesOnly a b (After OnlyTables a)
only_growth table at some run = weaker_run run (λ m left. (left.0, left.1, only_area table at left.0 m some left.2))

pub only_then : {a b c : View Contents} → LeavesOnly a b (After OnlyTables a) → LeavesOnly b c (After OnlyTables b) → LeavesOnly a c (After OnlyTables a)
only_then {a = a} first second = and_then first second (λ m left.
    let old = each_now first left.0 left.1 in
    (old.0, old.1, only_twice old.0 left.0 m old.2 left.2))
