-- How tables stand in a store after a change of it.
use Rattle.std.proofs.Common.{◌≡◌, ℕ, ◌+◌, ◌*◌, ◌<◌, List, [], ◌∷◌, ◌++◌, length, Some, inl, inr, refl, sym, ap, ◌∙◌, arith, subst}
use Rattle.page_store.specs.Store.{AreaHolds, BodyReplaced, Contents, TwinChanged}
use Rattle.qsr_value.specs.declared.row.Value.{Value}
use Rattle.qsr_value.specs.declared.schema.Column.{Column}
use Rattle.table_file.specs.CatalogueBytes.{catalogue_bytes}
use Rattle.table_file.specs.Tables.{AreaGrows, FullStand, HasTables, OnlyTables, RowsStand, Table, Tables, catalogue_of, grown, table_pages, table_part, with_rows, with_table}
use Rattle.table_file.specs.declared.catalogue.Catalogue.{Catalogue}
use Rattle.table_file.proofs.Lists.{get_more-cases, get_set-cases}

-- what stands in an area stands there still, where no area is changed
pub holds_same : (a at : ℕ) (bytes : List ℕ) (old new : Contents) → new.area ≡ old.area → AreaHolds a at bytes old → AreaHolds a at bytes new
holds_same a at bytes old new same holds i low = ap (λ (area : ℕ → ℕ → ℕ). area a (at + i)) same ∙ holds i low

full_same : (columns : List Column) (part at : ℕ) (pages : List (List (List Value))) (old new : Contents) → new.area ≡ old.area → FullStand columns part at pages old → FullStand columns part at pages new
full_same columns part at [] old new same stand = tt
full_same columns part at (page ∷ pages) old new same stand = (holds_same part (4096 * at) _ old new same stand.0, full_same columns part (at + 1) pages old new same stand.1, stand.2)

pub rows_same : (number : ℕ) (columns : List Column) (rows : List (List Value)) (old new : Contents) → new.area ≡ old.area → RowsStand number columns rows old → RowsStand number columns rows new
rows_same number columns rows old new same stand =
    let pages = table_pages columns rows in
    record {
      full = full_same columns (table_part number) 0 pages.full old new same stand.full;
      last = holds_same (table_part number) (4096 * length pages.full) _ old new same stand.last;
    }

-- no rows stand anywhere
none_stand : (number : ℕ) (columns : List Column) (m : Contents) → RowsStand number columns [] m
none_stand number columns m = record { full = tt; last = λ i low. absurd (omega arith) }

-- the tables that a store has once the catalogue tells of one more
pub created_stands : (s : Tables) (name : List ℕ) (columns : List Column) (catalogue : Catalogue) (old new : Contents) → catalogue ≡ catalogue_of (with_table s name columns)
    → HasTables s old → BodyReplaced 0 (catalogue_bytes catalogue) old new → HasTables (with_table s name columns) new
created_stands s name columns catalogue old new is has replaced = record {
  catalogue = replaced.replaced ∙ ap (λ (c : Catalogue). Some (catalogue_bytes c)) is;
  rows = λ number table there. elim (get_more-cases s.tables (record { name = name; columns = columns; rows = [] }) number table there) [
    | inl before ↦ rows_same number table.columns table.rows old new replaced.areas (has.rows number table before)
    | inr one ↦ subst (λ (t : Table). RowsStand number t.columns t.rows new) (sym one) (none_stand number columns new)
  ];
}

-- and once it tells of more rows, which stand behind those of a table
pub grown_stands : (s : Tables) (number : ℕ) (t : Table) (rows : List (List Value)) (catalogue : Catalogue) (old new : Contents) → catalogue ≡ catalogue_of (with_rows s number t rows)
    → HasTables s old → RowsStand number t.columns (t.rows ++ rows) old → BodyReplaced 0 (catalogue_bytes catalogue) old new → HasTables (with_rows s number t rows) new
grown_stands s number t rows catalogue old new is has stand replaced = record {
  catalogue = replaced.replaced ∙ ap (λ (c : Catalogue). Some (catalogue_bytes c)) is;
  rows = λ place table there. elim (get_set-cases s.tables number (grown t rows) place table there) [
    | inl before ↦ rows_same place table.columns table.rows old new replaced.areas (has.rows place table before)
    | inr one ↦
        subst (λ (u : Table). RowsStand place u.columns u.rows new) (sym one.1)
        (subst (λ (n : ℕ). RowsStand n t.columns (t.rows ++ rows) new) (sym one.0) (rows_same number t.columns (t.rows ++ rows) old new replaced.areas stand))
  ];
}

-- what changes nothing but the catalogue, or but the area of a table, or both
pub only_none : (m : Contents) → OnlyTables m m
only_none m = record { head = refl; bodies = λ twin other. refl; areas = λ part behind. refl }

pub only_twin : (old new : Contents) → TwinChanged 0 old new → OnlyTables old new
only_twin old new changed = record {
  head = changed.head;
  bodies = changed.others;
  areas = λ part behind. ap (λ (area : ℕ → ℕ → ℕ). area part) changed.areas;
}

pub only_area : (table at : ℕ) (old new : Contents) → table < 16 → AreaGrows (table_part table) at old new → OnlyTables old new
only_area table at old new some grows = record {
  head = grows.head;
  bodies = λ twin other. ap (λ (body : ℕ → _). body twin) grows.bodies;
  areas = λ part behind. grows.others part (λ same. absurd (omega (arith, same, some, behind)));
}

pub only_twice : (a b c : Contents) → OnlyTables a b → OnlyTables b c → OnlyTables a c
only_twice a b c first second = record {
  head = second.head ∙ first.head;
  bodies = λ twin other. second.bodies twin other ∙ first.bodies twin other;
  areas = λ part behind. second.areas part behind ∙ first.areas part behind;
}
