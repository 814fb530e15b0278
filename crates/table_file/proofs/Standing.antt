-- What stands in the area of a table stays where only bytes behind it are written.
use Rattle.std.proofs.Common.{◌≡◌, ◌≢◌, ℕ, ◌+◌, ◌-◌, ◌*◌, ◌<◌, ◌≤◌, Bool, if◌then◌else◌, List, [], ◌∷◌, ◌++◌, length, sym, ap, ◌∙◌, subst, inl, inr, arith, length-append}
use Rattle.std.specs.Prelude.{slice_get, Option, Some}
use Rattle.std.proofs.lemmas.Bool.{cases_eq, cases_lt, le-leb, lt-leb}
use Rattle.page_store.specs.Store.{AreaHolds, Contents}
use Rattle.qsr_value.specs.Encoding.{encoded_row}
use Rattle.qsr_value.specs.declared.row.Value.{Value}
use Rattle.qsr_value.specs.declared.schema.Column.{Column}
use Rattle.row_page.specs.Framed.{rows_bytes}
use Rattle.row_page.specs.Pages.{Pages, ended, last_end, no_row, page_end}
use Rattle.table_file.specs.Appending.{IsBehind, table_end, written_to}
use Rattle.table_file.specs.Tables.{AreaGrows, FullStand, HasTables, PagesStand, Tables, table_pages, table_part}
use Rattle.table_file.specs.declared.writer.TableWriter.{TableWriter}

-- the bytes of an area in front of this one are as they were
abbrev pub SameFront : ℕ → ℕ → Contents → Contents → Type 0
SameFront part at old new = (i : ℕ) → i < at → new.area part i ≡ old.area part i

-- bytes that stand there stay
pub holds_still : (part from at : ℕ) (bytes : List ℕ) (old new : Contents) → from + length bytes ≤ at → SameFront part at old new → AreaHolds part from bytes old → AreaHolds part from bytes new
holds_still part from at bytes old new within same holds i before = same (from + i) (omega arith) ∙ holds i before

-- how far the bytes of a page reach that is followed by another
pub ended_most : (bytes : List ℕ) → length bytes ≤ 4096 → length (ended 4096 bytes) ≤ 4096
ended_most bytes within = elim (cases_lt 4096 (length bytes + 2)) [
  | inl few ↦
      let none : page_end 4096 (length bytes) ≡ [] = ap (λ (b : Bool). if b then no_row else []) (lt-leb (length bytes + 2) 4096 few) in
      omega (arith, length-append bytes (page_end 4096 (length bytes)), ap length none, within)
  | inr some ↦
      let zeros : page_end 4096 (length bytes) ≡ no_row = ap (λ (b : Bool). if b then no_row else []) (le-leb (length bytes + 2) 4096 some) in
      omega (arith, length-append bytes (page_end 4096 (length bytes)), ap length zeros, some)
]

-- pages that stand stay
pub full_still : (columns : List Column) (part from at : ℕ) (pages : List (List (List Value))) (old new : Contents) → 4096 * (from + length pages) ≤ at
    → SameFront part at old new → FullStand columns part from pages old → FullStand columns part from pages new
full_still columns part from at [] old new within same stand = tt
full_still columns part from at (page ∷ pages) old new within same stand =
    let bytes = rows_bytes (encoded_row columns) page in (
      holds_still part (4096 * from) at (ended 4096 bytes) old new (omega (arith, within, ended_most bytes stand.2)) same stand.0,
      full_still columns part (from + 1) at pages old new (omega (arith, within)) same stand.1,
      stand.2,
    )

-- one more page behind them stands with them
pub full_push : (columns : List Column) (part from at : ℕ) (pages : List (List (List Value))) (page : List (List Value)) (m : Contents) → at ≡ from + length pages
    → FullStand columns part from pages m → AreaHolds part (4096 * at) (ended 4096 (rows_bytes (encoded_row columns) page)) m → length (rows_bytes (encoded_row columns) page) ≤ 4096
    → FullStand columns part from (pages ++ page ∷ []) m
full_push columns part from at [] page m place stand holds within =
    let here : at ≡ from = omega (arith, place) in
    (subst (λ (n : ℕ). AreaHolds part (4096 * n) (ended 4096 (rows_bytes (encoded_row columns) page)) m) here holds, tt, within)
full_push columns part from at (first ∷ pages) page m place stand holds within =
    (stand.0, full_push columns part (from + 1) at pages page m (omega (arith, place)) stand.1 holds within, stand.2)

-- the pages of a table stay
pub pages_still : (columns : List Column) (part at : ℕ) (pages : Pages (List Value)) (old new : Contents)
    → 4096 * length pages.full + last_end (encoded_row columns) pages ≤ at → SameFront part at old new → PagesStand columns part pages old → PagesStand columns part pages new
pages_still columns part at pages old new within same stand = record {
  full = full_still columns part 0 at pages.full old new (omega (arith, within)) same stand.full;
  last = holds_still part (4096 * length pages.full) at (rows_bytes (encoded_row columns) pages.last) old new (omega (arith, within)) same stand.last;
}

-- what stands in the area of another table stays anyway
same_other : (part other at : ℕ) (old new : Contents) → other ≢ part → AreaGrows part at old new → (bound : ℕ) → SameFront other bound old new
same_other part other at old new apart grows bound i before = ap (λ (area : ℕ → ℕ). area i) (grows.others other apart)

-- Tables stay where one of them grows behind its rows.
pub tables_still : (s : Tables) (w : TableWriter) (old new : Contents) → IsBehind s w → AreaGrows (table_part w.table) (written_to w) old new → HasTables s old → HasTables s new
tables_still s w old new behind grows has = record {
  catalogue = ap (λ (body : ℕ → Option (List ℕ)). body 0) grows.bodies ∙ has.catalogue;
  rows = λ number table there.
      let pages = table_pages table.columns table.rows in
      let stand = has.rows number table there in
      elim (cases_eq number w.table) [
        | inl same ↦
            let place : table_part number ≡ table_part w.table = ap table_part same in
            pages_still table.columns (table_part number) (written_to w) pages old new
            (behind table (subst (λ (n : ℕ). slice_get s.tables n ≡ Some table) same there))
            (subst (λ (part : ℕ). SameFront part (written_to w) old new) (sym place) grows.below) stand
        | inr other ↦
            let apart : table_part number ≢ table_part w.table = λ same. other (omega (arith, same)) in
            pages_still table.columns (table_part number) (table_end table) pages old new (omega arith) (same_other (table_part w.table) (table_part number) (written_to w) old new apart grows (table_end table)) stand
      ];
}
