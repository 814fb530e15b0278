-- A writer behind the rows that a table has.
use Rattle.std.proofs.Common.{◌≡◌, ℕ, ◌+◌, ◌-◌, ◌*◌, ◌≤◌, ◌==◌, if◌then◌else◌, List, [], ◌∷◌, length, take, drop, refl, sym, ap, ◌∙◌, arith, subst}
use Rattle.std.proofs.lemmas.Bool.{cond-false, cond_both, ne_eqb}
use Rattle.std.proofs.lemmas.List.{drop_all, take_all}
use Rattle.page_store.specs.Store.{AreaHolds, Contents}
use Rattle.qsr_value.specs.Encoding.{encoded_row}
use Rattle.qsr_value.specs.declared.row.Value.{Value}
use Rattle.qsr_value.specs.declared.schema.Column.{Column}
use Rattle.row_page.specs.Framed.{rows_bytes}
use Rattle.row_page.specs.Pages.{page_count_of}
use Rattle.table_file.specs.Appending.{HasAdded, HasCounted, table_end, written_to}
use Rattle.table_file.specs.Tables.{FullStand, RowsStand, Table, entry_of, table_pages, table_part}
use Rattle.table_file.specs.declared.entries.TableEntry.{TableEntry}
use Rattle.table_file.specs.declared.writer.TableWriter.{TableWriter}
use Rattle.table_file.proofs.PagesOf.{full_count, pages_begun}

-- where the rows of the last page end, also where there is no page
end_told : {A : Type 0} (encoded : A → List ℕ) (full : List (List A)) (last : List A)
    → (if page_count_of full last == 0 then 0 else length (rows_bytes encoded last)) ≡ length (rows_bytes encoded last)
end_told encoded full [] = cond_both (length full == 0) 0 0 (λ (n : ℕ). n ≡ 0) (λ yes. refl) (λ no. refl)
end_told encoded full (row ∷ rows) = cond-false _ _ _ (ne_eqb (length full + 1) 0 (λ none. absurd (omega (arith, none))))

-- What the catalogue says of a table, and a writer that begins with it.
pub record Begins (entry : TableEntry) (w : TableWriter) : Type 0 where
  pub rows : w.rows ≡ entry.rows
  pub page : w.page ≡ entry.pages - 1
  pub end : w.end ≡ if entry.pages == 0 then 0 else entry.end
  pub written : w.written ≡ w.end

pub begins_counted : (t : Table) (entry : TableEntry) (w : TableWriter) → entry ≡ entry_of t → Begins entry w → HasCounted t.columns t.rows w
unfolding entry_of
begins_counted t entry w is begins =
    let pages = table_pages t.columns t.rows in
    let begun = pages_begun (encoded_row t.columns) 4096 t.rows in
    record {
      count = begins.rows ∙ ap (λ (e : TableEntry). e.rows) is;
      page = begins.page ∙ ap (λ (e : TableEntry). e.pages - 1) is ∙ full_count pages.full pages.last begun.none;
      end = begins.end ∙ ap (λ (e : TableEntry). if e.pages == 0 then 0 else e.end) is ∙ end_told (encoded_row t.columns) pages.full pages.last;
    }

pub begins_added : (columns : List Column) (rows : List (List Value)) (number : ℕ) (w : TableWriter) (m : Contents) → HasCounted columns rows w → w.written ≡ w.end → w.table ≡ number
    → RowsStand number columns rows m → HasAdded columns rows w m
begins_added columns rows number w m counted written table stand =
    let pages = table_pages columns rows in
    let bytes = rows_bytes (encoded_row columns) pages.last in
    let long : length bytes ≡ w.written = sym counted.end ∙ sym written in
    let all : take w.written bytes ≡ bytes = take_all w.written bytes (omega (arith, long)) in
    let none : w.end - w.written ≡ 0 = omega (arith, written) in
    record {
      counted = counted;
      full = subst (λ (n : ℕ). FullStand columns (table_part n) 0 pages.full m) (sym table) stand.full;
      written =
          subst (λ (n : ℕ). AreaHolds (table_part n) (4096 * w.page) (take w.written bytes) m) (sym table)
          (subst (λ (l : List ℕ). AreaHolds (table_part number) (4096 * w.page) l m) (sym all)
          (subst (λ (n : ℕ). AreaHolds (table_part number) (4096 * n) bytes m) (sym counted.page) stand.last));
      held = drop_all w.written bytes (omega (arith, long)) ∙ sym (ap (λ (n : ℕ). take n (drop w.written w.bytes)) none);
    }

pub begins_behind : (t : Table) (w : TableWriter) → HasCounted t.columns t.rows w → w.written ≡ w.end → table_end t ≤ written_to w
begins_behind t w counted written = omega (arith, counted.page, counted.end, written)
