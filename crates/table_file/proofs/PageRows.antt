-- The rows that a page of a table has, as it was read.
use Rattle.std.proofs.Common.{◌≡◌, ℕ, zero, suc, ◌+◌, ◌*◌, ◌<◌, ◌≤◌, nat_le, List, [], ◌∷◌, ◌++◌, length, map, take, drop, slice_get, slice_index_or, get_or, Some, inl, inr, refl, sym, ap, ◌∙◌, arith, subst, append_assoc, length-append}
use Rattle.std.proofs.lemmas.Bool.{cases_Bool, cond-true, leb-false}
use Rattle.std.proofs.lemmas.List.{ext_get_or, get_or-take, get_or_append_left, length-take-le, take-append-drop}
use Rattle.std.proofs.lemmas.Option.{slice_get-get_or}
use Rattle.std.proofs.Math.Seq.{drop-append_seam, get_or-append_seam, take-append_seam}
use Rattle.std.specs.List.{AllByRecursion}
use Rattle.page_store.specs.Store.{AreaHolds, Contents}
use Rattle.page_store.specs.declared.pages.Sizes.{Sizes}
use Rattle.qsr_value.specs.Columns.{width_of}
use Rattle.qsr_value.specs.Encoding.{encoded, encoded_row, int_bytes, text_bytes, wide_bytes}
use Rattle.qsr_value.specs.Values.{AreTexts, Fits, IsOfKind}
use Rattle.qsr_value.specs.declared.kind.ColKind.{ColKind}
use Rattle.qsr_value.specs.declared.kind.ColKind.TheVariants as kinds
use Rattle.qsr_value.specs.declared.row.Value.{Value}
use Rattle.qsr_value.specs.declared.row.Value.TheVariants.{Int, Text}
use Rattle.qsr_value.specs.declared.schema.Column.{Column}
use Rattle.row_page.specs.Framed.{framed, rows_bytes}
use Rattle.row_page.specs.Pages.{IsPage, IsRow, ended, no_row, page_end}
use Rattle.row_page.proofs.Framing.{length-framed}
use Rattle.table_file.specs.CatalogueBytes.{IsSchema, IsTable}
use Rattle.table_file.specs.Tables.{FullStand, RowsStand, Table, entry_of, page_at, table_pages, table_part}
use Rattle.table_file.proofs.Lists.{all_at, all_weaker}
use Rattle.table_file.proofs.Standing.{ended_most}
use Rattle.table_file.proofs.PagesOf.{AreFitting, IsFitting, full_count, pages_begun, pages_fitting}

-- what stands in an area is at the front of what was read there
pub holds_front : (a at : ℕ) (bytes buf : List ℕ) (m : Contents) → AreaHolds a at bytes m → AreaHolds a at buf m → length bytes ≤ length buf → take (length bytes) buf ≡ bytes
holds_front a at bytes buf m stand read within =
    let long : length (take (length bytes) buf) ≡ length bytes = length-take-le (length bytes) buf within in
    ext_get_or 0 (take (length bytes) buf) bytes long
    (λ i low.
    let inside : i < length bytes = omega (arith, low, long) in
    get_or-take (length bytes) buf i 0 inside ∙ sym (read i (omega (arith, inside, within))) ∙ stand i inside)

-- a page with these rows at its front, as it was ended where another page follows
pub ended_is_page : (rows : List (List ℕ)) (buf : List ℕ) → AllByRecursion IsRow rows → length (rows_bytes (λ row. row) rows) ≤ 4096 → length buf ≡ 4096
    → take (length (ended 4096 (rows_bytes (λ row. row) rows))) buf ≡ ended 4096 (rows_bytes (λ row. row) rows) → IsPage rows buf
ended_is_page rows buf each within long front =
    let bytes = rows_bytes (λ (row : List ℕ). row) rows in
    let end = page_end 4096 (length bytes) in
    let rest = drop (length (bytes ++ end)) buf in
    let is : buf ≡ bytes ++ (end ++ rest) = sym (take-append-drop (length (bytes ++ end)) buf) ∙ ap (λ (l : List ℕ). l ++ rest) front ∙ append_assoc bytes end rest in
    let behind : drop (length bytes) (bytes ++ (end ++ rest)) ≡ end ++ rest = drop-append_seam bytes (end ++ rest) in
    record {
      each = each;
      front = ap (take (length bytes)) is ∙ take-append_seam bytes (end ++ rest);
      within = omega (arith, within, long);
      ends = elim (cases_Bool (nat_le (length bytes + 2) 4096)) [
        | inl fits ↦
            inr (ap (λ (l : List ℕ). take 2 (drop (length bytes) l)) is ∙ ap (take 2) behind
            ∙ ap (λ (l : List ℕ). take 2 (l ++ rest)) (cond-true (nat_le (length bytes + 2) 4096) no_row [] fits))
        | inr full ↦ inl (omega (arith, leb-false (length bytes + 2) 4096 full, long))
      ];
    }

-- a row of some columns has a byte
value_some : (kind : ColKind) (value : Value) → IsOfKind kind value → 0 < length (encoded kind value)
unfolding int_bytes wide_bytes text_bytes
value_some kinds.Int (Int n) is = omega arith
value_some kinds.Int (Text t) is = absurd is
value_some kinds.Wide (Int n) is = omega arith
value_some kinds.Wide (Text t) is = absurd is
value_some (kinds.Text max) (Int n) is = absurd is
value_some (kinds.Text max) (Text t) is = omega arith

row_some : (columns : List Column) (row : List Value) → 1 ≤ length columns → Fits columns row → 0 < length (encoded_row columns row)
row_some [] row some fits = absurd (omega arith)
row_some (column ∷ columns) [] some fits = absurd fits
row_some (column ∷ columns) (value ∷ row) some fits =
    omega (arith, value_some column.kind value fits.0, length-append (encoded column.kind value) (encoded_row columns row))

-- rows by their bytes
rows_bytes-map : {A : Type 0} (encoded : A → List ℕ) (rows : List A) → rows_bytes (λ row. row) (map encoded rows) ≡ rows_bytes encoded rows
rows_bytes-map encoded [] = refl
rows_bytes-map encoded (row ∷ rows) = ap (λ (l : List ℕ). framed (encoded row) ++ l) (rows_bytes-map encoded rows)

all_map : {A : Type 0} (P : List ℕ → Type 0) (encoded : A → List ℕ) (rows : List A) → AllByRecursion (λ row. P (encoded row)) rows → AllByRecursion P (map encoded rows)
all_map P encoded [] all = tt
all_map P encoded (row ∷ rows) all = (all.0, all_map P encoded rows all.1)

-- a page that is followed by another
full_at : (columns : List Column) (part at : ℕ) (full : List (List (List Value))) (i : ℕ) (page : List (List Value)) (m : Contents) → FullStand columns part at full m → slice_get full i ≡ Some page
    → AreaHolds part (4096 * (at + i)) (ended 4096 (rows_bytes (encoded_row columns) page)) m
full_at columns part at [] i page m stand there = absurd (cc)
full_at columns part at (first ∷ rest) zero page m stand there =
    let same : first ≡ page = cc in
    let here : at ≡ at + 0 = omega arith in
    subst (λ (n : ℕ). AreaHolds part (4096 * n) (ended 4096 (rows_bytes (encoded_row columns) page)) m) here
    (subst (λ (l : List (List Value)). AreaHolds part (4096 * at) (ended 4096 (rows_bytes (encoded_row columns) l)) m) same stand.0)
full_at columns part at (first ∷ rest) (suc i) page m stand there =
    let next : at + 1 + i ≡ at + suc i = omega arith in
    subst (λ (n : ℕ). AreaHolds part (4096 * n) (ended 4096 (rows_bytes (encoded_row columns) page)) m) next (full_at columns part (at + 1) rest i page m stand.1 there)

pub last_rows : (t : Table) (table page : ℕ) (buf : List ℕ) (m : Contents) → page + 1 ≡ (entry_of t).pages → (entry_of t).end ≤ 4096 → length buf ≡ 4096
    → AreaHolds (table_part table) (4096 * page) buf m → RowsStand table t.columns t.rows m
    → take (entry_of t).end buf ≡ rows_bytes (encoded_row t.columns) (page_at (table_pages t.columns t.rows) page)
unfolding entry_of
last_rows t table page buf m count within long read stand =
    let pages = table_pages t.columns t.rows in
    let bytes = rows_bytes (encoded_row t.columns) pages.last in
    let begun = pages_begun (encoded_row t.columns) 4096 t.rows in
    let here : length pages.full ≡ page = omega (arith, full_count pages.full pages.last begun.none, count) in
    let at : page_at pages page ≡ pages.last = ap (λ (n : ℕ). slice_index_or (pages.full ++ pages.last ∷ []) n []) (sym here) ∙ get_or-append_seam pages.full pages.last [] [] in
    holds_front (table_part table) (4096 * page) bytes buf m (subst (λ (n : ℕ). AreaHolds (table_part table) (4096 * n) bytes m) here stand.last) read (omega (arith, within, long))
    ∙ sym (ap (rows_bytes (encoded_row t.columns)) at)

-- the rows of a table as its columns allow them
rows_fitting : (columns : List Column) (rows : List (List Value)) → IsSchema columns → AllByRecursion (Fits columns) rows
    → ((row : List Value) → Fits columns row → length (encoded_row columns row) ≤ width_of columns)
    → AreFitting (Fits columns) (encoded_row columns) 4096 (table_pages columns rows)
rows_fitting columns rows is fits width =
    pages_fitting (Fits columns) (encoded_row columns) 4096 rows fits
    (λ row has. omega (arith, length-framed (encoded_row columns row), width row has, is.width))

pub full_rows : (t : Table) (table page end : ℕ) (buf : List ℕ) (m : Contents) → page + 1 < (entry_of t).pages → IsSchema t.columns → AllByRecursion (Fits t.columns) t.rows
    → ((row : List Value) → Fits t.columns row → length (encoded_row t.columns row) ≤ width_of t.columns) → length buf ≡ 4096
    → AreaHolds (table_part table) (4096 * page) buf m → RowsStand table t.columns t.rows m
    → ((rows : List (List ℕ)) → IsPage rows buf → end ≡ length (rows_bytes (λ row. row) rows))
    → take end buf ≡ rows_bytes (encoded_row t.columns) (page_at (table_pages t.columns t.rows) page)
unfolding entry_of
full_rows t table page end buf m count is fits width long read stand told =
    let encoded = encoded_row t.columns in
    let pages = table_pages t.columns t.rows in
    let begun = pages_begun encoded 4096 t.rows in
    let low : page < length pages.full = omega (arith, full_count pages.full pages.last begun.none, count) in
    let on = get_or pages.full page [] in
    let there : slice_get pages.full page ≡ Some on = slice_get-get_or pages.full page [] low in
    let fitting = all_at (IsFitting (Fits t.columns) encoded 4096) pages.full page on there (rows_fitting t.columns t.rows is fits width).full in
    let bytes = rows_bytes encoded on in
    let same : rows_bytes (λ (row : List ℕ). row) (map encoded on) ≡ bytes = rows_bytes-map encoded on in
    let none : 0 + page ≡ page = omega arith in
    let stands : AreaHolds (table_part table) (4096 * page) (ended 4096 bytes) m =
    subst (λ (n : ℕ). AreaHolds (table_part table) (4096 * n) (ended 4096 bytes) m) none (full_at t.columns (table_part table) 0 pages.full page on m stand.full there) in
    let front : take (length (ended 4096 bytes)) buf ≡ ended 4096 bytes =
    holds_front (table_part table) (4096 * page) (ended 4096 bytes) buf m stands read (omega (arith, ended_most bytes fitting.within, long)) in
    let each : AllByRecursion IsRow (map encoded on) =
    all_map IsRow encoded on (all_weaker (Fits t.columns) (λ (row : List Value). IsRow (encoded row)) on
    (λ row has. record { some = row_some t.columns row is.some has; short = omega (arith, width row has, is.width) }) fitting.each) in
    let is_page : IsPage (map encoded on) buf =
    ended_is_page (map encoded on) buf each (omega (arith, ap length same, fitting.within)) long
    (subst (λ (l : List ℕ). take (length (ended 4096 l)) buf ≡ ended 4096 l) (sym same) front) in
    let at : page_at pages page ≡ on = get_or_append_left pages.full (pages.last ∷ []) [] page low in
    ap (λ (n : ℕ). take n buf) (told (map encoded on) is_page) ∙ is_page.front ∙ same ∙ sym (ap (rows_bytes encoded) at)

pub schema_of : (sizes : Sizes) (t : Table) → IsTable sizes (entry_of t) → IsSchema t.columns
unfolding entry_of
schema_of sizes t is = is.schema

pub only_fits : (columns : List Column) (rows : List (List Value)) → AllByRecursion (λ row. Fits columns row × AreTexts row) rows → AllByRecursion (Fits columns) rows
only_fits columns rows all = all_weaker (λ (row : List Value). Fits columns row × AreTexts row) (Fits columns) rows (λ row has. has.0) all
