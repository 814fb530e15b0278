-- Which pages rows take, with one row more and with some.
use Rattle.std.proofs.Common.{◌≡◌, ℕ, ◌+◌, ◌<◌, ◌≤◌, Bool, true, nat_lt, if◌then◌else◌, List, [], ◌∷◌, ◌++◌, length, refl, ap, inl, inr, ⊎_elim, arith, length-append}
use Rattle.std.proofs.lemmas.Bool.{cases_lt, le-leb, lt-leb, lt-ltb, ltb-true, or_cases, or_left, or_right}
use Rattle.page_store.specs.declared.pages.Sizes.{Sizes}
use Rattle.qsr_value.specs.Encoding.{encoded_row}
use Rattle.qsr_value.specs.declared.row.Value.{Value}
use Rattle.qsr_value.specs.declared.schema.Column.{Column}
use Rattle.row_page.specs.Framed.{framed}
use Rattle.row_page.specs.Pages.{Pages, page_count_of, last_end, no_pages, page_count, pages_with_row, pages_with_rows}
use Rattle.table_file.specs.Refusals.{exceeds}
use Rattle.table_file.specs.Tables.{table_pages}

-- more rows behind some
pub with_rows-append : {A : Type 0} (encoded : A → List ℕ) (room : ℕ) (pages : Pages A) (rows more : List A)
    → pages_with_rows encoded room pages (rows ++ more) ≡ pages_with_rows encoded room (pages_with_rows encoded room pages rows) more
with_rows-append encoded room pages [] more = refl
with_rows-append encoded room pages (row ∷ rows) more = with_rows-append encoded room (pages_with_row encoded room pages row) rows more

-- one row more
pub table_pages-push : (columns : List Column) (rows : List (List Value)) (row : List Value)
    → table_pages columns (rows ++ row ∷ []) ≡ pages_with_row (encoded_row columns) 4096 (table_pages columns rows) row
table_pages-push columns rows row = with_rows-append (encoded_row columns) 4096 no_pages rows (row ∷ [])

-- a row that fits goes on the last page
pub on_last : {A : Type 0} (encoded : A → List ℕ) (room : ℕ) (pages : Pages A) (row : A) → last_end encoded pages + length (framed (encoded row)) ≤ room
    → pages_with_row encoded room pages row ≡ record { full = pages.full; last = pages.last ++ row ∷ [] }
on_last {A} encoded room pages row fits =
    let on : Pages A = record { full = pages.full; last = pages.last ++ row ∷ [] } in
    let next : Pages A = record { full = pages.full ++ pages.last ∷ []; last = row ∷ [] } in
    ap (λ (b : Bool). if b then on else next) (le-leb (last_end encoded pages + length (framed (encoded row))) room fits)

-- one that doesn't, on the next
pub on_next : {A : Type 0} (encoded : A → List ℕ) (room : ℕ) (pages : Pages A) (row : A) → room < last_end encoded pages + length (framed (encoded row))
    → pages_with_row encoded room pages row ≡ record { full = pages.full ++ pages.last ∷ []; last = row ∷ [] }
on_next {A} encoded room pages row long =
    let on : Pages A = record { full = pages.full; last = pages.last ++ row ∷ [] } in
    let next : Pages A = record { full = pages.full ++ pages.last ∷ []; last = row ∷ [] } in
    ap (λ (b : Bool). if b then on else next) (lt-leb (last_end encoded pages + length (framed (encoded row))) room long)

-- a page with a row counts
pub count_of-push : {A : Type 0} (full : List (List A)) (rows : List A) (row : A) → page_count_of full (rows ++ row ∷ []) ≡ length full + 1
count_of-push full [] row = refl
count_of-push full (first ∷ rest) row = refl

count_within : {A : Type 0} (full : List (List A)) (rows : List A) → page_count_of full rows ≤ length full + 1
count_within full [] = omega arith
count_within full (row ∷ rows) = omega arith

pub count_most : {A : Type 0} (pages : Pages A) → page_count pages ≤ length pages.full + 1
count_most pages = count_within pages.full pages.last

-- there are no fewer pages with one row more
pub count_with_row : {A : Type 0} (encoded : A → List ℕ) (room : ℕ) (pages : Pages A) (row : A) → page_count pages ≤ page_count (pages_with_row encoded room pages row)
count_with_row {A} encoded room pages row = elim (cases_lt room (last_end encoded pages + length (framed (encoded row)))) [
  | inl long ↦
      let next = ap (λ (p : Pages A). page_count p) (on_next encoded room pages row long) in
      omega (arith, next, count_most pages, length-append pages.full (pages.last ∷ []))
  | inr fits ↦
      let on = ap (λ (p : Pages A). page_count p) (on_last encoded room pages row fits) in
      omega (arith, on, count_most pages, count_of-push pages.full pages.last row)
]

-- and with some
pub count_with_rows : {A : Type 0} (encoded : A → List ℕ) (room : ℕ) (pages : Pages A) (rows : List A) → page_count pages ≤ page_count (pages_with_rows encoded room pages rows)
count_with_rows encoded room pages [] = omega arith
count_with_rows encoded room pages (row ∷ rows) =
    omega (arith, count_with_row encoded room pages row, count_with_rows encoded room (pages_with_row encoded room pages row) rows)

-- a table that has no room for some rows has none for more
pub more_exceed : (sizes : Sizes) (columns : List Column) (rows more : List (List Value)) → exceeds sizes columns rows ≡ true → exceeds sizes columns (rows ++ more) ≡ true
more_exceed sizes columns rows more full =
    let count = length-append rows more in
    let pages = count_with_rows (encoded_row columns) 4096 (table_pages columns rows) more in
    let all : page_count (table_pages columns (rows ++ more)) ≡ page_count (pages_with_rows (encoded_row columns) 4096 (table_pages columns rows) more) =
    ap (λ (p : Pages (List Value)). page_count p) (with_rows-append (encoded_row columns) 4096 no_pages rows more) in
    ⊎_elim
    (λ many.
    let before = ltb-true 1048575 (length rows) many in
    or_left (nat_lt 1048575 (length (rows ++ more))) _ (lt-ltb 1048575 (length (rows ++ more)) (omega (arith, before, count))))
    (λ long.
    let before = ltb-true sizes.table (page_count (table_pages columns rows)) long in
    or_right (nat_lt 1048575 (length (rows ++ more))) _ (lt-ltb sizes.table (page_count (table_pages columns (rows ++ more))) (omega (arith, before, pages, all))))
    (or_cases (nat_lt 1048575 (length rows)) (nat_lt sizes.table (page_count (table_pages columns rows))) full)
