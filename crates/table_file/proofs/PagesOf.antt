-- What the pages have that rows take.
use Rattle.std.proofs.Common.{◌≡◌, ℕ, ◌+◌, ◌-◌, ◌≤◌, ◌==◌, nat_le, if◌then◌else◌, List, [], ◌∷◌, ◌++◌, length, refl, sym, ap, arith, length-append}
use Rattle.std.proofs.lemmas.Bool.{cond-false, cond_both, leb-true, ne_eqb}
use Rattle.std.proofs.lemmas.List.{append-nil}
use Rattle.std.specs.List.{AllByRecursion}
use Rattle.row_page.specs.Framed.{framed, rows_bytes}
use Rattle.row_page.specs.Pages.{Pages, page_count_of, last_end, no_pages, pages_of_rows, pages_with_row, pages_with_rows}
use Rattle.row_page.proofs.Framing.{length-framed, rows_bytes-push}
use Rattle.table_file.proofs.Lists.{all_append}

-- where the last page has no row there is no page
pub record IsBegun {A : Type 0} (pages : Pages A) : Type 0 where
  pub none : pages.last ≡ [] → pages.full ≡ []

append_some : {A : Type 0} (xs : List A) (y : A) → xs ++ y ∷ [] ≡ [] → ⊥
append_some [] y none = absurd (cc)
append_some (x ∷ xs) y none = absurd (cc)

begun_with-row : {A : Type 0} (encoded : A → List ℕ) (room : ℕ) (pages : Pages A) (row : A) → IsBegun (pages_with_row encoded room pages row)
begun_with-row {A} encoded room pages row =
    cond_both (nat_le (last_end encoded pages + length (framed (encoded row))) room) (record { full = pages.full; last = pages.last ++ row ∷ [] }) (record { full = pages.full ++ pages.last ∷ []; last = row ∷ [] })
    (λ (p : Pages A). IsBegun p) (λ fits. record { none = λ none. absurd (append_some pages.last row none) }) (λ no. record { none = λ none. absurd (cc) })

begun_with-rows : {A : Type 0} (encoded : A → List ℕ) (room : ℕ) (pages : Pages A) (rows : List A) → IsBegun pages → IsBegun (pages_with_rows encoded room pages rows)
begun_with-rows encoded room pages [] begun = begun
begun_with-rows encoded room pages (row ∷ rows) begun = begun_with-rows encoded room (pages_with_row encoded room pages row) rows (begun_with-row encoded room pages row)

pub pages_begun : {A : Type 0} (encoded : A → List ℕ) (room : ℕ) (rows : List A) → IsBegun (pages_of_rows encoded room rows)
pages_begun encoded room rows = begun_with-rows encoded room no_pages rows (record { none = λ none. refl })

-- how many pages are followed by another
pub full_count : {A : Type 0} (full : List (List A)) (last : List A) → (last ≡ [] → full ≡ []) → page_count_of full last - 1 ≡ length full
full_count full [] begun = let none : length full ≡ 0 = ap length (begun refl) in omega (arith, none)
full_count full (row ∷ rows) begun = omega arith

-- a row has bytes on its page
pub rows_some : {A : Type 0} (encoded : A → List ℕ) (row : A) (rows : List A) → 2 ≤ length (rows_bytes encoded (row ∷ rows))
rows_some encoded row rows = omega (arith, length-framed (encoded row), length-append (framed (encoded row)) (rows_bytes encoded rows))

pub count_told : {A : Type 0} (encoded : A → List ℕ) (full : List (List A)) (last : List A)
    → page_count_of full last ≡ if length (rows_bytes encoded last) == 0 then length full else length full + 1
count_told encoded full [] = refl
count_told encoded full (row ∷ rows) =
    let some = rows_some encoded row rows in
    sym (cond-false (length (rows_bytes encoded (row ∷ rows)) == 0) (length full) (length full + 1) (ne_eqb (length (rows_bytes encoded (row ∷ rows))) 0 (λ none. absurd (omega (arith, some, none)))))

-- A page that has rows of a kind, which are no more than there is room for.
pub record IsFitting {A : Type 0} (P : A → Type 0) (encoded : A → List ℕ) (room : ℕ) (page : List A) : Type 0 where
  pub each : AllByRecursion P page
  pub within : length (rows_bytes encoded page) ≤ room

pub record AreFitting {A : Type 0} (P : A → Type 0) (encoded : A → List ℕ) (room : ℕ) (pages : Pages A) : Type 0 where
  pub full : AllByRecursion (IsFitting P encoded room) pages.full
  pub last : IsFitting P encoded room pages.last

fitting_with-row : {A : Type 0} (P : A → Type 0) (encoded : A → List ℕ) (room : ℕ) (pages : Pages A) (row : A)
    → P row → length (framed (encoded row)) ≤ room → AreFitting P encoded room pages → AreFitting P encoded room (pages_with_row encoded room pages row)
fitting_with-row {A} P encoded room pages row has short fitting =
    cond_both (nat_le (last_end encoded pages + length (framed (encoded row))) room) (record { full = pages.full; last = pages.last ++ row ∷ [] }) (record { full = pages.full ++ pages.last ∷ []; last = row ∷ [] })
    (λ (p : Pages A). AreFitting P encoded room p)
    (λ fits. record {
      full = fitting.full;
      last = record {
        each = all_append P pages.last (row ∷ []) fitting.last.each (has, tt);
        within = omega (arith, ap length (rows_bytes-push encoded pages.last row), length-append (rows_bytes encoded pages.last) (framed (encoded row)), leb-true _ _ fits);
      };
    })
    (λ no. record {
      full = all_append (IsFitting P encoded room) pages.full (pages.last ∷ []) fitting.full (fitting.last, tt);
      last = record { each = (has, tt); within = omega (arith, ap length (append-nil (framed (encoded row))), short) };
    })

fitting_with-rows : {A : Type 0} (P : A → Type 0) (encoded : A → List ℕ) (room : ℕ) (pages : Pages A) (rows : List A)
    → AllByRecursion P rows → ((row : A) → P row → length (framed (encoded row)) ≤ room) → AreFitting P encoded room pages → AreFitting P encoded room (pages_with_rows encoded room pages rows)
fitting_with-rows P encoded room pages [] all short fitting = fitting
fitting_with-rows P encoded room pages (row ∷ rows) all short fitting =
    fitting_with-rows P encoded room (pages_with_row encoded room pages row) rows all.1 short (fitting_with-row P encoded room pages row all.0 (short row all.0) fitting)

pub pages_fitting : {A : Type 0} (P : A → Type 0) (encoded : A → List ℕ) (room : ℕ) (rows : List A)
    → AllByRecursion P rows → ((row : A) → P row → length (framed (encoded row)) ≤ room) → AreFitting P encoded room (pages_of_rows encoded room rows)
pages_fitting P encoded room rows all short =
    fitting_with-rows P encoded room no_pages rows all short (record { full = tt; last = record { each = tt; within = omega arith } })
