-- Rows on pages. A page gives a number of its bytes to rows: all of a table's page, fewer where a link stands before them.
use Rattle.std.specs.Prelude.{◌≡◌, ◌⊎◌, ℕ, ◌+◌, ◌^◌, ◌<◌, ◌≤◌, nat_le, if◌then◌else◌, List, [], ◌∷◌, ◌++◌, length, take, drop}
use Rattle.std.specs.List.{AllByRecursion}
use Rattle.row_page.specs.Framed.{framed, rows_bytes}

-- A row's bytes are some, and their number fits the two bytes before them.
pub record IsRow (bytes : List ℕ) : Type 0 where
  pub some : 0 < length bytes
  pub short : length bytes < 2 ^ 16

-- two bytes that no row begins with: a length of 0
abbrev pub no_row : List ℕ
no_row = 0 ∷ 0 ∷ []

-- the rows of a page end behind so many bytes: two zeros stand there, or fewer than two bytes are left
abbrev pub EndsBehind : ℕ → List ℕ → Type 0
EndsBehind n bytes = (length bytes < n + 2) ⊎ (take 2 (drop n bytes) ≡ no_row)

-- These rows, and no others, stand on a page with these bytes: one behind the other from its first byte on.
pub record IsPage (rows : List (List ℕ)) (bytes : List ℕ) : Type 0 where
  pub each : AllByRecursion IsRow rows
  pub front : take (length (rows_bytes (λ row. row) rows)) bytes ≡ rows_bytes (λ row. row) rows
  pub within : length (rows_bytes (λ row. row) rows) ≤ length bytes
  pub ends : EndsBehind (length (rows_bytes (λ row. row) rows)) bytes

-- these bytes are those of no page
abbrev pub IsNoPage : List ℕ → Type 0
IsNoPage bytes = (rows : List (List ℕ)) → IsPage rows bytes → ⊥

-- a row stands at the front of these bytes · none does
pub record IsAtFront (row bytes : List ℕ) : Type 0 where
  pub is : IsRow row
  pub within : length (framed row) ≤ length bytes
  pub front : take (length (framed row)) bytes ≡ framed row

abbrev pub IsNoFront : List ℕ → Type 0
IsNoFront bytes = (row : List ℕ) → IsAtFront row bytes → ⊥

-- what is written behind so many bytes of rows on a page of so many bytes that is followed by another
abbrev pub page_end : ℕ → ℕ → List ℕ
page_end room used = if nat_le (used + 2) room then no_row else []

-- the bytes of a page that is followed by another
abbrev pub ended : ℕ → List ℕ → List ℕ
ended room bytes = bytes ++ page_end room (length bytes)

-- Rows on pages: the pages that are followed by another, and the last one, which the next row may go on.
pub record Pages (A : Type 0) : Type 0 where
  pub full : List (List A)
  pub last : List A

abbrev pub no_pages : {A : Type 0} → Pages A
no_pages = record { full = []; last = [] }

-- how many pages there are: none of no rows
abbrev pub page_count_of : {A : Type 0} → List (List A) → List A → ℕ
page_count_of full [] = length full
page_count_of full (row ∷ rows) = length full + 1

abbrev pub page_count : {A : Type 0} → Pages A → ℕ
page_count pages = page_count_of pages.full pages.last

-- how many bytes the rows of the last page take
abbrev pub last_end : {A : Type 0} → (A → List ℕ) → Pages A → ℕ
last_end encoded pages = length (rows_bytes encoded pages.last)

-- a row goes on the last page where it fits, else on the next
abbrev pub pages_with_row : {A : Type 0} → (A → List ℕ) → ℕ → Pages A → A → Pages A
pages_with_row encoded room pages row =
    if nat_le (last_end encoded pages + length (framed (encoded row))) room
    then record { full = pages.full; last = pages.last ++ row ∷ [] }
    else record { full = pages.full ++ pages.last ∷ []; last = row ∷ [] }

abbrev pub pages_with_rows : {A : Type 0} → (A → List ℕ) → ℕ → Pages A → List A → Pages A
pages_with_rows encoded room pages [] = pages
pages_with_rows encoded room pages (row ∷ rows) = pages_with_rows encoded room (pages_with_row encoded room pages row) rows

-- The pages that rows take, of so many bytes each.
abbrev pub pages_of_rows : {A : Type 0} → (A → List ℕ) → ℕ → List A → Pages A
pages_of_rows encoded room rows = pages_with_rows encoded room no_pages rows
