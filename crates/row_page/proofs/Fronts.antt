-- How a page is its first row and what stands behind it.
use Rattle.std.proofs.Common.{◌≡◌, ℕ, ◌+◌, ◌<◌, ◌≤◌, List, [], ◌∷◌, ◌++◌, length, take, drop, refl, sym, ap, ◌∙◌, subst, inl, inr, ⊎_elim, arith, length-append, length-drop}
use Rattle.std.proofs.Math.Seq.{drop-append_seam, take-add, take-append_seam}
use Rattle.std.proofs.lemmas.List.{drop-drop, drop-take, take-take}
use Rattle.byteorder.specs.Endian.{little_number}
use Rattle.byteorder.specs.Numbers.{little_from-take, little_number-reads_back}
use Rattle.row_page.specs.Framed.{framed, rows_bytes}
use Rattle.row_page.specs.Pages.{EndsBehind, IsAtFront, IsNoFront, IsPage}
use Rattle.row_page.proofs.Framing.{length-framed}

-- how many bytes rows take that are bytes themselves
abbrev pub size_of : List (List ℕ) → ℕ
size_of rows = length (rows_bytes (λ row. row) rows)

-- how many bytes a row and others behind it take
pub size-cons : (row : List ℕ) (rest : List (List ℕ)) → size_of (row ∷ rest) ≡ length (framed row) + size_of rest
size-cons row rest = length-append (framed row) (rows_bytes (λ row. row) rest)

-- the number before the bytes of the row that stands at the front
length_there : (row bytes : List ℕ) → IsAtFront row bytes → little_number 2 bytes ≡ length row
length_there row bytes there =
    let long : length (framed row) ≡ 2 + length row = length-framed row in
    let short : length row < 65536 = there.is.short in
    sym (little_from-take 0 2 (length (framed row)) bytes (omega (arith, long)))
    ∙ ap (little_number 2) there.front ∙ little_number-reads_back 2 (length row) row (omega (arith, short))

-- and its bytes
bytes_there : (row bytes : List ℕ) → IsAtFront row bytes → take (length row) (drop 2 bytes) ≡ row
bytes_there row bytes there = sym (drop-take 2 (length row) bytes) ∙ ap (λ (n : ℕ). drop 2 (take n bytes)) (sym (length-framed row)) ∙ ap (drop 2) there.front

-- one row at most stands at the front of bytes
pub same_front : (row other bytes : List ℕ) → IsAtFront row bytes → IsAtFront other bytes → row ≡ other
same_front row other bytes there here =
    sym (bytes_there row bytes there) ∙ ap (λ (n : ℕ). take n (drop 2 bytes)) (sym (length_there row bytes there) ∙ length_there other bytes here) ∙ bytes_there other bytes here

-- where rows end no row stands
pub none_at_end : (row bytes : List ℕ) → IsAtFront row bytes → EndsBehind 0 bytes → ⊥
none_at_end row bytes there ends =
    let some = there.is.some in
    let within = there.within in
    ⊎_elim (λ few. omega (arith, few, within, length-framed row))
    (λ none. let zero_there : little_number 2 bytes ≡ 0 = sym (little_from-take 0 2 2 bytes (omega arith)) ∙ ap (little_number 2) none in omega (arith, zero_there, length_there row bytes there, some)) ends

-- where rows end behind some bytes, told of what stands behind the first of these
pub ends_behind : (front more : ℕ) (bytes : List ℕ) → front ≤ length bytes → EndsBehind (front + more) bytes → EndsBehind more (drop front bytes)
ends_behind front more bytes within ends =
    ⊎_elim (λ few. inl (omega (arith, few, within, length-drop front bytes))) (λ none. inr (ap (take 2) (drop-drop more front bytes) ∙ none)) ends

pub ends_with : (front more : ℕ) (bytes : List ℕ) → front ≤ length bytes → EndsBehind more (drop front bytes) → EndsBehind (front + more) bytes
ends_with front more bytes within ends =
    ⊎_elim (λ few. inl (omega (arith, few, within, length-drop front bytes))) (λ none. inr (ap (take 2) (sym (drop-drop more front bytes)) ∙ none)) ends

-- the first row of a page stands at its front
pub first_row : (row : List ℕ) (rest : List (List ℕ)) (bytes : List ℕ) → IsPage (row ∷ rest) bytes → IsAtFront row bytes
first_row row rest bytes page =
    let size = size-cons row rest in
    let behind = rows_bytes (λ row. row) rest in
    let long = page.within in
    record {
      is = page.each.0;
      within = omega (arith, size, long);
      front =
          sym (take-take (length (framed row)) (size_of (row ∷ rest)) bytes (omega (arith, size)))
          ∙ ap (take (length (framed row))) page.front ∙ take-append_seam (framed row) behind;
    }

-- what stands behind it is a page with the others
pub page_behind : (row : List ℕ) (rest : List (List ℕ)) (bytes : List ℕ) → IsPage (row ∷ rest) bytes → IsPage rest (drop (length (framed row)) bytes)
page_behind row rest bytes page =
    let size = size-cons row rest in
    let behind = rows_bytes (λ row. row) rest in
    let front = length (framed row) in
    let long = page.within in
    record {
      each = page.each.1;
      front = sym (drop-take front (size_of rest) bytes) ∙ ap (λ (n : ℕ). drop front (take n bytes)) (sym size) ∙ ap (drop front) page.front ∙ drop-append_seam (framed row) behind;
      within = omega (arith, size, long, length-drop front bytes);
      ends = ends_behind front (size_of rest) bytes (omega (arith, size, long)) (subst (λ (n : ℕ). EndsBehind n bytes) size page.ends);
    }

-- a row in front of a page, with which it is one
pub page_with : (row : List ℕ) (rest : List (List ℕ)) (bytes : List ℕ) → IsAtFront row bytes → IsPage rest (drop (length (framed row)) bytes) → IsPage (row ∷ rest) bytes
page_with row rest bytes there page =
    let size = size-cons row rest in
    let front = length (framed row) in
    let long = page.within in
    let within = there.within in
    record {
      each = (there.is, page.each);
      front = ap (λ (n : ℕ). take n bytes) size ∙ take-add front (size_of rest) bytes ∙ ap (λ (l : List ℕ). l ++ take (size_of rest) (drop front bytes)) there.front ∙ ap (λ (l : List ℕ). framed row ++ l) page.front;
      within = omega (arith, size, long, within, length-drop front bytes);
      ends = subst (λ (n : ℕ). EndsBehind n bytes) (sym size) (ends_with front (size_of rest) bytes within page.ends);
    }

-- Of a page that was read up to a byte: what is left is that of its other rows, and whatever is left belongs to some page.
pub record IsReadTo (at : ℕ) (bytes : List ℕ) : Type 0 where
  pub within : at ≤ length bytes
  pub rest : (rows : List (List ℕ)) → IsPage rows bytes → (others : List (List ℕ)) × IsPage others (drop at bytes) × (size_of rows ≡ at + size_of others)
  pub whole : (others : List (List ℕ)) → IsPage others (drop at bytes) → (rows : List (List ℕ)) × IsPage rows bytes

pub none_read : (bytes : List ℕ) → IsReadTo 0 bytes
none_read bytes = record {
  within = omega arith;
  rest = λ rows page. (rows, page, omega arith);
  whole = λ rows page. (rows, page);
}

-- behind a row that is read, the others of a page are left
others_left : (row : List ℕ) (rows : List (List ℕ)) (bytes : List ℕ) → IsAtFront row bytes → IsPage rows bytes
    → (others : List (List ℕ)) × IsPage others (drop (length (framed row)) bytes) × (size_of rows ≡ length (framed row) + size_of others)
others_left row [] bytes there page = absurd (none_at_end row bytes there page.ends)
others_left row (first ∷ others) bytes there page =
    let same : first ≡ row = same_front first row bytes (first_row first others bytes page) there in (
      others,
      subst (λ (l : List ℕ). IsPage others (drop (length (framed l)) bytes)) same (page_behind first others bytes page),
      size-cons first others ∙ ap (λ (l : List ℕ). length (framed l) + size_of others) same,
    )

pub row_read : (at next : ℕ) (row bytes : List ℕ) → next ≡ at + (2 + length row) → IsAtFront row (drop at bytes) → IsReadTo at bytes → IsReadTo next bytes
row_read at next row bytes is there read =
    let long = length-framed row in
    let within = there.within in
    let before = read.within in
    let place : at + length (framed row) ≡ next = omega (arith, is, long) in
    let behind : drop (length (framed row)) (drop at bytes) ≡ drop next bytes = drop-drop (length (framed row)) at bytes ∙ ap (λ (n : ℕ). drop n bytes) place in
    record {
      within = omega (arith, place, within, before, length-drop at bytes);
      rest = λ rows page.
          let left = read.rest rows page in
          let others = others_left row left.0 (drop at bytes) there left.1 in
          let size = others.2 in
          let whole = left.2 in
          (others.0, subst (IsPage others.0) behind others.1, omega (arith, size, whole, place));
      whole = λ others page. read.whole (row ∷ others) (page_with row others (drop at bytes) there (subst (IsPage others) (sym behind) page));
    }

ends_here : (at : ℕ) (bytes : List ℕ) → at ≤ length bytes → EndsBehind 0 (drop at bytes) → EndsBehind at bytes
ends_here at bytes within ends = let same : at + 0 ≡ at = omega arith in subst (λ (n : ℕ). EndsBehind n bytes) same (ends_with at 0 bytes within ends)

-- where no row stands, no others are left of a page
none_left : (at : ℕ) (bytes : List ℕ) (others : List (List ℕ)) → at ≤ length bytes → IsNoFront (drop at bytes) → IsPage others (drop at bytes) → (size_of others ≡ 0) × EndsBehind at bytes
none_left at bytes [] within none page = (refl, ends_here at bytes within page.ends)
none_left at bytes (row ∷ others) within none page = absurd (none row (first_row row others (drop at bytes) page))

-- a page that was read up to where no row stands has its rows up to there
pub end_of_rows : (at : ℕ) (bytes : List ℕ) (rows : List (List ℕ)) → IsReadTo at bytes → IsNoFront (drop at bytes) → IsPage rows bytes → (at ≡ size_of rows) × EndsBehind at bytes
end_of_rows at bytes rows read none page =
    let left = read.rest rows page in
    let end = none_left at bytes left.0 read.within none left.1 in
    let size = left.2 in
    let no_more = end.0 in
    (omega (arith, size, no_more), end.1)

-- and where rows end there, the bytes are those of a page
pub some_page : (at : ℕ) (bytes : List ℕ) → IsReadTo at bytes → EndsBehind at bytes → (rows : List (List ℕ)) × IsPage rows bytes
some_page at bytes read ends = read.whole [] (record {
  each = tt;
  front = refl;
  within = omega arith;
  ends = let same : at + 0 ≡ at = omega arith in ends_behind at 0 bytes read.within (subst (λ (n : ℕ). EndsBehind n bytes) (sym same) ends);
})
