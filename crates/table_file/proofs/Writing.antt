-- How a table goes on by a row that a writer adds.
use Rattle.std.proofs.Common.{◌≡◌, ◌⊎◌, ℕ, ◌+◌, ◌-◌, ◌*◌, ◌<◌, ◌≤◌, nat_le, nat_lt, ◌||◌, ◌&&◌, ◌==◌, List, [], ◌∷◌, ◌++◌, length, take, drop, sym, ap, ◌∙◌, subst, inl, inr, append-nil, append_assoc, arith, length-append}
use Rattle.std.proofs.Math.Seq.{take-append_seam}
use Rattle.std.proofs.lemmas.Bool.{cases_lt}
use Rattle.std.proofs.lemmas.Bool.Decides.{nat_tests}
use Rattle.std.proofs.lemmas.List.{drop-append-le, drop_all, length-take-le, take-append-drop, take-append-le, take_all}
use Rattle.page_store.specs.Store.{AreaHolds, Contents}
use Rattle.page_store.proofs.AreaPieces.{holds_both}
use Rattle.page_store.specs.declared.pages.Sizes.{Sizes}
use Rattle.qsr_value.specs.Encoding.{encoded_row}
use Rattle.qsr_value.specs.declared.row.Value.{Value}
use Rattle.qsr_value.specs.declared.schema.Column.{Column}
use Rattle.row_page.specs.Framed.{framed, rows_bytes}
use Rattle.row_page.specs.Pages.{Pages, last_end, page_count, page_end}
use Rattle.row_page.proofs.Framing.{row_behind, rows_bytes-push}
use Rattle.table_file.specs.Appending.{HasAdded, HasCounted, is_full, written_to}
use Rattle.table_file.specs.Refusals.{exceeds}
use Rattle.table_file.specs.Tables.{AreaGrows, FullStand, RowsStand, table_pages, table_part}
use Rattle.table_file.specs.declared.writer.TableWriter.{TableWriter}
use Rattle.table_file.proofs.Paging.{count_of-push, on_last, on_next, table_pages-push}
use Rattle.table_file.proofs.Standing.{full_push, full_still, holds_still}

-- the pages of a table with one row more, which goes on the last of them
pages_on_last : (columns : List Column) (rows : List (List Value)) (row : List Value) → last_end (encoded_row columns) (table_pages columns rows) + length (framed (encoded_row columns row)) ≤ 4096
    → table_pages columns (rows ++ row ∷ []) ≡ record { full = (table_pages columns rows).full; last = (table_pages columns rows).last ++ row ∷ [] }
pages_on_last columns rows row fits = table_pages-push columns rows row ∙ on_last (encoded_row columns) 4096 (table_pages columns rows) row fits

-- which goes on the next
pages_on_next : (columns : List Column) (rows : List (List Value)) (row : List Value) → 4096 < last_end (encoded_row columns) (table_pages columns rows) + length (framed (encoded_row columns row))
    → table_pages columns (rows ++ row ∷ []) ≡ record { full = (table_pages columns rows).full ++ (table_pages columns rows).last ∷ []; last = row ∷ [] }
pages_on_next columns rows row long = table_pages-push columns rows row ∙ on_next (encoded_row columns) 4096 (table_pages columns rows) row long

-- the tests of both, where so many rows are so many pages: no more pages than before, or one more
same_tests : (table rows page end size count pages : ℕ) → rows ≤ 1048575 → page < table → count ≡ rows + 1
    → ((end + size ≤ 4096) × (pages ≡ page + 1)) ⊎ ((4096 < end + size) × (pages ≡ page + 2))
    → ((rows == 1048575) || (nat_lt 4096 (end + size) && nat_le table (page + 1))) ≡ (nat_lt 1048575 count || nat_lt table pages)
same_tests table rows page end size count pages few on counted cases = grind (arith, nat_tests)

-- What is full for one row more is what exceeds with it.
pub full_means : (sizes : Sizes) (columns : List Column) (rows : List (List Value)) (row : List Value) (w : TableWriter) → w.rows ≤ 1048575 → w.page < sizes.table → HasCounted columns rows w
    → is_full sizes w (length (framed (encoded_row columns row))) ≡ exceeds sizes columns (rows ++ row ∷ [])
full_means sizes columns rows row w few on has =
    let count = has.count in
    let page = has.page in
    let end = has.end in
    let more = length-append rows (row ∷ []) in
    let size = length (framed (encoded_row columns row)) in
    elim (cases_lt 4096 (last_end (encoded_row columns) (table_pages columns rows) + size)) [
      | inl long ↦
          let pages : page_count (table_pages columns (rows ++ row ∷ [])) ≡ length (table_pages columns rows).full + 2 =
          ap (λ (p : Pages (List Value)). page_count p) (pages_on_next columns rows row long)
          ∙ omega (arith, length-append (table_pages columns rows).full ((table_pages columns rows).last ∷ [])) in
          same_tests sizes.table w.rows w.page w.end size _ _ few on (omega (arith, more, count)) (inr (omega (arith, long, end), omega (arith, pages, page)))
      | inr fits ↦
          let pages : page_count (table_pages columns (rows ++ row ∷ [])) ≡ length (table_pages columns rows).full + 1 =
          ap (λ (p : Pages (List Value)). page_count p) (pages_on_last columns rows row fits) ∙ count_of-push (table_pages columns rows).full (table_pages columns rows).last row in
          same_tests sizes.table w.rows w.page w.end size _ _ few on (omega (arith, more, count)) (inl (omega (arith, fits, end), omega (arith, pages, page)))
    ]

-- one row more is counted where it goes on the last page
pub counted_on_last : (columns : List Column) (rows : List (List Value)) (row : List Value) (old new : TableWriter) → new.rows ≡ old.rows + 1 → new.page ≡ old.page
    → new.end ≡ old.end + length (framed (encoded_row columns row)) → new.end ≤ 4096 → HasCounted columns rows old → HasCounted columns (rows ++ row ∷ []) new
counted_on_last columns rows row old new more same ends within has =
    let count = has.count in
    let end = has.end in
    let pages = pages_on_last columns rows row (omega (arith, end, ends, within)) in
    let last = (table_pages columns rows).last in
    record {
      count = omega (arith, more, count, length-append rows (row ∷ []));
      page = same ∙ has.page ∙ sym (ap (λ (p : Pages (List Value)). length p.full) pages);
      end =
          ends ∙ ap (λ (n : ℕ). n + length (framed (encoded_row columns row))) end
          ∙ sym (ap (last_end (encoded_row columns)) pages ∙ ap length (rows_bytes-push (encoded_row columns) last row) ∙ length-append (rows_bytes (encoded_row columns) last) (framed (encoded_row columns row)));
    }

-- and where it goes on the next
pub counted_on_next : (columns : List Column) (rows : List (List Value)) (row : List Value) (old new : TableWriter) → new.rows ≡ old.rows + 1 → new.page ≡ old.page + 1
    → new.end ≡ length (framed (encoded_row columns row)) → 4096 < old.end + length (framed (encoded_row columns row)) → HasCounted columns rows old → HasCounted columns (rows ++ row ∷ []) new
counted_on_next columns rows row old new more next ends long has =
    let count = has.count in
    let end = has.end in
    let page = has.page in
    let pages = pages_on_next columns rows row (omega (arith, end, long)) in
    let full = (table_pages columns rows).full in
    record {
      count = omega (arith, more, count, length-append rows (row ∷ []));
      page = omega (arith, next, page, ap (λ (p : Pages (List Value)). length p.full) pages, length-append full ((table_pages columns rows).last ∷ []));
      end = ends ∙ sym (ap (last_end (encoded_row columns)) pages ∙ ap length (append-nil (framed (encoded_row columns row))));
    }

-- what is held back of bytes that end there, with more behind them
held_with : (written end next : ℕ) (page put more rest bytes : List ℕ) → written ≤ end → end ≤ length page → next ≡ end + length more → put ≡ take end page ++ (more ++ rest)
    → drop written bytes ≡ take (end - written) (drop written page) → drop written bytes ++ more ≡ take (next - written) (drop written put)
held_with written end next page put more rest bytes on within ends is held =
    let place : written + (end - written) ≡ end = omega arith in
    ap (λ (l : List ℕ). l ++ more) held ∙ sym (row_behind written (end - written) (next - written) page more rest (omega arith) (omega (arith, ends)))
    ∙ ap (λ (n : ℕ). take (next - written) (drop written (take n page ++ (more ++ rest)))) place ∙ ap (λ (l : List ℕ). take (next - written) (drop written l)) (sym is)

-- These pages stand in the area of a writer's table, but for the last bytes, which are held back.
record StandTo (columns : List Column) (pages : Pages (List Value)) (w : TableWriter) (m : Contents) : Type 0 where
  pub full : FullStand columns (table_part w.table) 0 pages.full m
  pub written : AreaHolds (table_part w.table) (4096 * w.page) (take w.written (rows_bytes (encoded_row columns) pages.last)) m
  pub held : drop w.written (rows_bytes (encoded_row columns) pages.last) ≡ take (w.end - w.written) (drop w.written w.bytes)

added : (columns : List Column) (rows : List (List Value)) (pages : Pages (List Value)) (w : TableWriter) (m : Contents) → table_pages columns rows ≡ pages → HasCounted columns rows w
    → StandTo columns pages w m → HasAdded columns rows w m
added columns rows pages w m are counted stand =
    let here = subst (λ (p : Pages (List Value)). StandTo columns p w m) (sym are) stand in
    record { counted = counted; full = here.full; written = here.written; held = here.held }

-- One row more, on the last page: the area stays as it is.
pub added_on_last : (columns : List Column) (rows : List (List Value)) (row : List Value) (rest : List ℕ) (old new : TableWriter) (m : Contents) → old.written ≤ old.end → length old.bytes ≡ 4096
    → (new.table ≡ old.table) × (new.page ≡ old.page) × (new.written ≡ old.written) → new.rows ≡ old.rows + 1 → new.end ≡ old.end + length (framed (encoded_row columns row)) → new.end ≤ 4096
    → new.bytes ≡ take old.end old.bytes ++ (framed (encoded_row columns row) ++ rest) → HasAdded columns rows old m → HasAdded columns (rows ++ row ∷ []) new m
added_on_last columns rows row rest old new m on long setup more ends within put has =
    let end = has.counted.end in
    let last = (table_pages columns rows).last in
    let bytes = rows_bytes (encoded_row columns) last in
    let joined = rows_bytes-push (encoded_row columns) last row in
    let within_last : old.written ≤ length bytes = omega (arith, end, on) in
    let front : take new.written (rows_bytes (encoded_row columns) (last ++ row ∷ [])) ≡ take old.written bytes =
    ap (λ (n : ℕ). take n (rows_bytes (encoded_row columns) (last ++ row ∷ []))) setup.2 ∙ ap (take old.written) joined ∙ take-append-le old.written bytes (framed (encoded_row columns row)) within_last in
    let held : drop old.written (rows_bytes (encoded_row columns) (last ++ row ∷ [])) ≡ take (new.end - old.written) (drop old.written new.bytes) =
    ap (drop old.written) joined ∙ drop-append-le old.written bytes (framed (encoded_row columns row)) within_last
    ∙ held_with old.written old.end new.end old.bytes new.bytes (framed (encoded_row columns row)) rest bytes on (omega (arith, long, ends, within)) ends put has.held in
    added columns (rows ++ row ∷ []) _ new m (pages_on_last columns rows row (omega (arith, end, ends, within))) (counted_on_last columns rows row old new more setup.1 ends within has.counted)
    (record {
      full = subst (λ (n : ℕ). FullStand columns (table_part n) 0 (table_pages columns rows).full m) (sym setup.0) has.full;
      written =
          subst (λ (l : List ℕ). AreaHolds (table_part new.table) (4096 * new.page) l m) (sym front)
          (subst (λ (n : ℕ). AreaHolds (table_part n) (4096 * new.page) (take old.written bytes) m) (sym setup.0)
          (subst (λ (n : ℕ). AreaHolds (table_part old.table) (4096 * n) (take old.written bytes) m) (sym setup.1) has.written));
      held = subst (λ (n : ℕ). drop n (rows_bytes (encoded_row columns) (last ++ row ∷ [])) ≡ take (new.end - n) (drop n new.bytes)) (sym setup.2) held;
    })

-- One row more, on the next page, where that before it stands.
pub added_on_next : (columns : List Column) (rows : List (List Value)) (row : List Value) (page rest : List ℕ) (old new : TableWriter) (m : Contents) → new.table ≡ old.table → new.rows ≡ old.rows + 1
    → new.page ≡ old.page + 1 → new.written ≡ 0 → new.end ≡ length (framed (encoded_row columns row)) → 4096 < old.end + length (framed (encoded_row columns row))
    → new.bytes ≡ take 0 page ++ (framed (encoded_row columns row) ++ rest) → HasCounted columns rows old
    → FullStand columns (table_part old.table) 0 ((table_pages columns rows).full ++ (table_pages columns rows).last ∷ []) m → HasAdded columns (rows ++ row ∷ []) new m
added_on_next columns rows row page rest old new m same more next none ends long put counted stand =
    let end = counted.end in
    let bytes = framed (encoded_row columns row) in
    let whole : new.end - 0 ≡ new.end = omega arith in
    let held : bytes ++ [] ≡ take (new.end - 0) (drop 0 new.bytes) =
    append-nil bytes ∙ sym (ap (λ (n : ℕ). take n new.bytes) whole ∙ ap (λ (l : List ℕ). take new.end l) put ∙ ap (λ (n : ℕ). take n (bytes ++ rest)) ends ∙ take-append_seam bytes rest) in
    added columns (rows ++ row ∷ []) _ new m (pages_on_next columns rows row (omega (arith, end, long))) (counted_on_next columns rows row old new more next ends long counted)
    (record {
      full = subst (λ (n : ℕ). FullStand columns (table_part n) 0 ((table_pages columns rows).full ++ (table_pages columns rows).last ∷ []) m) (sym same) stand;
      written = subst (λ (n : ℕ). AreaHolds (table_part new.table) (4096 * new.page) (take n (bytes ++ [])) m) (sym none) (λ i never. absurd (omega (arith, never)));
      held = subst (λ (n : ℕ). drop n (bytes ++ []) ≡ take (new.end - n) (drop n new.bytes)) (sym none) held;
    })

-- Bytes stand whole, of which some stood before, where the others and more were written behind them.
last_stands : (part from written : ℕ) (bytes more : List ℕ) (old new : Contents) → written ≤ length bytes → AreaGrows part (from + written) old new → AreaHolds part from (take written bytes) old
    → AreaHolds part (from + written) (drop written bytes ++ more) new → AreaHolds part from (bytes ++ more) new
last_stands part from written bytes more old new within grows before behind =
    let count : length (take written bytes) ≡ written = length-take-le written bytes within in
    let all : take written bytes ++ (drop written bytes ++ more) ≡ bytes ++ more =
    sym (append_assoc (take written bytes) (drop written bytes) more) ∙ ap (λ (l : List ℕ). l ++ more) (take-append-drop written bytes) in
    subst (λ (l : List ℕ). AreaHolds part from l new) all
    (holds_both part from (from + written) (take written bytes) (drop written bytes ++ more) new (omega (arith, count))
    (holds_still part from (from + written) (take written bytes) old new (omega (arith, count)) grows.below before) behind)

-- the pages in front of the last stay
full_kept : (columns : List Column) (rows : List (List Value)) (w : TableWriter) (old new : Contents) → AreaGrows (table_part w.table) (written_to w) old new → HasAdded columns rows w old
    → FullStand columns (table_part w.table) 0 (table_pages columns rows).full new
full_kept columns rows w old new grows has =
    let page = has.counted.page in
    full_still columns (table_part w.table) 0 (written_to w) (table_pages columns rows).full old new (omega (arith, page)) grows.below has.full

-- The last page that is ended stands with those before it.
pub ended_stands : (columns : List Column) (rows : List (List Value)) (rest put : List ℕ) (end : ℕ) (w : TableWriter) (old new : Contents) → w.written ≤ w.end → w.end ≤ 4096 → length w.bytes ≡ 4096
    → end ≡ w.end + length (page_end (length w.bytes) w.end) → put ≡ take w.end w.bytes ++ (page_end (length w.bytes) w.end ++ rest) → AreaGrows (table_part w.table) (written_to w) old new
    → AreaHolds (table_part w.table) (written_to w) (take (end - w.written) (drop w.written put)) new → HasAdded columns rows w old
    → FullStand columns (table_part w.table) 0 ((table_pages columns rows).full ++ (table_pages columns rows).last ∷ []) new
ended_stands columns rows rest put end w old new on within long ends is grows wrote has =
    let part = table_part w.table in
    let page = has.counted.page in
    let last_long : w.end ≡ length (rows_bytes (encoded_row columns) (table_pages columns rows).last) = has.counted.end in
    let bytes = rows_bytes (encoded_row columns) (table_pages columns rows).last in
    let behind : page_end (length w.bytes) w.end ≡ page_end 4096 (length bytes) =
    ap (λ (n : ℕ). page_end n w.end) long ∙ ap (λ (n : ℕ). page_end 4096 n) last_long in
    let more : drop w.written bytes ++ page_end 4096 (length bytes) ≡ take (end - w.written) (drop w.written put) =
    ap (λ (l : List ℕ). drop w.written bytes ++ l) (sym behind)
    ∙ held_with w.written w.end end w.bytes put (page_end (length w.bytes) w.end) rest bytes on (omega (arith, long, within)) ends is has.held in
    full_push columns part 0 w.page (table_pages columns rows).full (table_pages columns rows).last new (omega (arith, page)) (full_kept columns rows w old new grows has)
    (last_stands part (4096 * w.page) w.written bytes (page_end 4096 (length bytes)) old new (omega (arith, on, last_long)) grows has.written
    (subst (λ (l : List ℕ). AreaHolds part (written_to w) l new) (sym more) wrote))
    (omega (arith, within, last_long))

-- All rows stand where what was held back of them was written.
pub all_stand : (columns : List Column) (rows : List (List Value)) (w : TableWriter) (old new : Contents) → w.written ≤ w.end → AreaGrows (table_part w.table) (written_to w) old new
    → AreaHolds (table_part w.table) (written_to w) (take (w.end - w.written) (drop w.written w.bytes)) new → HasAdded columns rows w old → RowsStand w.table columns rows new
all_stand columns rows w old new on grows wrote has =
    let part = table_part w.table in
    let page : w.page ≡ length (table_pages columns rows).full = has.counted.page in
    let last_long : w.end ≡ length (rows_bytes (encoded_row columns) (table_pages columns rows).last) = has.counted.end in
    let bytes = rows_bytes (encoded_row columns) (table_pages columns rows).last in
    let more : drop w.written bytes ++ [] ≡ take (w.end - w.written) (drop w.written w.bytes) = append-nil (drop w.written bytes) ∙ has.held in
    let last : AreaHolds part (4096 * w.page) (bytes ++ []) new =
    last_stands part (4096 * w.page) w.written bytes [] old new (omega (arith, on, last_long)) grows has.written
    (subst (λ (l : List ℕ). AreaHolds part (written_to w) l new) (sym more) wrote) in
    record {
      full = full_kept columns rows w old new grows has;
      last =
          subst (λ (n : ℕ). AreaHolds part (4096 * n) bytes new) page
          (subst (λ (l : List ℕ). AreaHolds part (4096 * w.page) l new) (append-nil bytes) last);
    }

-- A writer that holds nothing back has the rows that stand.
pub added_all : (columns : List Column) (rows : List (List Value)) (w : TableWriter) (m : Contents) → w.written ≡ w.end → HasCounted columns rows w → RowsStand w.table columns rows m → HasAdded columns rows w m
added_all columns rows w m none counted stand =
    let page = counted.page in
    let last_long : w.end ≡ length (rows_bytes (encoded_row columns) (table_pages columns rows).last) = counted.end in
    let bytes = rows_bytes (encoded_row columns) (table_pages columns rows).last in
    let nothing : w.end - w.written ≡ 0 = omega (arith, none) in
    record {
      counted = counted;
      full = stand.full;
      written =
          subst (λ (l : List ℕ). AreaHolds (table_part w.table) (4096 * w.page) l m) (sym (take_all w.written bytes (omega (arith, none, last_long))))
          (subst (λ (n : ℕ). AreaHolds (table_part w.table) (4096 * n) bytes m) (sym page) stand.last);
      held = drop_all w.written bytes (omega (arith, none, last_long)) ∙ sym (ap (λ (n : ℕ). take n (drop w.written w.bytes)) nothing);
    }
