-- How a listing goes on from row to row, and that its rows are those that stand in the area.
use Rattle.std.proofs.Common.{◌≡◌, ℕ, ◌+◌, ◌-◌, ◌<◌, ◌≤◌, List, [], ◌∷◌, ◌++◌, length, take, drop, refl, sym, ap, ◌∙◌, append_assoc, arith, length-append}
use Rattle.std.proofs.lemmas.List.Elements.{All-head, All-tail}
use Rattle.std.specs.Prelude.{All}
use Rattle.byteorder.specs.Endian.{little_number}
use Rattle.byteorder.specs.Numbers.{length-bytes_low_first, little_number-reads_back}
use Rattle.page_store.specs.Format.{little}
use Rattle.page_store.specs.Twin.{bytes_at}
use Rattle.qsr_value.specs.Encoding.{encoded_row}
use Rattle.qsr_value.specs.Values.{AreTexts, Fits}
use Rattle.qsr_value.specs.declared.row.Value.{Value}
use Rattle.qsr_value.specs.declared.schema.Column.{Column}
use Rattle.out_file.specs.Listing.{AreOutRows}
use Rattle.row_page.specs.Framed.{framed, rows_bytes}
use Rattle.row_page.proofs.Framing.{length-framed}
use Rattle.out_file.specs.Reading.{IsOnly, StandsTo}
use Rattle.out_file.proofs.Unfolded.{all_framed, framed_cons, framed_nil, rows_cons, rows_nil}
use Rattle.out_file.proofs.AreaBytes.{bytes_on, length-bytes_at}

-- bytes that are short enough to stand behind their length
abbrev pub IsShort : List ℕ → Type 0
IsShort bytes = length bytes < 65536

-- lists of one length in front are the same
same_front : (xs ys s t : List ℕ) → length xs ≡ length ys → xs ++ s ≡ ys ++ t → (xs ≡ ys) × (s ≡ t)
same_front [] [] s t long same = (refl, same)
same_front [] (y ∷ ys) s t long same = absurd (omega arith)
same_front (x ∷ xs) [] s t long same = absurd (omega arith)
same_front (x ∷ xs) (y ∷ ys) s t long same =
    let rest = same_front xs ys s t (omega arith) (ap (drop 1) same) in
    let first = ap (take 1) same in
    (cc (first, rest.0), rest.1)

-- framed bytes tell what they are and where they end
pub one_frame : (xs ys s t : List ℕ) → IsShort xs → IsShort ys → framed xs ++ s ≡ framed ys ++ t → (xs ≡ ys) × (s ≡ t)
one_frame xs ys s t x_short y_short same =
    let x_number = little 2 (length xs) in
    let y_number = little 2 (length ys) in
    let apart : x_number ++ (xs ++ s) ≡ y_number ++ (ys ++ t) = sym (append_assoc x_number xs s) ∙ same ∙ append_assoc y_number ys t in
    let long : length xs ≡ length ys =
    sym (little_number-reads_back 2 (length xs) (xs ++ s) (omega arith)) ∙ ap (little_number 2) apart ∙ little_number-reads_back 2 (length ys) (ys ++ t) (omega arith) in
    let behind = same_front x_number y_number (xs ++ s) (ys ++ t) (length-bytes_low_first 0 2 (length xs) ∙ sym (length-bytes_low_first 0 2 (length ys))) apart in
    same_front xs ys s t long behind.1

pub framed_long : (bytes rest : List ℕ) → length (framed bytes ++ rest) ≡ 2 + (length bytes + length rest)
framed_long bytes rest = omega (arith, length-append (framed bytes) rest, length-framed bytes)

-- the row's bytes are short enough
abbrev pub IsShortRow : List Column → List Value → Type 0
IsShortRow schema row = IsShort (encoded_row schema row)

abbrev pub IsRow : List Column → List Value → Type 0
IsRow schema row = Fits schema row × AreTexts row

-- the first of some framed bytes, and what stands behind it
over_apart : (x : List ℕ) (xs : List (List ℕ)) (rest : List ℕ) → all_framed (x ∷ xs) ++ rest ≡ framed x ++ (all_framed xs ++ rest)
over_apart x xs rest = ap (λ ys. ys ++ rest) (framed_cons x xs) ∙ append_assoc (framed x) (all_framed xs) rest

rows_apart : (schema : List Column) (r : List Value) (rs : List (List Value)) (rest : List ℕ)
    → rows_bytes (encoded_row schema) (r ∷ rs) ++ rest ≡ framed (encoded_row schema r) ++ (rows_bytes (encoded_row schema) rs ++ rest)
rows_apart schema r rs rest = ap (λ ys. ys ++ rest) (rows_cons schema r rs) ∙ append_assoc (framed (encoded_row schema r)) (rows_bytes (encoded_row schema) rs) rest

-- behind some rows that were passed over stand the others
pub behind_over : (schema : List Column) (over : List (List ℕ)) (all : List (List Value)) (rest : List ℕ) → All IsShort over → All (IsShortRow schema) all
    → all_framed over ++ rest ≡ rows_bytes (encoded_row schema) all → rest ≡ rows_bytes (encoded_row schema) (drop (length over) all)
behind_over schema [] all rest over_short short same = ap (λ xs. xs ++ rest) (sym framed_nil) ∙ same
behind_over schema (x ∷ xs) [] rest over_short short same =
    absurd (omega (arith, ap length (sym (over_apart x xs rest) ∙ same ∙ rows_nil schema), framed_long x (all_framed xs ++ rest)))
behind_over schema (x ∷ xs) (r ∷ rs) rest over_short short same =
    let parts = one_frame x (encoded_row schema r) (all_framed xs ++ rest) (rows_bytes (encoded_row schema) rs) (All-head IsShort x xs over_short) (All-head (IsShortRow schema) r rs short)
    (sym (over_apart x xs rest) ∙ same ∙ rows_cons schema r rs) in
    behind_over schema xs rs rest (All-tail IsShort x xs over_short) (All-tail (IsShortRow schema) r rs short) parts.1

-- rows that begin with these are these and some others
pub record Others (schema : List Column) (rows all : List (List Value)) (rest : List ℕ) : Type 0 where
  pub others : List (List Value)
  pub parts : all ≡ rows ++ others
  pub are : rest ≡ rows_bytes (encoded_row schema) others

pub behind_rows : (schema : List Column) (rows all : List (List Value)) (rest : List ℕ) → All (IsOnly schema) rows → All (IsShortRow schema) rows
    → AreOutRows schema all → All (IsShortRow schema) all → rows_bytes (encoded_row schema) rows ++ rest ≡ rows_bytes (encoded_row schema) all → Others schema rows all rest
behind_rows schema [] all rest only rows_short are short same = record { others = all; parts = refl; are = ap (λ xs. xs ++ rest) (sym (rows_nil schema)) ∙ same }
behind_rows schema (q ∷ qs) [] rest only rows_short are short same =
    absurd (omega (arith, ap length (sym (rows_apart schema q qs rest) ∙ same ∙ rows_nil schema), framed_long (encoded_row schema q) (rows_bytes (encoded_row schema) qs ++ rest)))
behind_rows schema (q ∷ qs) (r ∷ rs) rest only rows_short are short same =
    let parts = one_frame (encoded_row schema q) (encoded_row schema r) (rows_bytes (encoded_row schema) qs ++ rest) (rows_bytes (encoded_row schema) rs) (All-head (IsShortRow schema) q qs rows_short) (All-head (IsShortRow schema) r rs short)
    (sym (rows_apart schema q qs rest) ∙ same ∙ rows_cons schema r rs) in
    let is = All-head (IsRow schema) r rs are in
    let one : q ≡ r = (All-head (IsOnly schema) q qs only).only r is.0 is.1 parts.0 in
    let more = behind_rows schema qs rs rest (All-tail (IsOnly schema) q qs only) (All-tail (IsShortRow schema) q qs rows_short) (All-tail (IsRow schema) r rs are) (All-tail (IsShortRow schema) r rs short) parts.1 in
    record {
      others = more.others;
      parts = ap (λ ps. r ∷ ps) more.parts ∙ ap (λ p. p ∷ (qs ++ more.others)) (sym one);
      are = more.are;
    }

-- a length and the bytes behind it are framed bytes
pub stands_to : (area : ℕ → ℕ) (at next : ℕ) (bytes : List ℕ) → at + 2 ≤ next → next < at + 65538
    → bytes_at area at 2 ≡ little 2 (next - at - 2) → bytes_at area (at + 2) (next - at - 2) ≡ bytes → StandsTo area at next bytes
stands_to area at next bytes begins short front is =
    let long : length bytes ≡ next - at - 2 = ap length (sym is) ∙ length-bytes_at area (at + 2) (next - at - 2) in
    record {
      short = omega (arith, long);
      ends = omega (arith, long);
      read = ap (λ (n : ℕ). bytes_at area at (2 + n)) long ∙ bytes_on area at 2 (next - at - 2) ∙ ap (λ xs. xs ++ bytes_at area (at + 2) (next - at - 2)) front
          ∙ ap (λ xs. little 2 (next - at - 2) ++ xs) is ∙ ap (λ (n : ℕ). little 2 n ++ bytes) (sym long);
    }
