-- A listing over an area that has just some rows gives those, and none of them is bad.
use Rattle.std.proofs.Common.{◌≡◌, ℕ, ◌+◌, ◌-◌, ◌<◌, ◌≤◌, List, [], ◌∷◌, ◌++◌, length, take, drop, slice_index, Err, refl, sym, ap, subst, ◌∙◌, append-nil, append_assoc, arith, length-drop, ⊎_elim}
use Rattle.std.proofs.Math.Seq.{take-append_seam}
use Rattle.std.proofs.lemmas.List.{drop_all}
use Rattle.std.proofs.lemmas.List.Elements.{All-drop, All-head, All-tail}
use Rattle.std.specs.Prelude.{All}
use Rattle.byteorder.specs.Endian.{little_number}
use Rattle.byteorder.specs.Numbers.{little_number-reads_back}
use Rattle.page_store.specs.Format.{little}
use Rattle.page_store.specs.Twin.{bytes_at}
use Rattle.qsr_value.specs.Encoding.{encoded_row}
use Rattle.qsr_value.specs.declared.row.Value.{Value}
use Rattle.qsr_value.specs.declared.schema.Column.{Column}
use Rattle.out_file.specs.Listing.{Appended, AreOutRows, IsBadFront, ListsFrom}
use Rattle.row_page.specs.Framed.{rows_bytes}
use Rattle.out_file.specs.Reading.{IsStepFault}
use Rattle.out_file.specs.declared.fault.OutFault.{OutFault}
use Rattle.out_file.specs.declared.fault.OutFault.TheVariants.{OutFull, BadRow, Failed, Memory}
use Rattle.out_file.proofs.AreaBytes.{bytes_on, bytes_stand, no_bytes}
use Rattle.out_file.proofs.Listings.{IsRow, IsShortRow, behind_over, behind_rows, framed_long}
use Rattle.out_file.proofs.ListingSteps.{HasCome}
use Rattle.out_file.proofs.Unfolded.{all_framed, rows_cons, rows_nil}

-- an area has these rows in its first bytes
pub record HasAll (schema : List Column) (area : ℕ → ℕ) (end : ℕ) (all : List (List Value)) : Type 0 where
  pub are : AreOutRows schema all
  pub short : All (IsShortRow schema) all
  pub stand : bytes_at area 0 end ≡ rows_bytes (encoded_row schema) all

-- rows of which an area has the bytes
pub has_all : (schema : List Column) (area : ℕ → ℕ) (end : ℕ) (all : List (List Value)) → AreOutRows schema all → All (IsShortRow schema) all → length (rows_bytes (encoded_row schema) all) ≡ end
    → ((i : ℕ) → i < length (rows_bytes (encoded_row schema) all) → area (0 + i) ≡ slice_index (rows_bytes (encoded_row schema) all) i) → HasAll schema area end all
has_all schema area end all are short long holds = record {
  are = are;
  short = short;
  stand = ap (bytes_at area 0) (sym long) ∙ sym (bytes_stand area 0 (rows_bytes (encoded_row schema) all) holds);
}

-- Behind the place that a listing has come to stand the rows that follow those which it gave.
pub record Rest (schema : List Column) (skipped : ℕ) (area : ℕ → ℕ) (at end : ℕ) (rows all : List (List Value)) : Type 0 where
  pub others : List (List Value)
  pub parts : drop skipped all ≡ rows ++ others
  pub stand : bytes_at area at (end - at) ≡ rows_bytes (encoded_row schema) others
  pub are : AreOutRows schema others
  pub short : All (IsShortRow schema) others

all_right : {X : Type 0} (P : X → Type 0) (xs ys : List X) → All P (xs ++ ys) → All P ys
all_right P [] ys all = all
all_right P (x ∷ xs) ys all = all_right P xs ys (All-tail P x (xs ++ ys) all)

rest_of : {schema : List Column} {from : ℕ} {honest : Type 0} {area : ℕ → ℕ} {at number : ℕ} {old new : (List (List Value) → Type 0)} (end : ℕ) (all : List (List Value)) → at ≤ end
    → (came : HasCome schema from honest area at number old new) → honest → HasAll schema area end all → Rest schema (length came.over) area at end came.rows all
rest_of {schema = schema} {area = area} {at = at} end all within came told has =
    let over = came.over in
    let rows = came.rows in
    let rest = bytes_at area at (end - at) in
    let parts : end ≡ at + (end - at) = omega arith in
    let here : 0 + at ≡ at = omega arith in
    let whole : all_framed over ++ (rows_bytes (encoded_row schema) rows ++ rest) ≡ rows_bytes (encoded_row schema) all =
    sym (append_assoc (all_framed over) (rows_bytes (encoded_row schema) rows) rest) ∙ ap (λ xs. xs ++ rest) (sym (came.read told))
    ∙ ap (λ (k : ℕ). bytes_at area 0 at ++ bytes_at area k (end - at)) (sym here) ∙ sym (bytes_on area 0 at (end - at)) ∙ ap (bytes_at area 0) (sym parts) ∙ has.stand in
    let left = drop (length over) all in
    let left_are : AreOutRows schema left = All-drop (IsRow schema) (length over) all has.are in
    let left_short : All (IsShortRow schema) left = All-drop (IsShortRow schema) (length over) all has.short in
    let behind = behind_rows schema rows left rest came.only (came.rows_short told) left_are left_short
    (behind_over schema over all (rows_bytes (encoded_row schema) rows ++ rest) (came.short told) has.short whole) in
    record {
      others = behind.others;
      parts = behind.parts;
      stand = behind.are;
      are = all_right (IsRow schema) rows behind.others (subst (λ (xs : List (List Value)). All (IsRow schema) xs) behind.parts left_are);
      short = all_right (IsShortRow schema) rows behind.others (subst (λ (xs : List (List Value)). All (IsShortRow schema) xs) behind.parts left_short);
    }

no_rows : (schema : List Column) (rows : List (List Value)) → rows_bytes (encoded_row schema) rows ≡ [] → rows ≡ []
no_rows schema [] none = refl
no_rows schema (r ∷ rs) none = absurd (omega (arith, ap length (sym (rows_cons schema r rs) ∙ none), framed_long (encoded_row schema r) (rows_bytes (encoded_row schema) rs)))

drop_further : (k n : ℕ) (xs : List (List Value)) → k ≤ n → drop k xs ≡ [] → drop n xs ≡ []
drop_further k n xs more none = drop_all n xs (omega (arith, more, ap length none, length-drop k xs))

-- a listing that has come to the end gave the rows from the first that was wanted on
pub lists_all : {schema : List Column} {from : ℕ} {honest : Type 0} {area : ℕ → ℕ} {at number : ℕ} {old new : (List (List Value) → Type 0)} (end : ℕ) (all : List (List Value)) → at ≡ end
    → HasCome schema from honest area at number old new → honest → HasAll schema area end all → Appended (drop from all) old new
lists_all {schema = schema} {from = from} {area = area} {at = at} {old = old} {new = new} end all is came told has =
    let rest = rest_of end all (omega arith) came told has in
    let none : end - at ≡ 0 = omega arith in
    let empty : rest.others ≡ [] = no_rows schema rest.others (sym rest.stand ∙ ap (bytes_at area at) none ∙ sym (no_bytes area at)) in
    let given : drop (length came.over) all ≡ came.rows = rest.parts ∙ ap (λ (xs : List (List Value)). came.rows ++ xs) empty ∙ append-nil came.rows in
    let most = came.most in
    let wanted : drop from all ≡ came.rows =
    ⊎_elim (λ skipped. ap (λ (k : ℕ). drop k all) (sym skipped) ∙ given)
    (λ few. drop_further (length came.over) from all most (given ∙ few) ∙ sym few) came.all in
    subst (λ (xs : List (List Value)). Appended xs old new) (sym wanted) came.pushed

-- at the front of the bytes of rows stands no bad one
none_bad : (schema : List Column) (looked_at : Type 0) (rest : List ℕ) (others : List (List Value)) → AreOutRows schema others → All (IsShortRow schema) others
    → rest ≡ rows_bytes (encoded_row schema) others → IsBadFront schema rest looked_at → ⊥
none_bad schema looked_at rest [] are short is bad = let some = bad.some in omega (arith, some, ap length (is ∙ rows_nil schema))
none_bad schema looked_at rest (r ∷ rs) are short is bad =
    let bytes = encoded_row schema r in
    let behind = rows_bytes (encoded_row schema) rs in
    let n = length bytes in
    let few : n < 65536 = All-head (IsShortRow schema) r rs short in
    let apart : rest ≡ little 2 n ++ (bytes ++ behind) = is ∙ rows_cons schema r rs ∙ append_assoc (little 2 n) bytes behind in
    let long : length rest ≡ 2 + (n + length behind) = ap length (is ∙ rows_cons schema r rs) ∙ framed_long bytes behind in
    let number : little_number 2 rest ≡ n = ap (little_number 2) apart ∙ little_number-reads_back 2 n (bytes ++ behind) (omega arith) in
    let row : take (little_number 2 rest) (drop 2 rest) ≡ bytes =
    ap (λ (k : ℕ). take k (drop 2 rest)) number ∙ ap (λ (xs : List ℕ). take n (drop 2 xs)) apart ∙ take-append_seam bytes behind in
    let row_is = All-head (IsRow schema) r rs are in
    ⊎_elim (λ cut. omega (arith, cut, long)) (λ more. ⊎_elim (λ cut. omega (arith, cut, long, number)) (λ none. none.1 r row_is.0 row_is.1 row) more) bad.bad

-- a listing that a fault ended found no bad row
pub lists_some : {schema : List Column} {from : ℕ} {honest : Type 0} {area : ℕ → ℕ} {at number : ℕ} {old new : (List (List Value) → Type 0)} (looked_at : Type 0) (end : ℕ) (all : List (List Value))
    (fault : OutFault) (after : (List (List Value) → Type 0)) → at ≤ end → HasCome schema from honest area at number old new → IsStepFault schema looked_at honest at (bytes_at area at (end - at)) fault
    → (honest → HasAll schema area end all) → ListsFrom from honest all (Err fault) old after
lists_some looked_at end all (OutFull free) after within came is has = is
lists_some {schema = schema} {area = area} {at = at} looked_at end all (BadRow place) after within came is has = λ told.
    let rest = rest_of end all within came told (has told) in
    none_bad schema looked_at (bytes_at area at (end - at)) rest.others rest.are rest.short rest.stand (is.1 told)
lists_some looked_at end all Failed after within came is has = tt
lists_some looked_at end all Memory after within came is has = tt
