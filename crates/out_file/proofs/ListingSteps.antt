-- A listing goes on by a row that is passed over or given out, until it ends.
use Rattle.std.proofs.Common.{◌≡◌, ◌⊎◌, ℕ, ◌+◌, ◌-◌, ◌<◌, ◌≤◌, Bool, true, false, List, [], ◌∷◌, ◌++◌, length, Ok, Err, refl, sym, ap, subst, ◌∙◌, append-nil, append_assoc, arith, length-append, inl, inr, ⊎_elim}
use Rattle.std.proofs.lemmas.List.Elements.{All-append, All-cons, All-head, All-nil, All-tail}
use Rattle.std.specs.Prelude.{All, ⊤}
use Rattle.page_store.specs.Store.{Contents}
use Rattle.page_store.specs.Twin.{bytes_at}
use Rattle.qsr_value.specs.Encoding.{encoded_row}
use Rattle.qsr_value.specs.declared.row.Value.{Value}
use Rattle.qsr_value.specs.declared.schema.Column.{Column}
use Rattle.out_file.specs.Listing.{Appended, AreOutRows, HasListed, IsBadFront, IsOutFront, IsListingEnd, Kept}
use Rattle.row_page.specs.Framed.{framed, rows_bytes}
use Rattle.row_page.proofs.Framing.{rows_bytes-push}
use Rattle.out_file.specs.Reading.{HasGiven, HasPassed, HasStepped, IsOnly, IsStepFault, StandsTo, out_area}
use Rattle.out_file.specs.declared.fault.OutFault.{OutFault}
use Rattle.out_file.specs.declared.fault.OutFault.TheVariants.{OutFull, BadRow, Failed, Memory}
use Rattle.out_file.proofs.AreaBytes.{bytes_before, bytes_behind, bytes_on, length-bytes_at, no_bytes}
use Rattle.out_file.proofs.Listings.{IsRow, IsShort, IsShortRow}
use Rattle.out_file.proofs.Unfolded.{all_framed, framed_nil, rows_nil}

-- The listing has come to a place, so many rows behind the start: some were passed over, and these were given out.
pub record HasCome (schema : List Column) (from : ℕ) (honest : Type 0) (area : ℕ → ℕ) (at number : ℕ) (old new : (List (List Value) → Type 0)) : Type 0 where
  pub rows : List (List Value)
  pub over : List (List ℕ)
  pub only : All (IsOnly schema) rows
  pub pushed : Appended rows old new
  pub count : number ≡ length over + length rows
  pub most : length over ≤ from
  pub all : (length over ≡ from) ⊎ (rows ≡ [])
  pub short : honest → All IsShort over
  pub rows_short : honest → All (IsShortRow schema) rows
  pub read : honest → bytes_at area 0 at ≡ all_framed over ++ rows_bytes (encoded_row schema) rows

pushed_none : (old : List (List Value) → Type 0) → Appended [] old old
pushed_none old told is = subst old (sym (append-nil told)) is

pub at_start : (schema : List Column) (from : ℕ) (honest : Type 0) (area : ℕ → ℕ) (old : (List (List Value) → Type 0)) → HasCome schema from honest area 0 0 old old
at_start schema from honest area old = record {
  rows = [];
  over = [];
  only = All-nil (IsOnly schema);
  pushed = pushed_none old;
  count = omega arith;
  most = omega arith;
  all = inr refl;
  short = λ _. All-nil IsShort;
  rows_short = λ _. All-nil (IsShortRow schema);
  read = λ _. sym (no_bytes area 0) ∙ sym (rows_nil schema) ∙ ap (λ xs. xs ++ rows_bytes (encoded_row schema) []) (sym framed_nil);
}

-- the bytes up to the end of one more row
one_more : (area : ℕ → ℕ) (at next : ℕ) (front bytes : List ℕ) → StandsTo area at next bytes → bytes_at area 0 at ≡ front → bytes_at area 0 next ≡ front ++ framed bytes
one_more area at next front bytes stands is =
    let here : 0 + at ≡ at = omega arith in
    ap (bytes_at area 0) stands.ends ∙ bytes_on area 0 at (2 + length bytes) ∙ ap (λ (k : ℕ). bytes_at area 0 at ++ bytes_at area k (2 + length bytes)) here
    ∙ ap (λ xs. xs ++ bytes_at area at (2 + length bytes)) is ∙ ap (λ xs. front ++ xs) stands.read

-- one more is passed over
pub step_over : {schema : List Column} {from : ℕ} {honest : Type 0} {area : ℕ → ℕ} {at next number : ℕ} {old mid new : (List (List Value) → Type 0)}
    → number < from → HasCome schema from honest area at number old mid → HasPassed honest area at next mid new → HasCome schema from honest area next (number + 1) old new
step_over {schema = schema} {from = from} {area = area} {at = at} {next = next} {number = number} before came passed =
    let over = came.over in
    let bytes = passed.bytes in
    let count = came.count in
    let most = came.most in
    let none : came.rows ≡ [] = ⊎_elim (λ all. absurd (omega (arith, all, count, before))) (λ none. none) came.all in
    let long : length (over ++ bytes ∷ []) ≡ length over + 1 = length-append over (bytes ∷ []) in
    let no_rows : rows_bytes (encoded_row schema) came.rows ≡ [] = ap (rows_bytes (encoded_row schema)) none ∙ rows_nil schema in
    record {
      rows = came.rows;
      over = over ++ bytes ∷ [];
      only = came.only;
      pushed = λ told is. passed.pushed (told ++ came.rows) (came.pushed told is);
      count = omega (arith, count, long);
      most = omega (arith, count, before, long);
      all = inr none;
      short = λ honest. All-append IsShort over (bytes ∷ []) (came.short honest) (All-cons IsShort bytes [] (passed.stands honest).short (All-nil IsShort));
      rows_short = came.rows_short;
      read = λ honest.
          let front = came.read honest ∙ ap (λ xs. all_framed over ++ xs) no_rows ∙ append-nil (all_framed over) in
          one_more area at next (all_framed over) bytes (passed.stands honest) front
          ∙ sym (rows_bytes-push (λ (bytes : List ℕ). bytes) over bytes) ∙ sym (append-nil (all_framed (over ++ bytes ∷ []))) ∙ ap (λ xs. all_framed (over ++ bytes ∷ []) ++ xs) (sym no_rows);
    }

-- behind those that are passed over, all of them were
over_all : {schema : List Column} {from : ℕ} {honest : Type 0} {area : ℕ → ℕ} {at number : ℕ} {old new : (List (List Value) → Type 0)}
    → from ≤ number → (came : HasCome schema from honest area at number old new) → length came.over ≡ from
over_all behind came =
    let count = came.count in
    let most = came.most in
    ⊎_elim (λ all. all) (λ none. let no_rows = ap length none in omega (arith, count, most, behind, no_rows)) came.all

-- one more is given out
pub step_row : {schema : List Column} {from : ℕ} {honest : Type 0} {area : ℕ → ℕ} {at next number : ℕ} {old mid new : (List (List Value) → Type 0)}
    → from ≤ number → HasCome schema from honest area at number old mid → HasGiven schema honest area at next mid new → HasCome schema from honest area next (number + 1) old new
step_row {schema = schema} {area = area} {at = at} {next = next} {new = new} behind came given =
    let rows = came.rows in
    let row = given.row in
    let over = all_framed came.over in
    let bytes = encoded_row schema row in
    record {
      rows = rows ++ row ∷ [];
      over = came.over;
      only = All-append (IsOnly schema) rows (row ∷ []) came.only (All-cons (IsOnly schema) row [] given.is (All-nil (IsOnly schema)));
      pushed = λ told is. subst new (append_assoc told rows (row ∷ [])) (given.pushed (told ++ rows) (came.pushed told is));
      count = omega (arith, came.count, length-append rows (row ∷ []));
      most = came.most;
      all = inl (over_all behind came);
      short = came.short;
      rows_short = λ honest. All-append (IsShortRow schema) rows (row ∷ []) (came.rows_short honest)
          (All-cons (IsShortRow schema) row [] (given.stands honest).short (All-nil (IsShortRow schema)));
      read = λ honest.
          one_more area at next (over ++ rows_bytes (encoded_row schema) rows) bytes (given.stands honest) (came.read honest)
          ∙ append_assoc over (rows_bytes (encoded_row schema) rows) (framed bytes) ∙ ap (λ xs. over ++ xs) (sym (rows_bytes-push (encoded_row schema) rows row));
    }

pub step : {schema : List Column} {from : ℕ} {honest : Type 0} {area : ℕ → ℕ} {at next number : ℕ} {old mid new : (List (List Value) → Type 0)} (wanted : Bool)
    → (wanted ≡ true → from ≤ number) → (wanted ≡ false → number < from) → HasCome schema from honest area at number old mid
    → HasStepped schema wanted honest area at next mid new → HasCome schema from honest area next (number + 1) old new
step true behind before came given = step_row (behind refl) came given
step false behind before came passed = step_over (before refl) came passed

are_rows : (schema : List Column) (rows : List (List Value)) → All (IsOnly schema) rows → AreOutRows schema rows
are_rows schema [] only = All-nil (IsRow schema)
are_rows schema (r ∷ rs) only =
    let first = All-head (IsOnly schema) r rs only in
    All-cons (IsRow schema) r rs (first.fits, first.texts) (are_rows schema rs (All-tail (IsOnly schema) r rs only))

-- the front of all bytes that a listing has come to
front_of : {schema : List Column} {from : ℕ} {honest : Type 0} {area : ℕ → ℕ} {at number : ℕ} {old new : (List (List Value) → Type 0)} (end : ℕ) → at ≤ end
    → (came : HasCome schema from honest area at number old new) → honest → IsOutFront schema from (bytes_at area 0 end) at came.over came.rows
front_of {area = area} {at = at} end within came honest = record {
  short = came.short honest;
  most = came.most;
  all = came.all;
  within = omega (arith, within, length-bytes_at area 0 end);
  read = bytes_before area at end within ∙ came.read honest;
}

-- a listing that has come to the end
pub listed_all : {schema : List Column} {from : ℕ} {honest : Type 0} {area : ℕ → ℕ} {at number : ℕ} {old new : (List (List Value) → Type 0)} (end : ℕ) (unit : ⊤) → at ≡ end
    → HasCome schema from honest area at number old new → HasListed schema from honest (bytes_at area 0 end) (Ok unit) old new
listed_all {schema = schema} {area = area} {at = at} end unit is came = record {
  rows = came.rows;
  over = came.over;
  at = at;
  are = are_rows schema came.rows came.only;
  pushed = came.pushed;
  front = front_of end (omega arith) came;
  ends = λ honest. let none : end - at ≡ 0 = omega arith in
      bytes_behind area at end (omega arith) ∙ ap (bytes_at area at) none ∙ sym (no_bytes area at);
}

-- a fault of a step is how the listing ends
fault_ends : (schema : List Column) (looked_at looked_there honest : Type 0) (at : ℕ) (rest : List ℕ) (fault : OutFault) → (looked_at → looked_there)
    → IsStepFault schema looked_at honest at rest fault → honest → IsListingEnd schema at rest looked_there (Err fault)
fault_ends schema looked_at looked_there honest at rest (OutFull free) looked is told = is
fault_ends schema looked_at looked_there honest at rest (BadRow place) looked is told =
    let bad = is.1 told in
    (is.0, record { some = bad.some; bad = ⊎_elim (λ cut. inl cut) (λ more. inr (⊎_elim (λ cut. inl cut) (λ none. inr (looked none.0, none.1)) more)) bad.bad })
fault_ends schema looked_at looked_there honest at rest Failed looked is told = tt
fault_ends schema looked_at looked_there honest at rest Memory looked is told = tt

-- a listing that a fault ended
pub listed_some : {schema : List Column} {from : ℕ} {honest : Type 0} {area : ℕ → ℕ} {at number : ℕ} {old mid new : (List (List Value) → Type 0)} (wanted : Bool) (end : ℕ) (fault : OutFault)
    → at ≤ end → (wanted ≡ true → from ≤ number) → Kept mid new → HasCome schema from honest area at number old mid
    → IsStepFault schema (wanted ≡ true) honest at (bytes_at area at (end - at)) fault → HasListed schema from honest (bytes_at area 0 end) (Err fault) old new
listed_some {schema = schema} {from = from} {honest = honest} {area = area} {at = at} wanted end fault within behind kept came is = record {
  rows = came.rows;
  over = came.over;
  at = at;
  are = are_rows schema came.rows came.only;
  pushed = λ told is. kept (told ++ came.rows) (came.pushed told is);
  front = front_of end within came;
  ends = λ told.
      subst (λ (rest : List ℕ). IsListingEnd schema at rest (length came.over ≡ from) (Err fault)) (sym (bytes_behind area at end within))
      (fault_ends schema (wanted ≡ true) (length came.over ≡ from) honest at (bytes_at area at (end - at)) fault (λ looked. over_all (behind looked) came) is told);
}

-- a listing that gave none, for want of memory
pub listed_none : (schema : List Column) (from : ℕ) (honest : Type 0) (area : ℕ → ℕ) (end : ℕ) (old : (List (List Value) → Type 0))
    → HasListed schema from honest (bytes_at area 0 end) (Err Memory) old old
listed_none schema from honest area end old =
    let came = at_start schema from honest area old in
    record {
      rows = came.rows;
      over = came.over;
      at = 0;
      are = are_rows schema came.rows came.only;
      pushed = came.pushed;
      front = front_of end (omega arith) came;
      ends = λ told. tt;
    }

-- a fault of a step, from the start of the listing
pub fault_then : (schema : List Column) (looked_at honest later : Type 0) (m : Contents) (job j at e end : ℕ) (fault : OutFault) → j ≡ job → e ≡ end → (honest → later)
    → IsStepFault schema looked_at later at (bytes_at (out_area j m) at (e - at)) fault → IsStepFault schema looked_at honest at (bytes_at (out_area job m) at (end - at)) fault
fault_then schema looked_at honest later m job j at e end (OutFull free) j_is e_is now is = is
fault_then schema looked_at honest later m job j at e end (BadRow place) j_is e_is now is = (
  is.0,
  λ told. subst (λ (k : ℕ). IsBadFront schema (bytes_at (out_area k m) at (end - at)) looked_at) j_is
      (subst (λ (k : ℕ). IsBadFront schema (bytes_at (out_area j m) at (k - at)) looked_at) e_is (is.1 (now told))),
)
fault_then schema looked_at honest later m job j at e end Failed j_is e_is now is = tt
fault_then schema looked_at honest later m job j at e end Memory j_is e_is now is = tt

-- a step, from there
pub stepped_then : (schema : List Column) (wanted : Bool) (honest later : Type 0) (m : Contents) (job j at next : ℕ) (old new : (List (List Value) → Type 0)) → j ≡ job → (honest → later)
    → HasStepped schema wanted later (out_area j m) at next old new → HasStepped schema wanted honest (out_area job m) at next old new
stepped_then schema true honest later m job j at next old new j_is now given =
    let here = subst (λ (k : ℕ). HasGiven schema later (out_area k m) at next old new) j_is given in
    record { row = here.row; is = here.is; pushed = here.pushed; stands = λ told. here.stands (now told) }
stepped_then schema false honest later m job j at next old new j_is now passed =
    let here = subst (λ (k : ℕ). HasPassed later (out_area k m) at next old new) j_is passed in
    record { bytes = here.bytes; pushed = here.pushed; stands = λ told. here.stands (now told) }
