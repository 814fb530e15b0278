-- What the two steps of a step say of it, from the place and the store before it.
use Rattle.std.proofs.Common.{◌≡◌, ℕ, ◌+◌, ◌-◌, ◌<◌, ◌≤◌, List, [], take, drop, refl, sym, ap, subst, ◌∙◌, append-nil, arith, inr}
use Rattle.byteorder.specs.Endian.{little_number}
use Rattle.byteorder.specs.Numbers.{little_number-reads_back}
use Rattle.page_store.specs.Format.{little}
use Rattle.page_store.specs.Store.{Contents}
use Rattle.page_store.specs.Twin.{bytes_at}
use Rattle.qsr_value.specs.declared.row.Value.{Value}
use Rattle.qsr_value.specs.declared.schema.Column.{Column}
use Rattle.out_file.specs.Listing.{IsBadFront, IsNoRow}
use Rattle.out_file.specs.Reading.{HasGiven, HasPassed, IsOutReadFault, IsStepFault, out_area}
use Rattle.out_file.specs.declared.fault.OutFault.{OutFault}
use Rattle.out_file.specs.declared.fault.OutFault.TheVariants.{OutFull, BadRow, Failed, Memory}
use Rattle.out_file.proofs.AreaBytes.{bytes_within, length-bytes_at, number_at_front}
use Rattle.out_file.proofs.Listings.{stands_to}

-- bytes behind their length that are no row
bad_front : (schema : List Column) (looked_at : Type 0) (area : ℕ → ℕ) (at next end : ℕ) → looked_at → at + 2 ≤ next → next ≤ end → next < at + 65538
    → bytes_at area at 2 ≡ little 2 (next - at - 2) → IsNoRow schema (bytes_at area (at + 2) (next - at - 2)) → IsBadFront schema (bytes_at area at (end - at)) looked_at
bad_front schema looked_at area at next end looked begins ends short front none =
    let n = next - at - 2 in
    let rest = bytes_at area at (end - at) in
    let number : little_number 2 rest ≡ n =
    number_at_front area at (end - at) (omega arith) ∙ ap (little_number 2) (front ∙ sym (append-nil (little 2 n))) ∙ little_number-reads_back 2 n [] (omega arith) in
    let bytes : take (little_number 2 rest) (drop 2 rest) ≡ bytes_at area (at + 2) n =
    ap (λ (k : ℕ). take k (drop 2 rest)) number ∙ bytes_within area at (end - at) 2 n (omega arith) in
    record {
      some = omega (arith, length-bytes_at area at (end - at));
      bad = inr (inr (looked, subst (λ (xs : List ℕ). IsNoRow schema xs) (sym bytes) none));
    }

-- a fault of the read of a row, from a store of which pages were read before it
pub read_step : (schema : List Column) (looked_at honest later : Type 0) (m : Contents) (job j at a next end : ℕ) (fault : OutFault) → j ≡ job → a ≡ at → looked_at → (honest → later)
    → at + 2 ≤ next → next ≤ end → next < at + 65538 → (honest → bytes_at (out_area job m) at 2 ≡ little 2 (next - at - 2))
    → IsOutReadFault schema later a (bytes_at (out_area j m) (a + 2) (next - a - 2)) fault → IsStepFault schema looked_at honest at (bytes_at (out_area job m) at (end - at)) fault
read_step schema looked_at honest later m job j at a next end (OutFull free) j_is a_is looked now begins ends short front is = is
read_step schema looked_at honest later m job j at a next end (BadRow place) j_is a_is looked now begins ends short front is = (
  is.0 ∙ a_is,
  λ told.
      let none = subst (λ (k : ℕ). IsNoRow schema (bytes_at (out_area k m) (at + 2) (next - at - 2))) j_is
      (subst (λ (k : ℕ). IsNoRow schema (bytes_at (out_area j m) (k + 2) (next - k - 2))) a_is (is.1 (now told))) in
      bad_front schema looked_at (out_area job m) at next end looked begins ends short (front told) none,
)
read_step schema looked_at honest later m job j at a next end Failed j_is a_is looked now begins ends short front is = tt
read_step schema looked_at honest later m job j at a next end Memory j_is a_is looked now begins ends short front is = tt

-- a row that was given, from there
pub given_step : (schema : List Column) (honest later : Type 0) (m : Contents) (job j at a next : ℕ) (old new : (List (List Value) → Type 0)) → j ≡ job → a ≡ at → (honest → later)
    → HasGiven schema later (out_area j m) a next old new → HasGiven schema honest (out_area job m) at next old new
given_step schema honest later m job j at a next old new j_is a_is now given =
    let here = subst (λ (k : ℕ). HasGiven schema later (out_area k m) at next old new) j_is (subst (λ (k : ℕ). HasGiven schema later (out_area j m) k next old new) a_is given) in
    record { row = here.row; is = here.is; pushed = here.pushed; stands = λ told. here.stands (now told) }

-- the length that was read before it
pub front_then : (m : Contents) (job j at a next : ℕ) → j ≡ job → a ≡ at → bytes_at (out_area job m) at 2 ≡ little 2 (next - at - 2) → bytes_at (out_area j m) a 2 ≡ little 2 (next - a - 2)
front_then m job j at a next j_is a_is front =
    subst (λ (k : ℕ). bytes_at (out_area k m) a 2 ≡ little 2 (next - a - 2)) (sym j_is) (subst (λ (k : ℕ). bytes_at (out_area job m) k 2 ≡ little 2 (next - k - 2)) (sym a_is) front)

-- bytes that were passed over
pub passed_step : (honest : Type 0) (area : ℕ → ℕ) (at next : ℕ) (old : (List (List Value) → Type 0)) → at + 2 ≤ next → next < at + 65538
    → (honest → bytes_at area at 2 ≡ little 2 (next - at - 2)) → HasPassed honest area at next old old
passed_step honest area at next old begins short front = record {
  bytes = bytes_at area (at + 2) (next - at - 2);
  pushed = λ told is. is;
  stands = λ told. stands_to area at next (bytes_at area (at + 2) (next - at - 2)) begins short (front told) refl;
}
