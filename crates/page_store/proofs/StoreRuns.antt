-- The stages in which a store is made: what a crash at any moment leaves, from one to the next.
use Rattle.std.proofs.Common.{◌≡◌, ◌⊎◌, ℕ, ◌==◌, Bool, if◌then◌else◌, inl, inr, ⊎_elim, ap, sym, ◌∙◌}
use Rattle.std.proofs.lemmas.Bool.Decides.{eqb_tells}
use Rattle.disk_model.specs.Image.{Image, SameOutside}
use Rattle.disk_model.specs.View.{View, After, EachImage, LeavesOnly, Stays, Steps}
use Rattle.disk_model.proofs.Runs.{and_then, weaker_run}
use Rattle.qsr_value.specs.Causes.{count_after, next_count}
use Rattle.page_store.specs.declared.pages.Sizes.{Sizes}
use Rattle.page_store.specs.declared.records.TheConstants.{OPEN}
use Rattle.page_store.specs.Format.{IsNoStore, IsOldNoneOrNew, IsWritten, SameBelow, WritesByGate}
use Rattle.page_store.proofs.Images.{no_store_kept, opening}

-- the gate is read
pub read_run : {a b : View Image} (sizes : Sizes) → Stays a b → LeavesOnly a b (IsOldNoneOrNew a sizes)
read_run sizes stays = weaker_run stays.time (λ c old. inl old)

-- the gate is closed
pub close_run : {a b c : View Image} (sizes : Sizes) → Stays a b → LeavesOnly b c (λ i. b.now i ⊎ IsNoStore i) → LeavesOnly a c (IsOldNoneOrNew a sizes)
close_run sizes stays run =
    and_then (read_run sizes stays) run (λ i. ⊎_elim (λ now. inl (stays.crash i now)) (λ none. inr (inl none)))

-- the parts are written
pub parts_run : {a b c : View Image} (sizes : Sizes) → LeavesOnly a b (IsOldNoneOrNew a sizes) → EachImage b IsNoStore → Steps (SameBelow 1) b c
    → LeavesOnly a c (IsOldNoneOrNew a sizes)
parts_run sizes run closed steps =
    and_then run
    (weaker_run {Q = IsNoStore} steps.time (λ i now. let old = steps.crash i now in no_store_kept old.0 i (closed old.0 old.1) old.2))
    (λ i none. inr (inl none))

-- the gate is opened
pub open_run : {a b c : View Image} (sizes : Sizes) → LeavesOnly a b (IsOldNoneOrNew a sizes) → EachImage b (IsWritten sizes)
    → LeavesOnly b c (After (SameOutside 0 1) b) → LeavesOnly a c (IsOldNoneOrNew a sizes)
open_run {b = b} sizes run written opens = and_then run opens (λ i after. inr (opening sizes b written i after))

-- how many writes were made, by the gate that was read
pub all_writes : (a : View Image) (gate old mid closed new : ℕ) → (a.honest → a.seen 0 ≡ gate) → mid ≡ old
    → closed ≡ (if gate == OPEN then next_count mid else mid) → new ≡ count_after 20 closed → WritesByGate 20 a old new
all_writes a gate old mid closed new stood same shut more = elim (eqb_tells gate OPEN) [
  | inl is ↦
      let one = shut ∙ ap (λ (b : Bool). if b then next_count mid else mid) is.0 ∙ ap next_count same in
      inr (more ∙ ap (count_after 20) one, λ honest. stood honest ∙ is.1)
  | inr other ↦
      let none = shut ∙ ap (λ (b : Bool). if b then next_count mid else mid) other.0 ∙ same in
      inl (more ∙ ap (count_after 20) none, λ honest is_open. other.1 (sym (stood honest) ∙ is_open))
]
