-- Refusals that are looked for in an order. A check is the refusal that it makes, or none.
use Rattle.std.specs.Prelude.{◌≡◌, List, [], ◌∷◌, Option, Some, None, Result, Ok, Err}

abbrev pub Check : Type 0 → Type 0
Check = Option

-- of a list of checks, the refusal of the first that makes one
abbrev pub first_refusal : {Refusal : Type 0} → List (Check Refusal) → Check Refusal
first_refusal [] = None
first_refusal (None ∷ more) = first_refusal more
first_refusal (Some told ∷ more) = Some told

-- the refusal of this check, else of a later one
abbrev pub or_later : {Refusal : Type 0} → Check Refusal → Check Refusal → Check Refusal
or_later None later = later
or_later (Some told) later = Some told

-- the check that a fault tells of; want of memory tells nothing of it
abbrev pub check_at_fault : {Refusal : Type 0} → Check Refusal → Option Refusal → Check Refusal
check_at_fault check None = check
check_at_fault check (Some told) = Some told

module _ {Fault Refusal : Type 0} (tells : Fault → Option Refusal) where
  -- what a result tells of the first refusal
  abbrev pub told : {X : Type 0} → Check Refusal → Result X Fault → Check Refusal
  told check (Ok x) = None
  told check (Err e) = check_at_fault check (tells e)

  -- the result is that of these checks
  abbrev pub Checks : {X : Type 0} → List (Check Refusal) → Result X Fault → Type 0
  Checks all result = first_refusal all ≡ told (first_refusal all) result
