-- Bytes that stand in an area, piece by piece.
use Rattle.std.proofs.Common.{◌≡◌, ℕ, ◌+◌, ◌-◌, List, ◌++◌, length, refl, sym, ap, ◌∙◌, inl, inr, arith, length-append}
use Rattle.std.proofs.lemmas.Bool.{cases_lt}
use Rattle.std.proofs.lemmas.List.{get_or_append_left, get_or-append_right}
use Rattle.page_store.specs.Store.{AreaHolds, Contents}

-- bytes that stand behind others stand with them
pub holds_both : (part from at : ℕ) (front rest : List ℕ) (m : Contents) → at ≡ from + length front → AreaHolds part from front m → AreaHolds part at rest m → AreaHolds part from (front ++ rest) m
holds_both part from at front rest m place holds more i before = elim (cases_lt i (length front)) [
  | inl low ↦ holds i low ∙ sym (get_or_append_left front rest 0 i low)
  | inr high ↦
      let here : from + i ≡ at + (i - length front) = omega (arith, place, high) in
      ap (m.area part) here ∙ more (i - length front) (omega (arith, before, length-append front rest, high))
      ∙ sym (get_or-append_right front rest (length front) i 0 refl (omega (arith, high)))
]
