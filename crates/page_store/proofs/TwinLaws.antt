-- Which slot of a twin is current, and what becomes of that when the other is replaced.
use Rattle.std.proofs.Common.{◌≡◌, ◌≢◌, ◌⊎◌, ℕ, ◌+◌, ◌<◌, ◌≤◌, Bool, true, false, if◌then◌else◌, refl, sym, ap, subst, inl, inr, arith, ◌∙◌, Some, None, option_map}
use Rattle.std.proofs.lemmas.Bool.Decides.{nat_tests, eqb_tells}
use Rattle.std.specs.Option.{IsSome}
use Rattle.disk_model.specs.Image.{Image}
use Rattle.page_store.specs.declared.slots.Found.{Found}
use Rattle.page_store.specs.declared.slots.Heads.{Heads}
use Rattle.page_store.specs.declared.slots.SlotHead.{SlotHead}
use Rattle.page_store.specs.declared.records.TheConstants.{OPEN}
use Rattle.page_store.specs.Twin.{AreHeads, bytes_at, body_at, found_of, head_at, number_at, is_current, next_sequence, twin_body}

-- what it says that a slot is current
pub record Current (span : ℕ) (h other : SlotHead) : Type 0 where
  pub is : h.gate ≡ OPEN
  pub sequence : h.sequence < 3
  pub fits : h.len + 8 ≤ span
  pub before : (other.gate ≢ OPEN) ⊎ ((other.sequence < 3) × (other.len + 8 ≤ span) × (h.sequence ≡ next_sequence other.sequence))

pub current_told : (span : ℕ) (h other : SlotHead) → is_current span h other ≡ true → Current span h other
current_told span h other current = record {
  is = grind (arith, nat_tests);
  sequence = grind (arith, nat_tests);
  fits = grind (arith, nat_tests);
  before = elim (eqb_tells other.gate OPEN) [
    | inl is ↦ inr (grind (arith, nat_tests), grind (arith, nat_tests), grind (arith, nat_tests))
    | inr closed ↦ inl closed.1
  ];
}

pub current_is : (span : ℕ) (h other : SlotHead) → Current span h other → is_current span h other ≡ true
current_is span h other current = elim current.before [
  | inl closed ↦ let is = current.is in let sequence = current.sequence in let fits = current.fits in grind (arith, nat_tests)
  | inr before ↦ let is = current.is in let sequence = current.sequence in let fits = current.fits in
      let low = before.0 in let small = before.1 in let next = before.2 in grind (arith, nat_tests)
]

-- of two slots one is current at most
not_both : (span : ℕ) (h other : SlotHead) → Current span h other → Current span other h → ⊥
not_both span h other mine its = elim mine.before [
  | inl closed ↦ closed its.is
  | inr before ↦ elim its.before [
    | inl closed ↦ closed mine.is
    | inr behind ↦
        let low = before.0 in let next = before.2 in let back = behind.2 in let small = behind.0 in
        grind (arith, nat_tests)
  ]
]

picks_first : {T : Type 0} (a b : Bool) (x y : T) → a ≡ true → (if a then Some x else (if b then Some y else None)) ≡ Some x
picks_first true b x y is = refl
picks_first false b x y is = cc

picks_second : {T : Type 0} (a b : Bool) (x y : T) → (a ≡ true → ⊥) → b ≡ true → (if a then Some x else (if b then Some y else None)) ≡ Some y
picks_second true b x y never is = absurd (never refl)
picks_second false true x y never is = refl
picks_second false false x y never is = cc

is_second : {T : Type 0} (a b : Bool) (x y : T) → a ≡ false → IsSome (if a then Some x else (if b then Some y else None)) → b ≡ true
is_second true b x y never some = cc
is_second false true x y is some = refl
is_second false false x y is some = cc

-- the two slots of a twin, in either order
abbrev pub IsPair : ℕ → ℕ → ℕ → ℕ → Type 0
IsPair span at slot other = ((slot ≡ at) × (other ≡ at + span)) ⊎ ((slot ≡ at + span) × (other ≡ at))

-- a twin stands for the body of its current slot
pub twin_of_slot : (span at slot other : ℕ) (c : Image) → IsPair span at slot other → Current span (head_at c slot) (head_at c other)
    → twin_body span at c ≡ Some (body_at c slot)
unfolding twin_body
twin_of_slot span at slot other c (inl pair) current =
    let one = subst (λ (s : ℕ). Current span (head_at c s) (head_at c other)) pair.0 current in
    let two = subst (λ (s : ℕ). Current span (head_at c at) (head_at c s)) pair.1 one in
    picks_first (is_current span (head_at c at) (head_at c (at + span))) (is_current span (head_at c (at + span)) (head_at c at)) (body_at c at) (body_at c (at + span))
    (current_is span (head_at c at) (head_at c (at + span)) two)
    ∙ ap (λ (s : ℕ). Some (body_at c s)) (sym pair.0)
twin_of_slot span at slot other c (inr pair) current =
    let one = subst (λ (s : ℕ). Current span (head_at c s) (head_at c other)) pair.0 current in
    let two = subst (λ (s : ℕ). Current span (head_at c (at + span)) (head_at c s)) pair.1 one in
    picks_second (is_current span (head_at c at) (head_at c (at + span))) (is_current span (head_at c (at + span)) (head_at c at)) (body_at c at) (body_at c (at + span))
    (λ is. not_both span (head_at c at) (head_at c (at + span)) (current_told span (head_at c at) (head_at c (at + span)) is) two)
    (current_is span (head_at c (at + span)) (head_at c at) two)
    ∙ ap (λ (s : ℕ). Some (body_at c s)) (sym pair.0)

-- where the first slot isn't current, the second is
pub second_current : (span at : ℕ) (c : Image) → IsSome (twin_body span at c) → is_current span (head_at c at) (head_at c (at + span)) ≡ false
    → Current span (head_at c (at + span)) (head_at c at)
unfolding twin_body
second_current span at c some first =
    current_told span (head_at c (at + span)) (head_at c at)
    (is_second (is_current span (head_at c at) (head_at c (at + span))) (is_current span (head_at c (at + span)) (head_at c at)) (body_at c at) (body_at c (at + span)) first some)

picks_mapped : (c : Image) (a b : Bool) (x y : Found) → option_map (λ (f : Found). bytes_at c f.at f.len) (if a then Some x else (if b then Some y else None))
    ≡ (if a then Some (bytes_at c x.at x.len) else (if b then Some (bytes_at c y.at y.len) else None))
picks_mapped c true b x y = refl
picks_mapped c false true x y = refl
picks_mapped c false false x y = refl

-- the body of a twin is what stands where its heads say
pub twin_found : (span at : ℕ) (c : Image) → option_map (λ (f : Found). bytes_at c f.at f.len) (found_of span at (record { first = head_at c at; second = head_at c (at + span) })) ≡ twin_body span at c
unfolding twin_body
twin_found span at c =
    picks_mapped c (is_current span (head_at c at) (head_at c (at + span))) (is_current span (head_at c (at + span)) (head_at c at))
    (record { at = at + 8; len = number_at c (at + 2) }) (record { at = at + span + 8; len = number_at c (at + span + 2) })

pub twin_by_heads : (span at : ℕ) (c : Image) (heads : Heads) → AreHeads span at c heads
    → option_map (λ (f : Found). bytes_at c f.at f.len) (found_of span at heads) ≡ twin_body span at c
twin_by_heads span at c heads are =
    let same : record { first = head_at c at; second = head_at c (at + span) } ≡ heads = λ i. record { first = are.first i; second = are.second i } in
    ap (λ (h : Heads). option_map (λ (f : Found). bytes_at c f.at f.len) (found_of span at h)) (sym same) ∙ twin_found span at c
