-- First appearances: once more they are the same, and what an element behind adds to them.
use Rattle.std.specs.Prelude.{◌≡◌, ⊤, Bool, true, false, cond, not, ◌||◌, List, [], ◌∷◌, ◌++◌, filter}
use Rattle.std.specs.List.{list_any}
use Rattle.std.proofs.Common.{refl, sym, ap, ◌∙◌, append-nil, inl, inr}
use Rattle.std.proofs.lemmas.Bool.{cases_Bool, true≢false}
use Rattle.std.proofs.lemmas.List.Elements.{filter-append}
use Rattle.qsr_lists.specs.Lists.{IsEquality, firsts}

filter_twice : {X : Type 0} (p : X → Bool) (xs : List X) → filter p (filter p xs) ≡ filter p xs
filter_twice p [] = refl
filter_twice p (x ∷ xs) = elim (cases_Bool (p x)) [
  | inl is ↦ simp (is, filter_twice p xs)
  | inr isnt ↦ simp (isnt, filter_twice p xs)
]

-- Two tests may be made in either order.
filter_swap : {X : Type 0} (p q : X → Bool) (xs : List X) → filter p (filter q xs) ≡ filter q (filter p xs)
filter_swap p q [] = refl
filter_swap p q (x ∷ xs) = elim (cases_Bool (p x)) [
  | inl is ↦ elim (cases_Bool (q x)) [
    | inl too ↦ simp (is, too, filter_swap p q xs)
    | inr isnt ↦ simp (is, isnt, filter_swap p q xs)
  ]
  | inr isnt ↦ elim (cases_Bool (q x)) [
    | inl is ↦ simp (is, isnt, filter_swap p q xs)
    | inr neither ↦ simp (isnt, neither, filter_swap p q xs)
  ]
]

-- each element is apart from those behind it: leaving out what is the same as it leaves out nothing
abbrev Apart : {X : Type 0} → (X → X → Bool) → List X → Type 0
Apart same [] = ⊤
Apart same (x ∷ xs) = (filter (λ y. not (same x y)) xs ≡ xs) × Apart same xs

Apart-filter : {X : Type 0} (same : X → X → Bool) (p : X → Bool) (xs : List X) → Apart same xs → Apart same (filter p xs)
Apart-filter same p [] apart = tt
Apart-filter same p (x ∷ xs) apart = elim (cases_Bool (p x)) [
  | inl is ↦ rw is (filter_swap (λ y. not (same x y)) p xs ∙ ap (filter p) apart.0, Apart-filter same p xs apart.1)
  | inr isnt ↦ rw isnt (Apart-filter same p xs apart.1)
]

Apart-firsts : {X : Type 0} (same : X → X → Bool) (xs : List X) → Apart same (firsts same xs)
Apart-firsts same [] = tt
Apart-firsts same (x ∷ xs) = (filter_twice (λ y. not (same x y)) (firsts same xs), Apart-filter same (λ y. not (same x y)) (firsts same xs) (Apart-firsts same xs))

firsts-Apart : {X : Type 0} (same : X → X → Bool) (xs : List X) → Apart same xs → firsts same xs ≡ xs
firsts-Apart same [] apart = refl
firsts-Apart same (x ∷ xs) apart = ap (λ ys. x ∷ ys) (ap (filter (λ y. not (same x y))) (firsts-Apart same xs apart.1) ∙ apart.0)

pub firsts_of_firsts : {X : Type 0} (same : X → X → Bool) (xs : List X) → firsts same (firsts same xs) ≡ firsts same xs
firsts_of_firsts same xs = firsts-Apart same (firsts same xs) (Apart-firsts same xs)

-- ---- an element more, behind others

-- whether an element is the same as one of these
abbrev pub is_known : {X : Type 0} → (X → X → Bool) → List X → X → Bool
is_known same xs x = list_any (λ y. same y x) xs

module _ {X : Type 0} (same : X → X → Bool) where
  -- firsts, of which one is left out with what is the same as it, and one more behind them
  more_kept : (y x : X) (once : List X) → same y x ≡ false → filter (λ z. not (same y z)) (once ++ x ∷ []) ≡ filter (λ z. not (same y z)) once ++ x ∷ []
  more_kept y x once isnt = filter-append (λ z. not (same y z)) once (x ∷ []) ∙ ap (λ b. filter (λ z. not (same y z)) once ++ cond (not b) (x ∷ []) []) isnt

  more_out : (y x : X) (once : List X) → same y x ≡ true → filter (λ z. not (same y z)) (once ++ x ∷ []) ≡ filter (λ z. not (same y z)) once
  more_out y x once is =
      filter-append (λ z. not (same y z)) once (x ∷ [])
      ∙ ap (λ b. filter (λ z. not (same y z)) once ++ cond (not b) (x ∷ []) []) is
      ∙ append-nil (filter (λ z. not (same y z)) once)

  -- an element that is the same as none before it
  pub new_behind : (xs : List X) (x : X) → is_known same xs x ≡ false → firsts same (xs ++ x ∷ []) ≡ firsts same xs ++ x ∷ []
  new_behind [] x new = refl
  new_behind (y ∷ xs) x new = elim (cases_Bool (same y x)) [
    | inl is ↦ absurd (true≢false (sym (ap (λ b. b || is_known same xs x) is) ∙ new))
    | inr isnt ↦
        let later : is_known same xs x ≡ false = ap (λ b. b || is_known same xs x) (sym isnt) ∙ new in
        ap (λ once. y ∷ filter (λ z. not (same y z)) once) (new_behind xs x later) ∙ ap (λ once. y ∷ once) (more_kept y x (firsts same xs) isnt)
  ]

  -- one that is the same as one before it
  pub known_behind : (xs : List X) (x : X) → is_known same xs x ≡ true → firsts same (xs ++ x ∷ []) ≡ firsts same xs
  known_behind [] x known = absurd (true≢false (sym known))
  known_behind (y ∷ xs) x known = elim (cases_Bool (is_known same xs x)) [
    | inl later ↦ ap (λ once. y ∷ filter (λ z. not (same y z)) once) (known_behind xs x later)
    | inr new ↦ elim (cases_Bool (same y x)) [
      | inl is ↦ ap (λ once. y ∷ filter (λ z. not (same y z)) once) (new_behind xs x new) ∙ ap (λ once. y ∷ once) (more_out y x (firsts same xs) is)
      | inr isnt ↦ absurd (true≢false (sym known ∙ ap (λ b. b || is_known same xs x) isnt ∙ new))
    ]
  ]

  module _ (equality : IsEquality same) where
    -- Leaving out what is the same as another element leaves those that are the same as this one.
    known_others : (y x : X) → same y x ≡ false → (zs : List X) → is_known same (filter (λ z. not (same y z)) zs) x ≡ is_known same zs x
    known_others y x isnt [] = refl
    known_others y x isnt (z ∷ zs) = elim (cases_Bool (same y z)) [
      | inl out ↦
          let other : same z x ≡ false = ap (λ w. same w x) (sym (equality.equal y z out)) ∙ isnt in
          simp (out, other, known_others y x isnt zs)
      | inr kept ↦ simp (kept, known_others y x isnt zs)
    ]

    -- What is known among some elements is known among their firsts.
    pub known_of_firsts : (xs : List X) (x : X) → is_known same (firsts same xs) x ≡ is_known same xs x
    known_of_firsts [] x = refl
    known_of_firsts (y ∷ xs) x = elim (cases_Bool (same y x)) [
      | inl is ↦ simp is
      | inr isnt ↦ simp (isnt, known_others y x isnt (firsts same xs) ∙ known_of_firsts xs x)
    ]

-- one more: the firsts so far, where it is the same as one of them, and one more behind them where it isn't
pub firsts_known : {X : Type 0} (same : X → X → Bool) → IsEquality same → (xs : List X) (x : X)
    → list_any (λ y. same y x) (firsts same xs) ≡ true → firsts same (xs ++ x ∷ []) ≡ firsts same xs
firsts_known same equality xs x known = known_behind same xs x (sym (known_of_firsts same equality xs x) ∙ known)

pub firsts_new : {X : Type 0} (same : X → X → Bool) → IsEquality same → (xs : List X) (x : X)
    → list_any (λ y. same y x) (firsts same xs) ≡ false → firsts same (xs ++ x ∷ []) ≡ firsts same xs ++ x ∷ []
firsts_new same equality xs x new = new_behind same xs x (sym (known_of_firsts same equality xs x) ∙ new)
