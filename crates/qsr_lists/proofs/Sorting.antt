-- A list put in order: it has the elements that it had, it rises, and elements that tie stay as they stood.
use Rattle.std.specs.Prelude.{◌≡◌, ⊤, ℕ, zero, suc, ◌+◌, ◌<◌, Bool, true, false, cond, not, ◌&&◌, List, [], ◌∷◌, ◌++◌, length, get_or, filter}
use Rattle.std.specs.Cmp.{IsStrictWeakOrder}
use Rattle.std.specs.List.Sorted.{IsPermutation, IsSortedBy, IsStableBy, ties}
use Rattle.std.proofs.Common.{refl, sym, ap, subst, ◌∙◌, add-one, append-nil, append_assoc, inl, inr, arith}
use Rattle.std.proofs.lemmas.Bool.{cases_Bool, true≢false}
use Rattle.std.proofs.lemmas.List.Elements.{filter-append}
use Rattle.std.proofs.lemmas.List.Sorted.{IsPermutation-append_left, IsPermutation-cons, IsPermutation-middle, IsPermutation-refl, IsPermutation-sym, IsPermutation-trans}
use Rattle.qsr_lists.specs.Lists.{IsAsymmetric, put, sorted, sorted_onto}

-- neither of two tests that both fail holds
first_fails : (a b : Bool) → (not a && not b) ≡ true → a ≡ false
first_fails true b both = absurd (true≢false (sym both))
first_fails false b both = refl

second_fails : (a b : Bool) → (not a && not b) ≡ true → b ≡ false
second_fails true b both = absurd (true≢false (sym both))
second_fails false true both = absurd (true≢false (sym both))
second_fails false false both = refl

module _ {X : Type 0} (lt : X → X → Bool) where
  -- ---- the same elements

  put_holds_all : (x : X) (xs : List X) → IsPermutation (x ∷ xs) (put lt x xs)
  put_holds_all x [] = IsPermutation-refl (x ∷ [])
  put_holds_all x (y ∷ ys) = elim (cases_Bool (lt x y)) [
    | inl is ↦ rw is (IsPermutation-refl (x ∷ y ∷ ys))
    | inr isnt ↦ rw isnt (IsPermutation-trans (x ∷ y ∷ ys) (y ∷ x ∷ ys) (y ∷ put lt x ys)
        (IsPermutation-sym (y ∷ x ∷ ys) (x ∷ y ∷ ys) (IsPermutation-middle (y ∷ []) x ys))
        (IsPermutation-cons y (x ∷ ys) (put lt x ys) (put_holds_all x ys)))
  ]

  onto_holds_all : (before xs : List X) → IsPermutation (before ++ xs) (sorted_onto lt before xs)
  onto_holds_all before [] = subst (λ all. IsPermutation all before) (sym (append-nil before)) (IsPermutation-refl before)
  onto_holds_all before (x ∷ xs) = IsPermutation-trans (before ++ x ∷ xs) (put lt x before ++ xs) (sorted_onto lt (put lt x before) xs)
      (IsPermutation-trans (before ++ x ∷ xs) (x ∷ (before ++ xs)) (put lt x before ++ xs)
      (IsPermutation-middle before x xs)
      (IsPermutation-append_left xs (x ∷ before) (put lt x before) (put_holds_all x before)))
      (onto_holds_all (put lt x before) xs)

  -- ---- in order

  -- the first of these doesn't stand before an element
  abbrev IsNotBehind : X → List X → Type 0
  IsNotBehind x [] = ⊤
  IsNotBehind x (y ∷ ys) = lt y x ≡ false

  abbrev Rises : List X → Type 0
  Rises [] = ⊤
  Rises (x ∷ xs) = IsNotBehind x xs × Rises xs

  rises_by_place : (xs : List X) → Rises xs → (k : ℕ) (d : X) → k + 1 < length xs → lt (get_or xs (suc k) d) (get_or xs k d) ≡ false
  rises_by_place [] up k d within = absurd (omega arith)
  rises_by_place (x ∷ []) up k d within = absurd (omega arith)
  rises_by_place (x ∷ y ∷ ys) up zero d within = up.0
  rises_by_place (x ∷ y ∷ ys) up (suc k) d within = rises_by_place (y ∷ ys) up.1 k d (omega arith)

  sorted_by_place : (xs : List X) → Rises xs → IsSortedBy lt xs
  sorted_by_place xs up k d low within = ap (λ (n : ℕ). lt (get_or xs n d) (get_or xs k d)) (add-one k) ∙ rises_by_place xs up k d within

  put_not_behind : (x y : X) (ys : List X) → lt x y ≡ false → IsNotBehind y ys → IsNotBehind y (put lt x ys)
  put_not_behind x y [] isnt up = isnt
  put_not_behind x y (z ∷ zs) isnt up = elim (cases_Bool (lt x z)) [
    | inl is ↦ rw is isnt
    | inr neither ↦ rw neither up
  ]

  module _ (asymmetric : IsAsymmetric lt) where
    put_rises : (x : X) (xs : List X) → Rises xs → Rises (put lt x xs)
    put_rises x [] up = (tt, tt)
    put_rises x (y ∷ ys) up = elim (cases_Bool (lt x y)) [
      | inl is ↦ rw is (asymmetric x y is, up)
      | inr isnt ↦ rw isnt (put_not_behind x y ys isnt up.0, put_rises x ys up.1)
    ]

    onto_rises : (before xs : List X) → Rises before → Rises (sorted_onto lt before xs)
    onto_rises before [] up = up
    onto_rises before (x ∷ xs) up = onto_rises (put lt x before) xs (put_rises x before up)

  -- ---- stably

  module _ (order : IsStrictWeakOrder lt) where
    -- what stands behind an element that x stands before
    before_next : (x y w : X) → lt x y ≡ true → lt w y ≡ false → lt x w ≡ true
    before_next x y w is up = elim (cases_Bool (lt x w)) [
      | inl too ↦ too
      | inr isnt ↦ absurd (true≢false (sym is ∙ order.chain x w y isnt up))
    ]

    -- What ties with x doesn't tie with what x stands before.
    ties_not : (z x y : X) → ties lt z x ≡ true → lt x y ≡ true → ties lt z y ≡ false
    ties_not z x y tie is = elim (cases_Bool (ties lt z y)) [
      | inl too ↦ absurd (true≢false (sym is ∙ order.chain x z y (second_fails (lt z x) (lt x z) tie) (first_fails (lt z y) (lt y z) too)))
      | inr isnt ↦ isnt
    ]

    none_ties : (z x y : X) (ys : List X) → ties lt z x ≡ true → lt x y ≡ true → Rises (y ∷ ys) → filter (ties lt z) (y ∷ ys) ≡ []
    none_ties z x y [] tie is up = ap (λ b. cond b (y ∷ []) []) (ties_not z x y tie is)
    none_ties z x y (w ∷ ws) tie is up =
        ap (λ b. cond b (y ∷ filter (ties lt z) (w ∷ ws)) (filter (ties lt z) (w ∷ ws))) (ties_not z x y tie is)
        ∙ none_ties z x w ws tie (before_next x y w is up.0) up.1

    -- An element is put behind those that tie with it.
    put_stays : (z x : X) (xs : List X) → Rises xs → filter (ties lt z) (put lt x xs) ≡ filter (ties lt z) (xs ++ x ∷ [])
    put_stays z x [] up = refl
    put_stays z x (y ∷ ys) up = elim (cases_Bool (lt x y)) [
      | inl is ↦ rw is (elim (cases_Bool (ties lt z x)) [
        | inl tie ↦
            let none = none_ties z x y ys tie is up in
            ap (λ b. cond b (x ∷ filter (ties lt z) (y ∷ ys)) (filter (ties lt z) (y ∷ ys))) tie
            ∙ ap (λ rest. x ∷ rest) none
            ∙ sym (filter-append (ties lt z) (y ∷ ys) (x ∷ []) ∙ ap (λ rest. rest ++ filter (ties lt z) (x ∷ [])) none ∙ ap (λ b. cond b (x ∷ []) []) tie)
        | inr apart ↦
            ap (λ b. cond b (x ∷ filter (ties lt z) (y ∷ ys)) (filter (ties lt z) (y ∷ ys))) apart
            ∙ sym (append-nil (filter (ties lt z) (y ∷ ys)))
            ∙ sym (filter-append (ties lt z) (y ∷ ys) (x ∷ []) ∙ ap (λ b. filter (ties lt z) (y ∷ ys) ++ cond b (x ∷ []) []) apart)
      ])
      | inr isnt ↦ rw isnt (ap (λ rest. cond (ties lt z y) (y ∷ rest) rest) (put_stays z x ys up.1))
    ]

    onto_stays : (z : X) (before xs : List X) → Rises before → filter (ties lt z) (sorted_onto lt before xs) ≡ filter (ties lt z) (before ++ xs)
    onto_stays z before [] up = ap (filter (ties lt z)) (sym (append-nil before))
    onto_stays z before (x ∷ xs) up =
        onto_stays z (put lt x before) xs (put_rises order.one_way x before up)
        ∙ filter-append (ties lt z) (put lt x before) xs
        ∙ ap (λ front. front ++ filter (ties lt z) xs) (put_stays z x before up)
        ∙ sym (filter-append (ties lt z) (before ++ x ∷ []) xs)
        ∙ ap (filter (ties lt z)) (append_assoc before (x ∷ []) xs)

pub sorted_holds_all : {X : Type 0} (lt : X → X → Bool) (xs : List X) → IsPermutation xs (sorted lt xs)
sorted_holds_all lt xs = onto_holds_all lt [] xs

pub sorted_rises : {X : Type 0} (lt : X → X → Bool) (xs : List X) → IsAsymmetric lt → IsSortedBy lt (sorted lt xs)
sorted_rises lt xs asymmetric = sorted_by_place lt (sorted lt xs) (onto_rises lt asymmetric [] xs tt)

pub ties_stay : {X : Type 0} (lt : X → X → Bool) (xs : List X) → IsStrictWeakOrder lt → IsStableBy lt xs (sorted lt xs)
ties_stay lt xs order = λ z. onto_stays lt order z [] xs tt
