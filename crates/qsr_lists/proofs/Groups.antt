-- Each element is in one group.
use Rattle.std.specs.Prelude.{◌≡◌, Bool, true, false, not, List, [], ◌∷◌, ◌++◌, length, filter, map}
use Rattle.std.specs.List.{flat_map, sum_by}
use Rattle.std.specs.List.Sorted.{IsPermutation}
use Rattle.std.proofs.Common.{refl, sym, ap, subst, ◌∙◌, inl, inr, arith}
use Rattle.std.proofs.Math.Bool.{cond}
use Rattle.std.proofs.lemmas.Bool.{cases_Bool, true≢false}
use Rattle.std.proofs.lemmas.List.Concat.{length-flat_map}
use Rattle.std.proofs.lemmas.List.Folds.{flat_map-map}
use Rattle.std.proofs.lemmas.List.Sorted.{IsPermutation-append_right, IsPermutation-cons, IsPermutation-middle, IsPermutation-refl, IsPermutation-sym, IsPermutation-trans, length_permutation}
use Rattle.qsr_lists.specs.Lists.{IsEquality, firsts, groups, of_key}

module _ {K : Type 0} (same : K → K → Bool) (equality : IsEquality same) where
  -- the keys that are the same as this one
  abbrev equals : K → List K → List K
  equals k ks = filter (λ other. same other k) ks

  -- the keys that this one isn't the same as
  abbrev without : K → List K → List K
  without other ks = filter (λ y. not (same other y)) ks

  -- whether a key stands among these
  abbrev is_among : K → List K → Bool
  is_among k [] = false
  is_among k (other ∷ ks) = cond (same other k) true (is_among k ks)

  -- What is left out is no longer there.
  equals-out : (k other : K) → same other k ≡ true → (ks : List K) → equals k (without other ks) ≡ []
  equals-out k other is [] = refl
  equals-out k other is (y ∷ ks) = elim (cases_Bool (same other y)) [
    | inl out ↦ simp (out, equals-out k other is ks)
    | inr kept ↦ elim (cases_Bool (same y k)) [
      | inl too ↦ absurd (true≢false (sym is ∙ ap (same other) (sym (equality.equal y k too)) ∙ kept))
      | inr differs ↦ simp (kept, differs, equals-out k other is ks)
    ]
  ]

  -- Other keys stay.
  equals-others : (k other : K) → same other k ≡ false → (ks : List K) → equals k (without other ks) ≡ equals k ks
  equals-others k other isnt [] = refl
  equals-others k other isnt (y ∷ ks) = elim (cases_Bool (same other y)) [
    | inl out ↦
        let differs : same y k ≡ false = ap (λ y. same y k) (sym (equality.equal other y out)) ∙ isnt in
        simp (out, differs, equals-others k other isnt ks)
    | inr kept ↦ simp (kept, equals-others k other isnt ks)
  ]

  -- A key that stands among these stands once among their first appearances.
  once : (k : K) (ks : List K) → is_among k ks ≡ true → length (equals k (firsts same ks)) ≡ 1
  once k [] among = absurd (true≢false (sym among))
  once k (other ∷ ks) among = elim (cases_Bool (same other k)) [
    | inl is ↦ rw is (ap (λ rest. length (other ∷ rest)) (equals-out k other is (firsts same ks)))
    | inr isnt ↦
        let later : is_among k ks ≡ true = ap (λ b. cond b true (is_among k ks)) (sym isnt) ∙ among in
        rw isnt (ap length (equals-others k other isnt (firsts same ks)) ∙ once k ks later)
  ]

  module _ {X : Type 0} (key : X → K) where
    -- The elements of some keys, where one more has none of these keys.
    of_others : (x : X) (xs : List X) (ks : List K) → length (equals (key x) ks) ≡ 0
        → flat_map (of_key same key (x ∷ xs)) ks ≡ flat_map (of_key same key xs) ks
    of_others x xs [] none = refl
    of_others x xs (k ∷ ks) none = elim (cases_Bool (same k (key x))) [
      | inl is ↦
          let some : length (k ∷ equals (key x) ks) ≡ 0 = ap (λ b. length (cond b (k ∷ equals (key x) ks) (equals (key x) ks))) (sym is) ∙ none in
          absurd (omega (arith, some))
      | inr isnt ↦
          let later : length (equals (key x) ks) ≡ 0 = ap (λ b. length (cond b (k ∷ equals (key x) ks) (equals (key x) ks))) (sym isnt) ∙ none in
          rw isnt (ap (λ rest. of_key same key xs k ++ rest) (of_others x xs ks later))
    ]

    -- One more, whose key is one of these, is in the group of that key.
    one_more : (x : X) (xs : List X) (ks : List K) → length (equals (key x) ks) ≡ 1
        → IsPermutation (x ∷ flat_map (of_key same key xs) ks) (flat_map (of_key same key (x ∷ xs)) ks)
    one_more x xs [] once = cc
    one_more x xs (k ∷ ks) once = elim (cases_Bool (same k (key x))) [
      | inl is ↦
          let here : length (k ∷ equals (key x) ks) ≡ 1 = ap (λ b. length (cond b (k ∷ equals (key x) ks) (equals (key x) ks))) (sym is) ∙ once in
          let none : length (equals (key x) ks) ≡ 0 = omega (arith, here) in
          rw (is, of_others x xs ks none) (IsPermutation-refl (x ∷ (of_key same key xs k ++ flat_map (of_key same key xs) ks)))
      | inr isnt ↦
          let later : length (equals (key x) ks) ≡ 1 = ap (λ b. length (cond b (k ∷ equals (key x) ks) (equals (key x) ks))) (sym isnt) ∙ once in
          let here = of_key same key xs k in
          let rest = flat_map (of_key same key xs) ks in
          let rest' = flat_map (of_key same key (x ∷ xs)) ks in
          rw isnt (IsPermutation-trans (x ∷ (here ++ rest)) (here ++ x ∷ rest) (here ++ rest')
          (IsPermutation-sym (here ++ x ∷ rest) (x ∷ (here ++ rest)) (IsPermutation-middle here x rest))
          (IsPermutation-append_right here (x ∷ rest) rest' (one_more x xs ks later)))
    ]

    none_left : (ks : List K) → flat_map (of_key same key []) ks ≡ []
    none_left [] = refl
    none_left (k ∷ ks) = none_left ks

    is_among-itself : (x : X) (xs : List X) → is_among (key x) (map key (x ∷ xs)) ≡ true
    is_among-itself x xs = rw (equality.itself (key x)) refl

    is_among-later : (x : X) (xs : List X) (k : K) → is_among k (map key xs) ≡ true → is_among k (map key (x ∷ xs)) ≡ true
    is_among-later x xs k among = elim (cases_Bool (same (key x) k)) [
      | inl is ↦ rw is refl
      | inr isnt ↦ rw isnt among
    ]

    -- Keys among which each element's key stands once divide the elements.
    divide : (ks : List K) (xs : List X) → ((k : K) → is_among k (map key xs) ≡ true → length (equals k ks) ≡ 1)
        → IsPermutation xs (flat_map (of_key same key xs) ks)
    divide ks [] each = subst (λ none. IsPermutation [] none) (sym (none_left ks)) (IsPermutation-refl [])
    divide ks (x ∷ xs) each = IsPermutation-trans (x ∷ xs) (x ∷ flat_map (of_key same key xs) ks) (flat_map (of_key same key (x ∷ xs)) ks)
        (IsPermutation-cons x xs (flat_map (of_key same key xs) ks) (divide ks xs (λ k among. each k (is_among-later x xs k among))))
        (one_more x xs ks (each (key x) (is_among-itself x xs)))

pub groups_divide : {X K : Type 0} (same : K → K → Bool) (key : X → K) (xs : List X) → IsEquality same → IsPermutation xs (flat_map (λ g. g.1) (groups same key xs))
groups_divide {X} {K} same key xs equality =
    subst (IsPermutation xs) (sym (flat_map-map (λ (g : K × List X). g.1) (λ k. (k, of_key same key xs k)) (firsts same (map key xs))))
    (divide same equality key (firsts same (map key xs)) xs (λ k among. once same equality k (map key xs) among))

pub groups_hold_all : {X K : Type 0} (same : K → K → Bool) (key : X → K) (xs : List X) → IsEquality same → sum_by (λ g. length g.1) (groups same key xs) ≡ length xs
groups_hold_all {X} {K} same key xs equality =
    sym (length-flat_map (λ (g : K × List X). g.1) (groups same key xs))
    ∙ length_permutation xs (flat_map (λ (g : K × List X). g.1) (groups same key xs)) (groups_divide same key xs equality)

-- the keys of groups: each key once, where it appears first
keys_kept : {X K : Type 0} (same : K → K → Bool) (key : X → K) (xs : List X) (ks : List K) → map (λ (g : K × List X). g.0) (map (λ k. (k, of_key same key xs k)) ks) ≡ ks
keys_kept same key xs [] = refl
keys_kept same key xs (k ∷ ks) = ap (λ rest. k ∷ rest) (keys_kept same key xs ks)

pub keys_once : {X K : Type 0} (same : K → K → Bool) (key : X → K) (xs : List X) → map (λ (g : K × List X). g.0) (groups same key xs) ≡ firsts same (map key xs)
keys_once same key xs = keys_kept same key xs (firsts same (map key xs))
