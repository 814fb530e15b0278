-- What each item of a list has, and what stands at a place of it.
use Rattle.std.proofs.Common.{◌≡◌, ◌≢◌, ◌⊎◌, ℕ, zero, suc, ◌<◌, ◌≤◌, Bool, List, [], ◌∷◌, ◌++◌, length, take, filter, get_or, slice_get, slice_set, Option, None, Some, MatchOption, inl, inr, refl, sym, ap, ◌∙◌, arith, subst}
use Rattle.std.proofs.lemmas.Bool.{cond_both}
use Rattle.std.proofs.lemmas.List.{length_push, take-append-le, take_all}
use Rattle.std.proofs.lemmas.Option.{get_or_from_slice_get}
use Rattle.std.specs.List.{AllByRecursion}

pub all_weaker : {X : Type 0} (P Q : X → Type 0) (xs : List X) → ((x : X) → P x → Q x) → AllByRecursion P xs → AllByRecursion Q xs
all_weaker P Q [] weaker all = tt
all_weaker P Q (x ∷ xs) weaker all = (weaker x all.0, all_weaker P Q xs weaker all.1)

pub all_append : {X : Type 0} (P : X → Type 0) (xs ys : List X) → AllByRecursion P xs → AllByRecursion P ys → AllByRecursion P (xs ++ ys)
all_append P [] ys first second = second
all_append P (x ∷ xs) ys first second = (first.0, all_append P xs ys first.1 second)

pub all_at : {X : Type 0} (P : X → Type 0) (xs : List X) (i : ℕ) (x : X) → slice_get xs i ≡ Some x → AllByRecursion P xs → P x
all_at P [] i x is all = absurd (cc)
all_at P (y ∷ ys) zero x is all = let same : y ≡ x = cc in subst P same all.0
all_at P (y ∷ ys) (suc i) x is all = all_at P ys i x is all.1

pub all_set : {X : Type 0} (P : X → Type 0) (xs : List X) (i : ℕ) (x : X) → AllByRecursion P xs → P x → AllByRecursion P (slice_set xs i x)
all_set P [] i x all has = tt
all_set P (y ∷ ys) zero x all has = (has, all.1)
all_set P (y ∷ ys) (suc i) x all has = (all.0, all_set P ys i x all.1 has)

pub all_filter : {X : Type 0} (P : X → Type 0) (p : X → Bool) (xs : List X) → AllByRecursion P xs → AllByRecursion P (filter p xs)
all_filter P p [] all = tt
all_filter P p (x ∷ xs) all = cond_both (p x) (x ∷ filter p xs) (filter p xs) (AllByRecursion P) (λ yes. (all.0, all_filter P p xs all.1)) (λ no. all_filter P p xs all.1)

pub few_filter : {X : Type 0} (p : X → Bool) (xs : List X) → length (filter p xs) ≤ length xs
few_filter p [] = omega arith
few_filter p (x ∷ xs) = let rest = few_filter p xs in cond_both (p x) (x ∷ filter p xs) (filter p xs) (λ l. length l ≤ length (x ∷ xs)) (λ yes. omega (arith, rest)) (λ no. omega (arith, rest))

-- an item that was read is what stands at its place
pub item_is : {X : Type 0} (xs ys : List X) (i : ℕ) (x y : X) → x ≡ get_or ys i x → ys ≡ xs → slice_get xs i ≡ Some y → x ≡ y
item_is xs ys i x y is same there = is ∙ ap (λ l. get_or l i x) same ∙ get_or_from_slice_get xs i y x there

-- what stands at a place, with one item more at the end
pub get_more : {X : Type 0} (xs ys : List X) (i : ℕ) → i < length xs → slice_get (xs ++ ys) i ≡ slice_get xs i
get_more [] ys i low = absurd (omega arith)
get_more (x ∷ xs) ys zero low = refl
get_more (x ∷ xs) ys (suc i) low = get_more xs ys i (omega arith)

pub get_more-cases : {X : Type 0} (xs : List X) (y : X) (i : ℕ) (x : X) → slice_get (xs ++ y ∷ []) i ≡ Some x → (slice_get xs i ≡ Some x) ⊎ (x ≡ y)
get_more-cases [] y zero x is = inr (cc)
get_more-cases [] y (suc i) x is = absurd (cc)
get_more-cases (z ∷ zs) y zero x is = inl is
get_more-cases (z ∷ zs) y (suc i) x is = get_more-cases zs y i x is

-- and with another item at a place
pub get_set-cases : {X : Type 0} (xs : List X) (k : ℕ) (y : X) (i : ℕ) (x : X) → slice_get (slice_set xs k y) i ≡ Some x
    → (slice_get xs i ≡ Some x) ⊎ ((i ≡ k) × (x ≡ y))
get_set-cases [] k y i x is = absurd (cc)
get_set-cases (z ∷ zs) zero y zero x is = inr (refl, cc)
get_set-cases (z ∷ zs) zero y (suc i) x is = inl is
get_set-cases (z ∷ zs) (suc k) y zero x is = inl is
get_set-cases (z ∷ zs) (suc k) y (suc i) x is = elim (get_set-cases zs k y i x is) [
  | inl other ↦ inl other
  | inr here ↦ inr (ap suc here.0, here.1)
]

pub get_set-same : {X : Type 0} (xs : List X) (k : ℕ) (y : X) → k < length xs → slice_get (slice_set xs k y) k ≡ Some y
get_set-same [] k y low = absurd (omega arith)
get_set-same (x ∷ xs) zero y low = refl
get_set-same (x ∷ xs) (suc k) y low = get_set-same xs k y (omega arith)

pub get_set-other : {X : Type 0} (xs : List X) (k : ℕ) (y : X) (i : ℕ) → i ≢ k → slice_get (slice_set xs k y) i ≡ slice_get xs i
get_set-other [] k y i other = refl
get_set-other (x ∷ xs) zero y zero other = absurd (other refl)
get_set-other (x ∷ xs) zero y (suc i) other = refl
get_set-other (x ∷ xs) (suc k) y zero other = refl
get_set-other (x ∷ xs) (suc k) y (suc i) other = get_set-other xs k y i (λ same. other (ap suc same))

-- two lists to which an item was added are one where they are the same then · what is left where the last of them is taken away again
init_same : {X : Type 0} (xs ys : List X) (x y : X) → xs ++ x ∷ [] ≡ ys ++ y ∷ [] → xs ≡ ys
init_same xs ys x y same =
    let long : length xs ≡ length ys = omega (arith, length_push xs x, length_push ys y, ap length same) in
    sym (take-append-le (length xs) xs (x ∷ []) (omega arith) ∙ take_all (length xs) xs (omega arith))
    ∙ ap (take (length xs)) same ∙ ap (λ n. take n (ys ++ y ∷ [])) long
    ∙ take-append-le (length ys) ys (y ∷ []) (omega arith) ∙ take_all (length ys) ys (omega arith)

pub popped : {X : Type 0} (old pushed left : List X) (x : X) (last : Option X) → pushed ≡ old ++ x ∷ []
    → MatchOption last ((pushed ≡ []) × (left ≡ [])) (λ last. pushed ≡ left ++ last ∷ []) → left ≡ old
popped old pushed left x None is was = absurd (omega (arith, ap length (sym is ∙ was.0), length_push old x))
popped old pushed left x (Some last) is was = init_same left old last x (sym was ∙ is)
