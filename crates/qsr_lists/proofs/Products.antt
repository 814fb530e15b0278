-- How many elements a product has.
use Rattle.std.specs.Prelude.{◌≡◌, ℕ, ◌+◌, ◌*◌, List, [], ◌∷◌, length, map}
use Rattle.std.specs.List.{flat_map}
use Rattle.std.proofs.Common.{refl, ap, ◌∙◌, arith}
use Rattle.std.proofs.lemmas.List.{length-append, length-map}
use Rattle.std.proofs.Math.Nat.{suc-mul}
use Rattle.qsr_lists.specs.Lists.{product, size_of_product}

-- a `flat_map` of pieces of one size
length-even_pieces : {X A : Type 0} (f : X → List A) (size : ℕ) → ((x : X) → length (f x) ≡ size) → (xs : List X) → length (flat_map f xs) ≡ length xs * size
length-even_pieces f size each [] = omega arith
length-even_pieces f size each (x ∷ xs) =
    let here = each x in
    let later = length-even_pieces f size each xs in
    let one_more : length (x ∷ xs) * size ≡ length xs * size + size = suc-mul (length xs) size in
    length-append (f x) (flat_map f xs) ∙ omega (arith, here, later, one_more)

pub length-product : {X : Type 0} (xss : List (List X)) → length (product xss) ≡ size_of_product xss
length-product [] = refl
length-product {X} (xs ∷ more) =
    length-even_pieces (λ (x : X). map (λ rest. x ∷ rest) (product more)) (length (product more)) (λ x. length-map (product more) (λ rest. x ∷ rest)) xs
    ∙ ap (λ size. length xs * size) (length-product more)
