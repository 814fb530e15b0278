-- One turn of a loop that pushes what it makes of each element of a list.
use Rattle.std.proofs.Common.{◌≡◌, sym, ap, ◌∙◌, ℕ, ◌+◌, ◌<◌, List, [], ◌∷◌, ◌++◌, length, map, drop, get_or, append_assoc}
use Rattle.std.proofs.lemmas.List.{at_drop_more}

-- what is made so far is followed by what is made of those that are left
pub mapped_on : {X Y : Type 0} (f : X → Y) (xs : List X) (i : ℕ) (d : X) (all made more : List Y) (y : Y) → i < length xs
    → all ≡ made ++ map f (drop i xs) → y ≡ f (get_or xs i d) → more ≡ made ++ y ∷ [] → all ≡ more ++ map f (drop (i + 1) xs)
mapped_on f xs i d all made more y low left is pushed =
    left ∙ at_drop_more (λ ys. made ++ map f ys) xs i d low
    ∙ sym (append_assoc made (f (get_or xs i d) ∷ []) (map f (drop (i + 1) xs)))
    ∙ ap (λ z. (made ++ z ∷ []) ++ map f (drop (i + 1) xs)) (sym is)
    ∙ ap (λ zs. zs ++ map f (drop (i + 1) xs)) (sym pushed)
