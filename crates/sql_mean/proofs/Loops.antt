-- A loop that makes a list: what it has made is held, and the whole lacks what comes of what is left.
use Rattle.std.proofs.Common.{◌≡◌, refl, sym, ap, ◌∙◌, Bool, true, false, List, ◌∷◌, ◌++◌, filter}
use Rattle.std.proofs.lemmas.List.{append_assoc}

-- a part that was added
pub adds : {A : Type 0} (whole held left part rest pushed : List A) → whole ≡ held ++ left → left ≡ part ++ rest → pushed ≡ held ++ part → whole ≡ pushed ++ rest
adds whole held left part rest pushed so next push =
    so ∙ ap (λ xs. held ++ xs) next ∙ sym (append_assoc held part rest) ∙ ap (λ xs. xs ++ rest) (sym push)

-- nothing was added
pub passes : {A : Type 0} (whole held left rest : List A) → whole ≡ held ++ left → left ≡ rest → whole ≡ held ++ rest
passes whole held left rest so next = so ∙ ap (λ xs. held ++ xs) next

pub filter_yes : {A : Type 0} (p : A → Bool) (x : A) (xs : List A) → p x ≡ true → filter p (x ∷ xs) ≡ x ∷ filter p xs
filter_yes p x xs is = rw is refl

pub filter_no : {A : Type 0} (p : A → Bool) (x : A) (xs : List A) → p x ≡ false → filter p (x ∷ xs) ≡ filter p xs
filter_no p x xs isnt = rw isnt refl

-- the same, where what is held has another name
pub same_held : {A : Type 0} (whole held left rest now : List A) → whole ≡ held ++ left → left ≡ rest → now ≡ held → whole ≡ now ++ rest
same_held whole held left rest now so next is = passes whole held left rest so next ∙ ap (λ xs. xs ++ rest) (sym is)
