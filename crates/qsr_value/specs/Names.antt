-- Names of tables and columns, as their bytes.
use Rattle.std.specs.Prelude.{ℕ, Bool, false, ◌||◌, nat_eq, List, [], ◌∷◌}
use Rattle.std.specs.Cmp.Lexicographic.{pointwise}

abbrev pub same_name : List ℕ → List ℕ → Bool
same_name name other = pointwise nat_eq name other

-- a name is one of these
abbrev pub is_among : List ℕ → List (List ℕ) → Bool
is_among name [] = false
is_among name (other ∷ others) = same_name other name || is_among name others
