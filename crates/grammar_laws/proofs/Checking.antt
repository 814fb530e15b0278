-- The first refusal of lists of checks.
use Rattle.std.specs.Prelude.{◌≡◌, List, [], ◌∷◌, ◌++◌, Some, None}
use Rattle.std.proofs.Common.{refl}
use Rattle.grammar_laws.specs.Checks.{Check, first_refusal, or_later}

pub first_of_both : {Told : Type 0} (first later : List (Check Told)) → first_refusal (first ++ later) ≡ or_later (first_refusal first) (first_refusal later)
first_of_both [] later = refl
first_of_both (None ∷ first) later = first_of_both first later
first_of_both (Some told ∷ first) later = refl
