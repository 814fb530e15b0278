-- The first refusal of checks that follow one another.
use Rattle.std.specs.Prelude.{◌≡◌, List, ◌++◌, Option, Some, None}
use Rattle.std.proofs.Common.{refl, ap, ◌∙◌}
use Rattle.grammar_laws.proofs.Checking.{first_of_both}
use Rattle.grammar_laws.specs.Checks.{Check, first_refusal, or_later, check_at_fault}

-- behind checks that refuse nothing
pub passed : {Refusal : Type 0} (xs ys : List (Check Refusal)) → first_refusal xs ≡ None → first_refusal (xs ++ ys) ≡ first_refusal ys
passed xs ys none = first_of_both xs ys ∙ ap (λ check. or_later check (first_refusal ys)) none

-- where a fault tells of the first refusal of some checks it tells of that of all, whatever follows
pub refused : {Refusal : Type 0} (xs ys : List (Check Refusal)) (told : Option Refusal) → first_refusal xs ≡ check_at_fault (first_refusal xs) told
    → first_refusal (xs ++ ys) ≡ check_at_fault (first_refusal (xs ++ ys)) told
refused xs ys None same = refl
refused xs ys (Some told) same = first_of_both xs ys ∙ ap (λ check. or_later check (first_refusal ys)) same
