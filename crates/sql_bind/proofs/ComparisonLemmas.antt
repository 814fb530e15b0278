-- The numbers that literals are, and the checks of a comparison.
use Rattle.std.specs.Prelude.{◌≡◌, ℕ, ℤ, pos, neg_ℤ, ◌<◌, ◌^◌, Bool, false, true, not, List, [], ◌∷◌, ◌++◌, Option, Some, None}
use Rattle.std.specs.Int.{Width, w128, cast_signed, int_wrap, int_wrapping_neg}
use mathlib.Core.Bool.{beq}
use mir.Val.{bits}
use Rattle.std.proofs.Common.{refl, sym, ap, ◌∙◌}
use Rattle.std.proofs.Math.IntN.{+ℤ_idl}
use Rattle.std.proofs.Math.Nat.{mod-eq_of_lt}
use Rattle.std.proofs.lemmas.Int.{wrapping_neg_is, SFits-int_wrap, int_wrap-sub_right}
use Rattle.sql_bind.specs.Bound.{compared, signed_number, operand_of, bound_unit}
use Rattle.sql_bind.specs.Checks.{unit_checks, side_checks, refuse_if, differ, is_text_operand}
use Rattle.sql_bind.specs.Names.{Scoped, BindRefusal, TypeClash}
use Rattle.sql_bind.specs.declared.bound.Operand.{Operand}
use Rattle.sql_front.specs.Tree.{Side, compare}
use Rattle.sql_front.specs.declared.words.Comparison.{Comparison}
use Rattle.sql_bind.proofs.CheckLemmas.{passed, refused}
use Rattle.grammar_laws.specs.Checks.{Check, first_refusal, check_at_fault}

-- ---- numbers

positive_is : (w : Width) (n : ℕ) → n < 2 ^ bits w → cast_signed w n ≡ int_wrap w (pos n)
unfolding int_wrap
positive_is w n small = ap (cast_signed w) (sym (mod-eq_of_lt small))

negated_wrap : (w : Width) (z : ℤ) → int_wrap w (neg_ℤ (int_wrap w z)) ≡ int_wrap w (neg_ℤ z)
negated_wrap w z = ap (int_wrap w) (sym (+ℤ_idl (neg_ℤ (int_wrap w z)))) ∙ int_wrap-sub_right w (pos 0) z ∙ ap (int_wrap w) (+ℤ_idl (neg_ℤ z))

negative_is : (w : Width) (n : ℕ) → n < 2 ^ bits w → int_wrapping_neg w (cast_signed w n) ≡ int_wrap w (neg_ℤ (pos n))
negative_is w n small =
    ap (int_wrapping_neg w) (positive_is w n small)
    ∙ wrapping_neg_is w (int_wrap w (pos n)) (SFits-int_wrap w (pos n))
    ∙ negated_wrap w (pos n)

pub number_is : (n : ℕ) → n < 2 ^ 128 → cast_signed w128 n ≡ signed_number false n
number_is n small = positive_is w128 n small

pub negative_number_is : (n : ℕ) → n < 2 ^ 128 → int_wrapping_neg w128 (cast_signed w128 n) ≡ signed_number true n
negative_number_is n small = negative_is w128 n small

-- ---- lists of checks

only_check : (z : Check BindRefusal) → first_refusal (z ∷ []) ≡ z
only_check None = refl
only_check (Some told) = refl

first_of_two : (xs ys zs : List (Check BindRefusal)) (told : Option BindRefusal) → first_refusal xs ≡ check_at_fault (first_refusal xs) told
    → first_refusal (xs ++ ys ++ zs) ≡ check_at_fault (first_refusal (xs ++ ys ++ zs)) told
first_of_two xs ys zs told same = refused (xs ++ ys) zs told (refused xs ys told same)

second_of_two : (xs ys zs : List (Check BindRefusal)) (told : Option BindRefusal) → first_refusal xs ≡ None → first_refusal ys ≡ check_at_fault (first_refusal ys) told
    → first_refusal (xs ++ ys ++ zs) ≡ check_at_fault (first_refusal (xs ++ ys ++ zs)) told
second_of_two xs ys zs told nothing same = refused (xs ++ ys) zs told (rw (passed xs ys nothing) same)

behind_two : (xs ys : List (Check BindRefusal)) (z : Check BindRefusal) → first_refusal xs ≡ None → first_refusal ys ≡ None → first_refusal (xs ++ ys ++ z ∷ []) ≡ z
behind_two xs ys z nothing none_too = passed (xs ++ ys) (z ∷ []) (passed xs ys nothing ∙ none_too) ∙ only_check z

pub compare_bound : (scope : List Scoped) (l : Side) (op : Comparison) (at : ℕ) (r : Side) → bound_unit scope (compare l op at r) ≡ compared (operand_of scope l) op (operand_of scope r)
unfolding bound_unit
compare_bound scope l op at r = refl

pub ruleset numbers = (number_is, negative_number_is)

-- a comparison is refused where its left side is, else where its right side is, else where one of them is a text and the other is none
pub left_refused : (scope : List Scoped) (l : Side) (op : Comparison) (at : ℕ) (r : Side) (told : Option BindRefusal)
    → first_refusal (side_checks scope l) ≡ check_at_fault (first_refusal (side_checks scope l)) told
    → first_refusal (unit_checks scope (compare l op at r)) ≡ check_at_fault (first_refusal (unit_checks scope (compare l op at r))) told
unfolding unit_checks
left_refused scope l op at r told same = first_of_two (side_checks scope l) (side_checks scope r) _ told same

pub right_refused : (scope : List Scoped) (l : Side) (op : Comparison) (at : ℕ) (r : Side) (told : Option BindRefusal)
    → first_refusal (side_checks scope l) ≡ None → first_refusal (side_checks scope r) ≡ check_at_fault (first_refusal (side_checks scope r)) told
    → first_refusal (unit_checks scope (compare l op at r)) ≡ check_at_fault (first_refusal (unit_checks scope (compare l op at r))) told
unfolding unit_checks
right_refused scope l op at r told nothing same = second_of_two (side_checks scope l) (side_checks scope r) _ told nothing same

pub sides_passed : (scope : List Scoped) (l : Side) (op : Comparison) (at : ℕ) (r : Side) → first_refusal (side_checks scope l) ≡ None → first_refusal (side_checks scope r) ≡ None
    → first_refusal (unit_checks scope (compare l op at r)) ≡ refuse_if (differ (is_text_operand (operand_of scope l)) (is_text_operand (operand_of scope r))) (TypeClash at)
unfolding unit_checks
sides_passed scope l op at r nothing none_too = behind_two (side_checks scope l) (side_checks scope r) _ nothing none_too

differ_is : (a b : Bool) → differ a b ≡ not (beq a b)
differ_is true true = refl
differ_is true false = refl
differ_is false true = refl
differ_is false false = refl

-- these are its sides, and whether they are texts
pub sides_told : (scope : List Scoped) (l : Side) (op : Comparison) (at : ℕ) (r : Side) (o p : Operand) (a b : Bool)
    → first_refusal (side_checks scope l) ≡ None → first_refusal (side_checks scope r) ≡ None
    → o ≡ operand_of scope l → p ≡ operand_of scope r → a ≡ is_text_operand o → b ≡ is_text_operand p
    → first_refusal (unit_checks scope (compare l op at r)) ≡ refuse_if (not (beq a b)) (TypeClash at)
sides_told scope l op at r o p a b nothing none_too left right is_a is_b =
    sides_passed scope l op at r nothing none_too
    ∙ ap (λ (x : Bool). refuse_if x (TypeClash at)) (differ_is _ _ ∙ ap (λ (x : Bool). not (beq x (is_text_operand (operand_of scope r)))) (sym (is_a ∙ ap is_text_operand left)) ∙ ap (λ (x : Bool). not (beq a x)) (sym (is_b ∙ ap is_text_operand right)))

pub ruleset comparing = (compare_bound, left_refused, right_refused, sides_passed)
