-- Conditions that AND joins: one that holds changes nothing, and their order doesn't matter.
use Rattle.std.specs.Prelude.{◌≡◌, Bool, true, false, not, ◌&&◌, ◌||◌, List, [], ◌∷◌, filter}
use Rattle.std.specs.List.{list_any}
use Rattle.std.specs.List.Sorted.{IsPermutation}
use Rattle.std.proofs.Common.{refl, sym, ap, ◌∙◌}
use Rattle.std.proofs.Math.Bool.{and-true}
use Rattle.std.proofs.lemmas.Cmp.{tied_itself}
use Rattle.std.proofs.lemmas.List.Elements.{filter_agree}
use Rattle.std.proofs.lemmas.List.Sorted.{list_any-IsPermutation}
use Rattle.qsr_value.proofs.ValueOrder.{values_total}
use Rattle.sql_bind.specs.Bound.{BoundSelect, Condition, Conditions, none, and_then, compared}
use Rattle.sql_bind.specs.declared.bound.Operand.{Operand}
use Rattle.sql_front.specs.declared.words.Comparison.TheVariants as op
use Rattle.sql_mean.specs.Laws.{conjuncts, opposites_of_each, with_where}
use Rattle.sql_mean.specs.Meaning.{Joined, Lists, holds, all_hold, any_holds, distinct_rows, joined_all, says, select_bag, shown, value_of}

and_not : (a b c : Bool) → ((a && b) && not c) ≡ (a && not (not b || c))
and_not true true c = refl
and_not true false c = refl
and_not false b c = refl

-- a condition that holds changes nothing
pub one_that_holds : (cs : Conditions) (c : Condition) (env : Joined) → holds env c ≡ true → all_hold env (and_then cs c) ≡ all_hold env cs
one_that_holds cs c env is = ap (λ b. all_hold env cs && b) is ∙ and-true (all_hold env cs)

-- a value is equal to itself
pub equal_to_itself : (l : Operand) (env : Joined) → holds env (compared l op.Equal l) ≡ true
equal_to_itself l env = ap (says op.Equal) (tied_itself values_total (value_of env l))

-- all of them hold where none fails
all_as_none_fails : (env : Joined) (before : Conditions) (cs : List Condition)
    → all_hold env (conjuncts before cs) ≡ (all_hold env before && not (list_any (λ c. not (holds env c)) cs))
all_as_none_fails env before [] = sym (and-true (all_hold env before))
all_as_none_fails env before (c ∷ cs) =
    all_as_none_fails env (and_then before c) cs ∙ and_not (all_hold env before) (holds env c) (list_any (λ d. not (holds env d)) cs)

pub any_order : (cs ds : List Condition) (envs : List Joined) → IsPermutation cs ds
    → filter (λ env. all_hold env (conjuncts none cs)) envs ≡ filter (λ env. all_hold env (conjuncts none ds)) envs
any_order cs ds envs same = filter_agree (λ env. all_hold env (conjuncts none cs)) (λ env. all_hold env (conjuncts none ds))
    (λ env. all_as_none_fails env none cs ∙ ap not (list_any-IsPermutation (λ c. not (holds env c)) cs ds same) ∙ sym (all_as_none_fails env none ds)) envs

pub any_order_of_where : (tables : Lists) (s : BoundSelect) (cs ds : List Condition) → IsPermutation cs ds
    → select_bag tables (with_where s (conjuncts none cs)) ≡ select_bag tables (with_where s (conjuncts none ds))
any_order_of_where tables s cs ds same =
    ap (λ envs. distinct_rows s.distinct (shown s envs)) (any_order cs ds (joined_all tables s.tables ([] ∷ [])) same)

not_or : (a b : Bool) → not (a || b) ≡ (not a && not b)
not_or true b = refl
not_or false b = refl

pub not_any : (env : Joined) (cs : Conditions) → not (any_holds env cs) ≡ all_hold env (opposites_of_each cs)
not_any env none = refl
not_any env (and_then cs c) = not_or (any_holds env cs) (holds env c) ∙ ap (λ b. b && not (holds env c)) (not_any env cs)
