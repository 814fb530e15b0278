-- What the code's conditions say, by the trees that they stand for.
use Rattle.std.specs.Prelude.{◌≡◌, ℕ, ◌+◌, ◌<◌, Bool, true, false, not, ◌&&◌, ◌||◌, List, [], ◌∷◌, length, get_or, drop}
use Rattle.std.proofs.Common.{sym, ap, ◌∙◌}
use Rattle.std.proofs.Math.Bool.{and-true, and_assoc, or-false, or_assoc}
use Rattle.sql_bind.specs.Bound.{Conditions, none, and_then}
use Rattle.sql_bind.specs.View.{condition_of, conditions_from, conditions_of}
use Rattle.sql_bind.specs.declared.bound.Condition.{Condition}
use Rattle.sql_bind.specs.declared.bound.Condition.TheVariants as condition
use Rattle.sql_bind.specs.declared.bound.Operand.{Operand}
use Rattle.sql_bind.proofs.Making.{all_are, any_are, comparison_is, opposite_is}
use Rattle.sql_front.specs.declared.words.Comparison.{Comparison}
use Rattle.qsr_value.specs.Ordered.{compare_values}
use Rattle.sql_mean.specs.Meaning.{Joined, all_hold, any_holds, holds, says, value_of}
use Rattle.qsr_lists.proofs.Walking.{drop_next}

-- all of some conditions hold
abbrev pub each_holds : Joined → List Condition → Bool
each_holds env [] = true
each_holds env (c ∷ cs) = holds env (condition_of c) && each_holds env cs

-- some of them holds
abbrev pub some_holds : Joined → List Condition → Bool
some_holds env [] = false
some_holds env (c ∷ cs) = holds env (condition_of c) || some_holds env cs

all_from : (env : Joined) (before : Conditions) (cs : List Condition) → all_hold env (conditions_from before cs) ≡ (all_hold env before && each_holds env cs)
all_from env before [] = sym (and-true (all_hold env before))
all_from env before (c ∷ cs) = all_from env (and_then before (condition_of c)) cs ∙ and_assoc (all_hold env before) (holds env (condition_of c)) (each_holds env cs)

any_from : (env : Joined) (before : Conditions) (cs : List Condition) → any_holds env (conditions_from before cs) ≡ (any_holds env before || some_holds env cs)
any_from env before [] = sym (or-false (any_holds env before))
any_from env before (c ∷ cs) = any_from env (and_then before (condition_of c)) cs ∙ or_assoc (any_holds env before) (holds env (condition_of c)) (some_holds env cs)

pub all_are_each : (env : Joined) (cs : List Condition) → all_hold env (conditions_of cs) ≡ each_holds env cs
all_are_each env cs = all_from env none cs

pub comparison_holds : (env : Joined) (l : Operand) (how : Comparison) (r : Operand) → holds env (condition_of (condition.Compare l how r)) ≡ says how (compare_values (value_of env l) (value_of env r))
comparison_holds env l how r = ap (holds env) (comparison_is l how r)

pub opposite_holds : (env : Joined) (c : Condition) → holds env (condition_of (condition.Not c)) ≡ not (holds env (condition_of c))
opposite_holds env c = ap (holds env) (opposite_is c)

pub all_of_holds : (env : Joined) (cs : List Condition) → holds env (condition_of (condition.All cs)) ≡ each_holds env cs
all_of_holds env cs = ap (holds env) (all_are cs) ∙ all_from env none cs

pub any_of_holds : (env : Joined) (cs : List Condition) → holds env (condition_of (condition.Any cs)) ≡ some_holds env cs
any_of_holds env cs = ap (holds env) (any_are cs) ∙ any_from env none cs

-- ---- along a loop

pub each_next : (env : Joined) (cs : List Condition) (i : ℕ) (c : Condition) → i < length cs → c ≡ get_or cs i c
    → each_holds env (drop i cs) ≡ (holds env (condition_of c) && each_holds env (drop (i + 1) cs))
each_next env cs i c low is = ap (each_holds env) (drop_next cs i c low is)

pub some_next : (env : Joined) (cs : List Condition) (i : ℕ) (c : Condition) → i < length cs → c ≡ get_or cs i c
    → some_holds env (drop i cs) ≡ (holds env (condition_of c) || some_holds env (drop (i + 1) cs))
some_next env cs i c low is = ap (some_holds env) (drop_next cs i c low is)

pub ruleset reading = (comparison_holds, opposite_holds, all_of_holds, any_of_holds, all_are_each, each_next, some_next)
