-- The conjuncts of conditions: they are split at their outermost ANDs.
use Rattle.std.specs.Prelude.{◌≡◌, ◌≢◌, ℕ, zero, suc, ◌+◌, ◌<◌, true, false, List, [], ◌∷◌, ◌++◌, length, get_or, drop, None}
use Rattle.std.proofs.Common.{refl, sym, ap, ◌∙◌}
use Rattle.sql_bind.specs.Bound.{Conditions, none, and_then, bound_unit, bound_cond, and_conjuncts, and_units, and_parts}
use Rattle.sql_bind.specs.Checks.{unit_checks, cond_checks}
use Rattle.sql_bind.specs.Names.{Scoped}
use Rattle.sql_bind.specs.View.{condition_of, conditions_of, joined_unit, has_or}
use Rattle.sql_bind.specs.declared.bound.Condition as code
use Rattle.sql_front.specs.Tree.{CondTree, ConjTree, UnitTree, Side, group, compare, one_unit, and_unit, one_conj, or_conj}
use Rattle.sql_front.specs.View.{predicate_tree, cond_tree, negations, one_cond, next_unit, more_joined}
use Rattle.sql_front.specs.declared.tree.Cond.{Cond}
use Rattle.sql_front.specs.declared.tree.Cond.TheVariants as cond
use Rattle.sql_front.specs.declared.tree.Joined.{Joined}
use Rattle.sql_front.specs.declared.tree.Joined.TheVariants as joined
use Rattle.sql_front.specs.declared.tree.Predicate.{Predicate}
use Rattle.sql_front.specs.declared.words.Comparison.{Comparison}
use Rattle.sql_bind.proofs.ConditionLemmas.{joined_checks, negations_checks, negations_bound, group_checks, first_passed, first_refused, left_passed, left_refused}
use Rattle.qsr_lists.proofs.Walking.{drop_next}
use Rattle.sql_bind.proofs.Making.{conditions_push}
use Rattle.sql_front.proofs.Making.{group_tree, comparison_tree, units_are}
use Rattle.grammar_laws.specs.Checks.{first_refusal}

-- ---- units

pub group_parts : (scope : List Scoped) (before : Conditions) (c : CondTree) → and_parts scope before (group c) ≡ and_conjuncts scope before c
unfolding and_parts
group_parts scope before c = refl

pub compare_parts : (scope : List Scoped) (before : Conditions) (l : Side) (op : Comparison) (at : ℕ) (r : Side) → and_parts scope before (compare l op at r) ≡ and_then before (bound_unit scope (compare l op at r))
unfolding and_parts
compare_parts scope before l op at r = refl

-- a NOT at least is no conjunct of a longer list
pub negations_parts : (scope : List Scoped) (before : Conditions) (n : ℕ) (u : UnitTree) → n ≢ 0 → and_parts scope before (negations n u) ≡ and_then before (bound_unit scope (negations n u))
unfolding and_parts
negations_parts scope before zero u some = absurd (some refl)
negations_parts scope before (suc n) u some = refl

-- ---- conditions

-- the conjuncts of these units behind others
abbrev pub joined_parts : List Scoped → Conditions → List Joined → Conditions
joined_parts scope before [] = before
joined_parts scope before (j ∷ js) = joined_parts scope (and_parts scope before (joined_unit j)) js

-- without OR each unit is split further
conj_parts : (scope : List Scoped) (before : Conditions) (c : ConjTree) (js : List Joined) → has_or js ≡ false
    → and_conjuncts scope before (more_joined (one_conj c) js) ≡ joined_parts scope (and_units scope before c) js
unfolding and_conjuncts next_unit
conj_parts scope before c [] none_is = refl
conj_parts scope before c (joined.And u ∷ js) none_is = conj_parts scope before (and_unit c (predicate_tree u)) js none_is
conj_parts scope before c (joined.Or u ∷ js) none_is = cc

pub no_or_parts : (scope : List Scoped) (before : Conditions) (u : UnitTree) (js : List Joined) → has_or js ≡ false
    → and_conjuncts scope before (more_joined (one_cond u) js) ≡ joined_parts scope (and_parts scope before u) js
unfolding and_units
no_or_parts scope before u js none_is = conj_parts scope before (one_unit u) js none_is

or_parts : (scope : List Scoped) (before : Conditions) (c : CondTree) (d : ConjTree) (js : List Joined)
    → and_conjuncts scope before (more_joined (or_conj c d) js) ≡ and_then before (bound_cond scope (more_joined (or_conj c d) js))
unfolding and_conjuncts next_unit
or_parts scope before c d [] = refl
or_parts scope before c d (joined.And u ∷ js) = or_parts scope before c (and_unit d (predicate_tree u)) js
or_parts scope before c d (joined.Or u ∷ js) = or_parts scope before (or_conj c d) (one_unit (predicate_tree u)) js

-- with an OR the whole is one conjunct
has_or_parts : (scope : List Scoped) (before : Conditions) (c : ConjTree) (js : List Joined) → has_or js ≡ true
    → and_conjuncts scope before (more_joined (one_conj c) js) ≡ and_then before (bound_cond scope (more_joined (one_conj c) js))
unfolding next_unit
has_or_parts scope before c [] some = cc
has_or_parts scope before c (joined.And u ∷ js) some = has_or_parts scope before (and_unit c (predicate_tree u)) js some
has_or_parts scope before c (joined.Or u ∷ js) some = or_parts scope before (one_conj c) (one_unit (predicate_tree u)) js

pub whole_pushed : (scope : List Scoped) (old new : List code.Condition) (d : Cond) (u : Predicate) (js ks : List Joined) (c : code.Condition) → d ≡ cond.Units u js → ks ≡ js → has_or ks ≡ true
    → condition_of c ≡ bound_cond scope (cond_tree d) → new ≡ old ++ c ∷ [] → conditions_of new ≡ and_conjuncts scope (conditions_of old) (cond_tree d)
whole_pushed scope old new d u js ks c is same some made push =
    let e : cond_tree d ≡ more_joined (one_cond (predicate_tree u)) ks = ap cond_tree is ∙ units_are u js ∙ ap (more_joined (one_cond (predicate_tree u))) (sym same) in
    ap conditions_of push ∙ conditions_push none old c ∙ ap (and_then (conditions_of old)) made
    ∙ ap (λ t. and_then (conditions_of old) (bound_cond scope t)) e
    ∙ sym (has_or_parts scope (conditions_of old) (one_unit (predicate_tree u)) ks some)
    ∙ ap (and_conjuncts scope (conditions_of old)) (sym e)

-- ---- a loop over the further units

-- what is pushed of the conjuncts of a condition, and the units that are left
pub record PartsLeft (scope : List Scoped) (before : Conditions) (whole : CondTree) (pushed : Conditions) (left : List Joined) : Type 0 where
  pub checks : first_refusal (cond_checks scope whole) ≡ first_refusal (joined_checks scope left)
  pub parts : and_conjuncts scope before whole ≡ joined_parts scope pushed left

pub parts_begin : (scope : List Scoped) (before pushed : Conditions) (d : Cond) (u : Predicate) (js ks : List Joined) → d ≡ cond.Units u js → ks ≡ js → has_or ks ≡ false
    → first_refusal (unit_checks scope (predicate_tree u)) ≡ None → pushed ≡ and_parts scope before (predicate_tree u) → PartsLeft scope before (cond_tree d) pushed ks
parts_begin scope before pushed d u js ks is same none_is nothing made =
    let e : cond_tree d ≡ more_joined (one_cond (predicate_tree u)) ks = ap cond_tree is ∙ units_are u js ∙ ap (more_joined (one_cond (predicate_tree u))) (sym same) in
    record {
      checks = ap (λ t. first_refusal (cond_checks scope t)) e ∙ first_passed scope (predicate_tree u) ks nothing;
      parts = ap (and_conjuncts scope before) e ∙ no_or_parts scope before (predicate_tree u) ks none_is ∙ ap (λ b. joined_parts scope b ks) (sym made);
    }

pub parts_next : (scope : List Scoped) (before : Conditions) (whole : CondTree) (pushed next : Conditions) (js : List Joined) (i : ℕ) (j : Joined) → i < length js → j ≡ get_or js i j
    → PartsLeft scope before whole pushed (drop i js) → first_refusal (unit_checks scope (joined_unit j)) ≡ None → next ≡ and_parts scope pushed (joined_unit j) → PartsLeft scope before whole next (drop (i + 1) js)
parts_next scope before whole pushed next js i j within is left nothing same = record {
  checks = left_passed scope _ js i j within is left.checks nothing;
  parts = left.parts ∙ ap (λ ks. joined_parts scope pushed ks) (drop_next js i j within is) ∙ ap (λ b. joined_parts scope b (drop (i + 1) js)) (sym same);
}

-- ---- what the walk cites

pub ruleset splitting = (negations_checks, negations_bound, negations_parts, group_tree, comparison_tree, group_checks, compare_parts, group_parts, units_are, first_refused, conditions_push)
