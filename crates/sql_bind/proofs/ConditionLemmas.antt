-- What the conditions of a query are bound to, and their checks, along their lists of units.
use Rattle.std.specs.Prelude.{◌≡◌, ℕ, zero, suc, ◌+◌, ◌<◌, List, [], ◌∷◌, ◌++◌, length, get_or, drop, Option, None}
use borrow.Enum.Arm.{read_off}
use borrow.Enum.Known.{ValuesAt}
use borrow.Enum.Total.{values_d, lives_by}
use denote.Enum.Declared.{declared, tag_of}
use Rattle.std.proofs.Common.{refl, sym, ap, ◌∙◌, append_assoc}
use Rattle.std.proofs.lemmas.List.{append-nil}
use Rattle.sql_bind.specs.Bound.{Condition, Conditions, none, and_then, all_of, any_of, opposite, opposites, bound_unit, bound_conj, bound_units, bound_cond, bound_conjs}
use Rattle.sql_bind.specs.Checks.{unit_checks, conj_checks, cond_checks}
use Rattle.sql_bind.specs.Gathered.{OpenConjunction, OpenCondition, alone, units_of, with_unit, conjunction, disjunction, first_read, behind_and, behind_or, finished, next_read}
use Rattle.sql_bind.specs.Names.{Scoped, BindRefusal}
use Rattle.sql_bind.specs.View.{joined_unit}
use Rattle.sql_front.specs.Tree.{CondTree, ConjTree, UnitTree, group, one_unit, and_unit, one_conj, or_conj}
use Rattle.sql_front.specs.View.{predicate_tree, cond_tree, negations, one_cond, and_last, or_last, next_unit, more_joined}
use Rattle.sql_front.specs.declared.tree.Cond as whole_cond
use Rattle.sql_front.specs.declared.tree.Cond.{Cond}
use Rattle.sql_front.specs.declared.tree.Cond.TheBlock.{Units'}
use Rattle.sql_front.specs.declared.tree.Cond.TheVariants as cond
use Rattle.sql_front.specs.contracts.tree.Cond as code_cond
use Rattle.sql_front.specs.declared.tree.Joined.{Joined}
use Rattle.sql_front.specs.declared.tree.Joined.TheVariants as joined
use Rattle.sql_front.specs.declared.tree.Predicate.{Predicate}
use Rattle.sql_bind.proofs.CheckLemmas.{passed, refused}
use Rattle.qsr_lists.proofs.Walking.{drop_next}
use Rattle.sql_front.proofs.Making.{group_tree, comparison_tree, units_are}
use Rattle.grammar_laws.specs.Checks.{Check, first_refusal, check_at_fault}

-- ---- a condition as its first unit and the others

tag_is : (d : Cond) → tag_of (declared code_cond.enum) d ≡ 0
unfolding whole_cond.out-Cond denote.Hole.Carrier.out
tag_is (Units' u s row) = refl

-- A match on an enum of one variant tells of no case: what its pattern binds is read off the value, each name by a reading of its own.
pub is_units : (v w : ValuesAt code_cond.enum.parts 0) (d : Cond) → d ≡ cond.Units (values_d code_cond.enum 0 v d).0 (values_d code_cond.enum 0 w d).1.0
is_units v w d =
    let e = lives_by code_cond.enum d 0 v (tag_is d) in
    e ∙ ap (λ (x : ValuesAt code_cond.enum.parts 0). cond.Units (values_d code_cond.enum 0 v d).0 x.1.0) (sym (read_off code_cond.enum 0 w (values_d code_cond.enum 0 v d) e))

pub first_is : (v : ValuesAt code_cond.enum.parts 0) (d : Cond) → d ≡ cond.Units (values_d code_cond.enum 0 v d).0 (values_d code_cond.enum 0 v d).1.0
first_is v d = is_units v v d

-- ---- units

pub negations_checks : (scope : List Scoped) (n : ℕ) (u : UnitTree) → unit_checks scope (negations n u) ≡ unit_checks scope u
unfolding unit_checks
negations_checks scope zero u = refl
negations_checks scope (suc n) u = negations_checks scope n u

pub negations_bound : (scope : List Scoped) (n : ℕ) (u : UnitTree) → bound_unit scope (negations n u) ≡ opposites n (bound_unit scope u)
unfolding bound_unit
negations_bound scope zero u = refl
negations_bound scope (suc n) u = ap opposite (negations_bound scope n u)

pub group_checks : (scope : List Scoped) (c : CondTree) → unit_checks scope (group c) ≡ cond_checks scope c
unfolding unit_checks
group_checks scope c = refl

pub group_bound : (scope : List Scoped) (c : CondTree) → bound_unit scope (group c) ≡ bound_cond scope c
unfolding bound_unit
group_bound scope c = refl

-- ---- checks

-- the checks of each of these units
abbrev pub joined_checks : List Scoped → List Joined → List (Check BindRefusal)
joined_checks scope [] = []
joined_checks scope (j ∷ js) = unit_checks scope (joined_unit j) ++ joined_checks scope js

pub one_cond_checks : (scope : List Scoped) (u : UnitTree) → cond_checks scope (one_cond u) ≡ unit_checks scope u
unfolding cond_checks
one_cond_checks scope u = refl

and_last_checks : (scope : List Scoped) (c : CondTree) (u : UnitTree) → cond_checks scope (and_last c u) ≡ cond_checks scope c ++ unit_checks scope u
unfolding cond_checks
and_last_checks scope (one_conj j) u = refl
and_last_checks scope (or_conj c j) u = sym (append_assoc (cond_checks scope c) (conj_checks scope j) (unit_checks scope u))

next_checks : (scope : List Scoped) (before : CondTree) (j : Joined) → cond_checks scope (next_unit before j) ≡ cond_checks scope before ++ unit_checks scope (joined_unit j)
unfolding next_unit cond_checks
next_checks scope before (joined.And u) = and_last_checks scope before (predicate_tree u)
next_checks scope before (joined.Or u) = refl

more_checks : (scope : List Scoped) (before : CondTree) (js : List Joined) → cond_checks scope (more_joined before js) ≡ cond_checks scope before ++ joined_checks scope js
more_checks scope before [] = sym (append-nil (cond_checks scope before))
more_checks scope before (j ∷ js) =
    more_checks scope (next_unit before j) js
    ∙ ap (λ xs. xs ++ joined_checks scope js) (next_checks scope before j)
    ∙ append_assoc (cond_checks scope before) (unit_checks scope (joined_unit j)) (joined_checks scope js)

-- where the first unit isn't refused
pub first_passed : (scope : List Scoped) (u : UnitTree) (js : List Joined) → first_refusal (unit_checks scope u) ≡ None
    → first_refusal (cond_checks scope (more_joined (one_cond u) js)) ≡ first_refusal (joined_checks scope js)
first_passed scope u js nothing =
    ap first_refusal (more_checks scope (one_cond u) js ∙ ap (λ xs. xs ++ joined_checks scope js) (one_cond_checks scope u))
    ∙ passed (unit_checks scope u) (joined_checks scope js) nothing

pub first_refused : (scope : List Scoped) (u : UnitTree) (js : List Joined) (told : Option BindRefusal) → first_refusal (unit_checks scope u) ≡ check_at_fault (first_refusal (unit_checks scope u)) told
    → first_refusal (cond_checks scope (more_joined (one_cond u) js)) ≡ check_at_fault (first_refusal (cond_checks scope (more_joined (one_cond u) js))) told
first_refused scope u js told same =
    let e = ap first_refusal (more_checks scope (one_cond u) js ∙ ap (λ xs. xs ++ joined_checks scope js) (one_cond_checks scope u)) in
    e ∙ refused (unit_checks scope u) (joined_checks scope js) told same ∙ ap (λ check. check_at_fault check told) (sym e)

-- the checks of the next of these units, and those behind it
pub left_passed : (scope : List Scoped) (all : Check BindRefusal) (js : List Joined) (i : ℕ) (j : Joined) → i < length js → j ≡ get_or js i j
    → all ≡ first_refusal (joined_checks scope (drop i js)) → first_refusal (unit_checks scope (joined_unit j)) ≡ None
    → all ≡ first_refusal (joined_checks scope (drop (i + 1) js))
left_passed scope all js i j within is left nothing =
    left ∙ ap (λ ks. first_refusal (joined_checks scope ks)) (drop_next js i j within is)
    ∙ passed (unit_checks scope (joined_unit j)) (joined_checks scope (drop (i + 1) js)) nothing

pub left_refused : (scope : List Scoped) (all : Check BindRefusal) (js : List Joined) (i : ℕ) (j : Joined) (told : Option BindRefusal) → i < length js → j ≡ get_or js i j
    → all ≡ first_refusal (joined_checks scope (drop i js)) → first_refusal (unit_checks scope (joined_unit j)) ≡ check_at_fault (first_refusal (unit_checks scope (joined_unit j))) told
    → all ≡ check_at_fault all told
left_refused scope all js i j told within is left same =
    let e = left ∙ ap (λ ks. first_refusal (joined_checks scope ks)) (drop_next js i j within is) in
    e ∙ refused (unit_checks scope (joined_unit j)) (joined_checks scope (drop (i + 1) js)) told same ∙ ap (λ check. check_at_fault check told) (sym e)

-- ---- what is read of a condition

-- the units of a conjunction, bound
abbrev pub held : List Scoped → ConjTree → OpenConjunction
held scope (one_unit u) = alone (bound_unit scope u)
held scope (and_unit j u) = with_unit (held scope j) (bound_unit scope u)

held_units : (scope : List Scoped) (j : ConjTree) → units_of (held scope j) ≡ bound_units scope j
unfolding bound_units
held_units scope (one_unit u) = refl
held_units scope (and_unit j u) = ap (λ cs. and_then cs (bound_unit scope u)) (held_units scope j)

held_bound : (scope : List Scoped) (j : ConjTree) → conjunction (held scope j) ≡ bound_conj scope j
unfolding bound_conj
held_bound scope (one_unit u) = refl
held_bound scope (and_unit j u) = ap (λ cs. all_of (and_then cs (bound_unit scope u))) (held_units scope j)

abbrev pub read_of : List Scoped → CondTree → OpenCondition
read_of scope (one_conj j) = record { closed = none; last = held scope j }
read_of scope (or_conj c j) = record { closed = bound_conjs scope c; last = held scope j }

and_read : (scope : List Scoped) (c : CondTree) (u : UnitTree) → read_of scope (and_last c u) ≡ behind_and (read_of scope c) (bound_unit scope u)
and_read scope (one_conj j) u = refl
and_read scope (or_conj c j) u = refl

abbrev begun_behind : Conditions → Condition → Condition → OpenCondition
begun_behind closed b c = record { closed = and_then closed c; last = alone b }

or_behind : (closed : Conditions) (b c d : Condition) → c ≡ d → begun_behind closed b c ≡ begun_behind closed b d
or_behind closed b c d same = ap (begun_behind closed b) same

or_read : (scope : List Scoped) (c : CondTree) (u : UnitTree) → read_of scope (or_last c u) ≡ behind_or (read_of scope c) (bound_unit scope u)
unfolding bound_conjs
or_read scope (one_conj j) u = or_behind none (bound_unit scope u) _ _ (sym (held_bound scope j))
or_read scope (or_conj c j) u = or_behind (bound_conjs scope c) (bound_unit scope u) _ _ (sym (held_bound scope j))

next_is_read : (scope : List Scoped) (c : CondTree) (j : Joined) → read_of scope (next_unit c j) ≡ next_read scope (read_of scope c) j
unfolding next_unit
next_is_read scope c (joined.And u) = and_read scope c (predicate_tree u)
next_is_read scope c (joined.Or u) = or_read scope c (predicate_tree u)

disjunction_is : (scope : List Scoped) (c : CondTree) (b : Condition) → disjunction (bound_conjs scope c) b ≡ any_of (and_then (bound_conjs scope c) b)
unfolding bound_conjs
disjunction_is scope (one_conj j) b = refl
disjunction_is scope (or_conj c j) b = refl

finished_is : (scope : List Scoped) (c : CondTree) → finished (read_of scope c) ≡ bound_cond scope c
unfolding bound_cond
finished_is scope (one_conj j) = held_bound scope j
finished_is scope (or_conj c j) = disjunction_is scope c (conjunction (held scope j)) ∙ ap (λ b. any_of (and_then (bound_conjs scope c) b)) (held_bound scope j)

-- what is read once these units are read too
abbrev pub read_all : List Scoped → OpenCondition → List Joined → OpenCondition
read_all scope read [] = read
read_all scope read (j ∷ js) = read_all scope (next_read scope read j) js

all_read : (scope : List Scoped) (c : CondTree) (js : List Joined) → read_of scope (more_joined c js) ≡ read_all scope (read_of scope c) js
all_read scope c [] = refl
all_read scope c (j ∷ js) = all_read scope (next_unit c j) js ∙ ap (λ read. read_all scope read js) (next_is_read scope c j)

-- ---- a loop over the further units

-- what is read of a condition, and the units that are left
pub record HasRead (scope : List Scoped) (whole : CondTree) (read : OpenCondition) (left : List Joined) : Type 0 where
  pub checks : first_refusal (cond_checks scope whole) ≡ first_refusal (joined_checks scope left)
  pub bound : bound_cond scope whole ≡ finished (read_all scope read left)

pub read_begins : (scope : List Scoped) (d : Cond) (u : Predicate) (js ks : List Joined) (b : Condition) (read : OpenCondition) → d ≡ cond.Units u js → ks ≡ js
    → first_refusal (unit_checks scope (predicate_tree u)) ≡ None → b ≡ bound_unit scope (predicate_tree u) → read ≡ first_read b → HasRead scope (cond_tree d) read ks
read_begins scope d u js ks b read is same nothing made begun =
    let e : cond_tree d ≡ more_joined (one_cond (predicate_tree u)) ks = ap cond_tree is ∙ units_are u js ∙ ap (more_joined (one_cond (predicate_tree u))) (sym same) in
    record {
      checks = ap (λ t. first_refusal (cond_checks scope t)) e ∙ first_passed scope (predicate_tree u) ks nothing;
      bound = ap (bound_cond scope) e ∙ sym (finished_is scope (more_joined (one_cond (predicate_tree u)) ks))
          ∙ ap finished (all_read scope (one_cond (predicate_tree u)) ks)
          ∙ ap (λ c. finished (read_all scope (first_read c) ks)) (sym made)
          ∙ ap (λ r. finished (read_all scope r ks)) (sym begun);
    }

pub read_next : (scope : List Scoped) (whole : CondTree) (read next : OpenCondition) (js : List Joined) (i : ℕ) (j : Joined) → i < length js → j ≡ get_or js i j → HasRead scope whole read (drop i js)
    → first_refusal (unit_checks scope (joined_unit j)) ≡ None → next ≡ next_read scope read j → HasRead scope whole next (drop (i + 1) js)
read_next scope whole read next js i j within is had nothing same = record {
  checks = left_passed scope _ js i j within is had.checks nothing;
  bound = had.bound ∙ ap (λ ks. finished (read_all scope read ks)) (drop_next js i j within is) ∙ ap (λ r. finished (read_all scope r (drop (i + 1) js))) (sym same);
}

-- a refusal of the first unit is one of all
pub begin_refused : (scope : List Scoped) (d : Cond) (u : Predicate) (js : List Joined) (told : Option BindRefusal) → d ≡ cond.Units u js
    → first_refusal (unit_checks scope (predicate_tree u)) ≡ check_at_fault (first_refusal (unit_checks scope (predicate_tree u))) told
    → first_refusal (cond_checks scope (cond_tree d)) ≡ check_at_fault (first_refusal (cond_checks scope (cond_tree d))) told
begin_refused scope d u js told is same =
    let e = ap cond_tree is ∙ units_are u js in
    let s = first_refused scope (predicate_tree u) js told same in
    ap (λ t. first_refusal (cond_checks scope t)) e ∙ s ∙ ap (λ t. check_at_fault (first_refusal (cond_checks scope t)) told) (sym e)

-- ---- what the walks cite

pub ruleset walking = (negations_checks, negations_bound, group_tree, comparison_tree, group_checks, group_bound, units_are, first_refused, left_refused)
