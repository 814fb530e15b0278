-- The conditions that the binder makes.
use Rattle.std.specs.Prelude.{◌≡◌, ◌≢◌, ℕ, ◌+◌, List, [], ◌∷◌, ◌++◌}
use Rattle.std.proofs.Common.{refl, sym, add-one, ap, ◌∙◌}
use Rattle.sql_bind.specs.declared.bound.Condition.{Condition}
use Rattle.sql_bind.specs.declared.bound.Condition.TheBlock.{Row_of-Condition, end_of-Condition, more_of-Condition, items-the_row-Condition, hidden-the_row-Condition-1, items_hidden-the_row-Condition-1}
use Rattle.sql_bind.specs.declared.bound.Condition.TheVariants as condition
use Rattle.sql_bind.specs.declared.bound.Operand.{Operand}
use Rattle.sql_bind.specs.Bound as bound
use Rattle.sql_bind.specs.Bound.{Conditions, none, and_then}
use Rattle.sql_bind.specs.Gathered.{disjunction}
use Rattle.sql_bind.specs.View.{condition_of, row_of, conditions_from, conditions_of}
use Rattle.sql_front.specs.declared.words.Comparison.{Comparison}

pub comparison_is : (l : Operand) (op : Comparison) (r : Operand) → condition_of (condition.Compare l op r) ≡ bound.compared l op r
unfolding condition_of
comparison_is l op r = refl

pub opposite_is : (c : Condition) → condition_of (condition.Not c) ≡ bound.opposite (condition_of c)
unfolding condition_of Rattle.sql_bind.specs.declared.bound.Condition.TheBlock.hidden-the_row-Condition-0 denote.Hole.Carrier.hidden
opposite_is c = refl

row_is : (n : _) (row : Row_of-Condition n) (before : Conditions) → row_of before row ≡ conditions_from before (items-the_row-Condition n row)
unfolding row_of
row_is _ end_of-Condition before = refl
row_is _ (more_of-Condition c rest) before = row_is _ rest (and_then before (condition_of c))

pub all_are : (cs : List Condition) → condition_of (condition.All cs) ≡ bound.all_of (conditions_of cs)
unfolding condition_of denote.Hole.Carrier.hidden
all_are cs = ap bound.all_of (row_is _ (hidden-the_row-Condition-1 cs) none ∙ ap (conditions_from none) (items_hidden-the_row-Condition-1 cs))

pub any_are : (cs : List Condition) → condition_of (condition.Any cs) ≡ bound.any_of (conditions_of cs)
unfolding condition_of denote.Hole.Carrier.hidden
any_are cs = ap bound.any_of (row_is _ (hidden-the_row-Condition-1 cs) none ∙ ap (conditions_from none) (items_hidden-the_row-Condition-1 cs))

-- one more of a list
pub conditions_push : (before : Conditions) (cs : List Condition) (c : Condition) → conditions_from before (cs ++ c ∷ []) ≡ and_then (conditions_from before cs) (condition_of c)
conditions_push before [] c = refl
conditions_push before (d ∷ cs) c = conditions_push (and_then before (condition_of d)) cs c

-- one NOT more
pub one_more_opposite : (n : ℕ) (c : bound.Condition) → bound.opposites (n + 1) c ≡ bound.opposite (bound.opposites n c)
one_more_opposite n c = rw add-one refl

-- ---- conditions that OR joins

begun_any : (before : Conditions) (c : bound.Condition) (cs : List Condition) (d : bound.Condition)
    → disjunction (conditions_from (and_then before c) cs) d ≡ bound.any_of (and_then (conditions_from (and_then before c) cs) d)
begun_any before c [] d = refl
begun_any before c (e ∷ cs) d = begun_any (and_then before c) (condition_of e) cs d

-- behind others
pub disjunction_is : (cs : List Condition) (d : bound.Condition) → cs ≢ [] → disjunction (conditions_of cs) d ≡ bound.any_of (and_then (conditions_of cs) d)
disjunction_is [] d some = absurd (some refl)
disjunction_is (c ∷ cs) d some = begun_any none (condition_of c) cs d

pub disjunction_made : (cs all : List Condition) (c made : Condition) → cs ≢ [] → all ≡ cs ++ c ∷ [] → condition_of made ≡ bound.any_of (conditions_of all)
    → condition_of made ≡ disjunction (conditions_of cs) (condition_of c)
disjunction_made cs all c made some push is =
    is ∙ ap (λ ds. bound.any_of (conditions_of ds)) push ∙ ap bound.any_of (conditions_push none cs c) ∙ sym (disjunction_is cs (condition_of c) some)
