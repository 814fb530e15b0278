-- The trees of the conditions that the parser makes.
use Rattle.std.specs.Prelude.{◌≡◌, ℕ, List, [], ◌∷◌, ◌++◌}
use Rattle.std.proofs.Common.{refl, ap, ◌∙◌}
use Rattle.sql_front.specs.declared.tree.Cond.{Cond}
use Rattle.sql_front.specs.declared.tree.Cond.TheBlock.{Row_of-Joined, end_of-Joined, more_of-Joined, items-the_row-Joined, hidden-the_row-Joined-0, items_hidden-the_row-Joined-0}
use Rattle.sql_front.specs.declared.tree.Cond.TheVariants as cond
use Rattle.sql_front.specs.declared.tree.Joined.{Joined}
use Rattle.sql_front.specs.declared.tree.Joined.TheVariants as joined
use Rattle.sql_front.specs.declared.tree.Predicate.{Predicate}
use Rattle.sql_front.specs.declared.tree.Predicate.TheVariants as predicate
use Rattle.sql_front.specs.declared.tree.Side.{Side}
use Rattle.sql_front.specs.declared.words.Comparison.{Comparison}
use Rattle.sql_front.specs.Tree.{CondTree, group, compare}
use Rattle.sql_front.specs.View.{negations, one_cond, and_last, or_last, side_tree, predicate_tree, cond_tree, row_tree, next_unit, more_joined}

pub group_tree : (n : ℕ) (c : Cond) → predicate_tree (predicate.Group n c) ≡ negations n (group (cond_tree c))
unfolding predicate_tree Rattle.sql_front.specs.declared.tree.Cond.TheBlock.hidden-the_row-Cond-1 denote.Hole.Carrier.hidden
group_tree n c = refl

pub comparison_tree : (n : ℕ) (l : Side) (op : Comparison) (at : ℕ) (r : Side) → predicate_tree (predicate.Compare n l op at r) ≡ negations n (compare (side_tree l) op at (side_tree r))
unfolding predicate_tree
comparison_tree n l op at r = refl

pub and_tree : (before : CondTree) (u : Predicate) → next_unit before (joined.And u) ≡ and_last before (predicate_tree u)
unfolding next_unit
and_tree before u = refl

pub or_tree : (before : CondTree) (u : Predicate) → next_unit before (joined.Or u) ≡ or_last before (predicate_tree u)
unfolding next_unit
or_tree before u = refl

-- ---- lists

units_of_row : (n : _) (row : Row_of-Joined n) (before : CondTree) → row_tree before row ≡ more_joined before (items-the_row-Joined n row)
unfolding row_tree
units_of_row _ end_of-Joined before = refl
units_of_row _ (more_of-Joined j rest) before = units_of_row _ rest (next_unit before j)

pub units_are : (u : Predicate) (more : List Joined) → cond_tree (cond.Units u more) ≡ more_joined (one_cond (predicate_tree u)) more
unfolding cond_tree denote.Hole.Carrier.hidden
units_are u more = units_of_row _ (hidden-the_row-Joined-0 more) (one_cond (predicate_tree u)) ∙ ap (more_joined (one_cond (predicate_tree u))) (items_hidden-the_row-Joined-0 more)

-- ---- one more of a list

pub joined_push : (before : CondTree) (js : List Joined) (j : Joined) → more_joined before (js ++ j ∷ []) ≡ next_unit (more_joined before js) j
joined_push before [] j = refl
joined_push before (i ∷ js) j = joined_push (next_unit before i) js j
