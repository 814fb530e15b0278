-- One turn of the loops over items and keys; and where no column of GROUP BY is refused, all of them have a meaning.
use Rattle.std.proofs.Common.{◌≡◌, refl, ap, ◌∙◌, ℕ, ◌+◌, ◌<◌, List, [], ◌∷◌, length, drop, get_or, Option, None, Result, Ok, Err}
use Rattle.std.proofs.lemmas.List.{at_drop_more}
use Rattle.sql_bind.proofs.CheckLemmas.{passed}
use Rattle.sql_bind.proofs.FromLemmas.{fault_before}
use Rattle.sql_bind.specs.Bound.{bound_groups, key_of_key}
use Rattle.sql_bind.specs.Checks.{and_meant, columns_checks, group_columns, item_checks, items_checks, key_checks, keys_checks}
use Rattle.sql_bind.specs.Names.{Scoped, BindRefusal, meant, bind_refusal_of, column_or}
use Rattle.sql_bind.specs.declared.bound.BoundColumn.{BoundColumn}
use Rattle.sql_bind.specs.declared.bound.BoundItem.{BoundItem}
use Rattle.sql_bind.specs.declared.items.Grouping.{Grouping}
use Rattle.sql_front.specs.View.{column_tree}
use Rattle.sql_front.specs.declared.tree.Column as code_column
use Rattle.sql_front.specs.declared.tree.Item.{Item}
use Rattle.sql_front.specs.declared.tree.Key.{Key}
use Rattle.grammar_laws.specs.Checks.{Check, first_refusal, check_at_fault}

-- ---- items

pub item_passed : (all : List (Check BindRefusal)) (g : Grouping) (scope : List Scoped) (items : List Item) (i : ℕ) (d : Item) → i < length items
    → first_refusal all ≡ first_refusal (items_checks g scope (drop i items)) → first_refusal (item_checks g scope (get_or items i d)) ≡ None
    → first_refusal all ≡ first_refusal (items_checks g scope (drop (i + 1) items))
item_passed all g scope items i d low left none =
    left ∙ at_drop_more (λ is. first_refusal (items_checks g scope is)) items i d low
    ∙ passed (item_checks g scope (get_or items i d)) (items_checks g scope (drop (i + 1) items)) none

pub item_refused : (all : List (Check BindRefusal)) (g : Grouping) (scope : List Scoped) (items : List Item) (i : ℕ) (d : Item) (told : Option BindRefusal) → i < length items
    → first_refusal all ≡ first_refusal (items_checks g scope (drop i items))
    → first_refusal (item_checks g scope (get_or items i d)) ≡ check_at_fault (first_refusal (item_checks g scope (get_or items i d))) told
    → first_refusal all ≡ check_at_fault (first_refusal all) told
item_refused all g scope items i d told low left same =
    fault_before (first_refusal all) (item_checks g scope (get_or items i d)) (items_checks g scope (drop (i + 1) items)) told
    (left ∙ at_drop_more (λ is. first_refusal (items_checks g scope is)) items i d low) same

-- ---- keys

pub key_refused : (scope : List Scoped) (items : List BoundItem) (keys : List Key) (i : ℕ) (d : Key) (told : Option BindRefusal) → i < length keys
    → first_refusal (keys_checks scope items keys) ≡ first_refusal (keys_checks scope items (drop i keys))
    → first_refusal (key_checks scope items (key_of_key (get_or keys i d))) ≡ check_at_fault (first_refusal (key_checks scope items (key_of_key (get_or keys i d)))) told
    → first_refusal (keys_checks scope items keys) ≡ check_at_fault (first_refusal (keys_checks scope items keys)) told
key_refused scope items keys i d told low left same =
    fault_before (first_refusal (keys_checks scope items keys)) (key_checks scope items (key_of_key (get_or keys i d))) (keys_checks scope items (drop (i + 1) keys)) told
    (left ∙ at_drop_more (λ ks. first_refusal (keys_checks scope items ks)) keys i d low) same

-- ---- GROUP BY

meant_first : (meaning : Result BoundColumn BindRefusal) (checks : List (Check BindRefusal)) (others bound : List BoundColumn) → first_refusal (bind_refusal_of meaning ∷ checks) ≡ None
    → (first_refusal checks ≡ None → others ≡ bound) → and_meant meaning others ≡ column_or meaning ∷ bound
meant_first (Ok column) checks others bound passes same = ap (λ columns. column ∷ columns) (same passes)
meant_first (Err refusal) checks others bound passes same = cc

pub all_meant : (scope : List Scoped) (columns : List code_column.Column) → first_refusal (columns_checks scope columns) ≡ None → group_columns scope columns ≡ bound_groups scope columns
all_meant scope [] passes = refl
all_meant scope (c ∷ columns) passes =
    meant_first (meant scope (column_tree c)) (columns_checks scope columns) (group_columns scope columns) (bound_groups scope columns) passes (all_meant scope columns)

pub ruleset items_turn = (item_passed, item_refused)
