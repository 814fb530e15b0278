-- Where a run stands in a select behind its items, and how many tables stand there.
use Rattle.std.specs.Prelude.{◌≡◌, ℕ, Bool, false, true, List, [], ◌∷◌, ◌++◌, Option, Some, None}
use Rattle.std.proofs.Common.{refl, sym, ap, ◌∙◌}
use Rattle.sql_front.specs.declared.tree.Column.{Column}
use Rattle.sql_front.specs.declared.tree.Cond.{Cond}
use Rattle.sql_front.specs.declared.tree.Item.{Item}
use Rattle.sql_front.specs.declared.tree.Selection.{Selection}
use Rattle.sql_front.specs.declared.tree.Selection.TheVariants as selection
use Rattle.sql_front.specs.declared.words.Unreserved.{Unreserved}
use Rattle.sql_front.specs.declared.words.Unreserved.TheVariants as u
use Rattle.sql_front.specs.Machine.{GroupK, first_group_k, next_group_k, group_k, want_column, union_word, add_column, follow_columns, more_group, begin_union, free_limit}
use Rattle.sql_front.specs.Reads.{Reading, runs, runs_on, begin_order, word_seen}
use Rattle.sql_front.specs.Seen.{Seen, seen, seen_as}
use Rattle.sql_front.specs.Seen as w
use Rattle.sql_front.specs.Spell.{tables_start, tables_select, tables_list, tables_items, tables_from, tables_where, tables_columns, tables_group}
use Rattle.sql_front.specs.Tree.{Start, ItemList, first_item, next_item, From, Where, Columns, first_column, next_column, Group, group_by}
use Rattle.sql_front.specs.View.{column_tree, item_tree, more_items, selection_tree, head_tree, where_tree, more_columns, group_tree}
use Rattle.sql_front.specs.Words.{unreserved}
use Rattle.sql_front.proofs.ItemLemmas.{same_more}
use Rattle.sql_front.proofs.Passing.{passes_on}
use Rattle.sql_tokens.specs.declared.token.Keyword.TheVariants as kw
use Rattle.sql_tokens.specs.declared.token.Token.{Token}
use Rattle.sql_tokens.specs.declared.token.What.{What}
use Rattle.sql_tokens.specs.declared.token.What.TheVariants as kind

-- what waits for the column behind these
abbrev pub waits : Where → List Column → GroupK
waits h [] = first_group_k h
waits h (c ∷ rest) = next_group_k (more_columns (first_column h (column_tree c)) rest)

pushes : (before : Columns) (columns : List Column) (c : Column) → more_columns before (columns ++ c ∷ []) ≡ next_column (more_columns before columns) (column_tree c)
pushes before [] c = refl
pushes before (first ∷ columns) c = pushes (next_column before (column_tree first)) columns c

-- one column more
grouped : (h : Where) (columns : List Column) (c : Column) → group_by (add_column (waits h columns) (column_tree c)) ≡ group_tree h (columns ++ c ∷ [])
grouped h [] c = refl
grouped h (first ∷ columns) c = ap group_by (sym (pushes (first_column h (column_tree first)) columns c))

waited : (h : Where) (columns : List Column) (c : Column) → next_group_k (add_column (waits h columns) (column_tree c)) ≡ waits h (columns ++ c ∷ [])
waited h [] c = refl
waited h (first ∷ columns) c = ap next_group_k (sym (pushes (first_column h (column_tree first)) columns c))

no_comma : (cs : Columns) (text : List ℕ) (what : What) (at : ℕ) → (what ≡ kind.Comma → ⊥) → follow_columns cs (seen_as text what at) ≡ more_group (group_by cs) (seen_as text what at)
no_comma cs text kind.Comma at none = absurd (none refl)
no_comma cs text (kind.Word kw.Select) at none = refl
no_comma cs text (kind.Word word) at none = refl
no_comma cs text what at none = refl

-- behind the last column
pub last_column : (h : Where) (columns all : List Column) (c : Column) (r : Reading) (token : Token) → all ≡ columns ++ c ∷ [] → token ≡ r.first → (token.what ≡ kind.Comma → ⊥)
    → runs_on (follow_columns (add_column (waits h columns) (column_tree c))) r ≡ runs_on (more_group (group_tree h all)) r
last_column h columns all c r token pushed here none =
    same_more (follow_columns (add_column (waits h columns) (column_tree c))) (more_group (group_by (add_column (waits h columns) (column_tree c)))) r
    (no_comma (add_column (waits h columns) (column_tree c)) r.text r.first.what r.first.at (λ comma. none (ap (λ (t : Token). t.what) here ∙ comma)))
    ∙ ap (λ (g : Group). runs_on (more_group g) r) (grouped h columns c ∙ ap (group_tree h) (sym pushed))

-- past the comma behind a column
pub past_comma : (h : Where) (columns all : List Column) (c : Column) (old new : Reading) (token : Token) → all ≡ columns ++ c ∷ []
    → token ≡ old.first → token.what ≡ kind.Comma → old.rest ≡ new.first ∷ new.rest → new.text ≡ old.text
    → runs_on (follow_columns (add_column (waits h columns) (column_tree c))) old ≡ runs (want_column (group_k (waits h all))) new
past_comma h columns all c old new token pushed here comma rest same =
    passes_on (follow_columns (add_column (waits h columns) (column_tree c))) (want_column (group_k (next_group_k (add_column (waits h columns) (column_tree c))))) kind.Comma old new
    (ap (λ (t : Token). t.what) (sym here) ∙ comma) rest same refl refl
    ∙ ap (λ (k : GroupK). runs (want_column (group_k k)) new) (waited h columns c ∙ ap (waits h) (sym pushed))

-- ---- UNION

no_union : (g : Group) (at : ℕ) (word : Option Unreserved) → (word ≡ Some u.Union → ⊥) → begin_union g at word ≡ None
no_union g at (Some u.Union) other = absurd (other refl)
no_union g at word other = refl

not_union : (g : Group) (t : Seen) → (word_seen t ≡ Some u.Union → ⊥) → more_group g t ≡ begin_order g t
not_union g (w.Word kw.Order) other = refl
not_union g (w.Name x at) other = no_union g at (unreserved x) other
not_union g t other = refl

-- behind the last select
pub last_select : (g : Group) (r : Reading) → (word_seen (seen r.text r.first) ≡ Some u.Union → ⊥) → runs_on (more_group g) r ≡ runs_on (begin_order g) r
last_select g r other = same_more (more_group g) (begin_order g) r (not_union g (seen r.text r.first) other)

takes_union : (g : Group) (text : List ℕ) (what : What) (at : ℕ) → word_seen (seen_as text what at) ≡ Some u.Union
    → (free_limit (seen_as text what at) ≡ true) × (more_group g (seen_as text what at) ≡ Some (union_word g at))
takes_union g text (kind.Name x) at is = (refl, rw is refl)
takes_union g text (kind.Word kw.Select) at is = cc
takes_union g text (kind.Word _) at is = cc
takes_union g text _ at is = cc

-- past UNION
pub union_passed : (g : Group) (old new : Reading) → word_seen (seen old.text old.first) ≡ Some u.Union → old.rest ≡ new.first ∷ new.rest → new.text ≡ old.text
    → runs_on (more_group g) old ≡ runs (union_word g old.first.at) new
union_passed g old new is rest text =
    let taken = takes_union g old.text old.first.what old.first.at is in
    passes_on (more_group g) (union_word g old.first.at) old.first.what old new refl rest text taken.0 taken.1

-- ---- how many tables stand there

list_tables : (before : ItemList) (items : List Item) → tables_list (more_items before items) ≡ tables_list before
list_tables before [] = refl
list_tables before (i ∷ items) = list_tables (next_item before (item_tree i)) items

select_tables : (start : Start) (distinct : Bool) (at : ℕ) → tables_select (head_tree start distinct at) ≡ tables_start start
select_tables start false at = refl
select_tables start true at = refl

-- the items name none
pub items_tables : (start : Start) (distinct : Bool) (at : ℕ) (items : Selection) → tables_items (selection_tree (head_tree start distinct at) items) ≡ tables_start start
items_tables start distinct at (selection.Star place) = select_tables start distinct at
items_tables start distinct at (selection.Items i items) = list_tables (first_item (head_tree start distinct at) (item_tree i)) items ∙ select_tables start distinct at

columns_tables : (before : Columns) (columns : List Column) → tables_columns (more_columns before columns) ≡ tables_columns before
columns_tables before [] = refl
columns_tables before (c ∷ columns) = columns_tables (next_column before (column_tree c)) columns

group_tables : (h : Where) (columns : List Column) → tables_group (group_tree h columns) ≡ tables_where h
group_tables h [] = refl
group_tables h (c ∷ columns) = columns_tables (first_column h (column_tree c)) columns

where_tables : (f : From) (c : Option Cond) → tables_where (where_tree f c) ≡ tables_from f
where_tables f None = refl
where_tables f (Some c) = refl

-- what stands behind the tables names none
pub rest_tables : (f : From) (c : Option Cond) (columns : List Column) → tables_group (group_tree (where_tree f c) columns) ≡ tables_from f
rest_tables f c columns = group_tables (where_tree f c) columns ∙ where_tables f c
