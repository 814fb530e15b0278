-- The grammar's trees of the values that the parser makes: lists are nested to the left, and what a query leaves out wraps
-- nothing.
use Rattle.std.specs.Prelude.{ℕ, zero, suc, Bool, true, false, List, [], ◌∷◌, Option, Some, None}
use Rattle.sql_front.specs.Seen.{letters_of}
use Rattle.sql_front.specs.Tree as tree
use Rattle.sql_front.specs.declared.tree.NameAt as code_name
use Rattle.sql_front.specs.declared.tree.NumberAt as code_number
use Rattle.sql_front.specs.declared.tree.Column.{Column}
use Rattle.sql_front.specs.declared.tree.Column.TheVariants as column
use Rattle.sql_front.specs.declared.tree.Side.{Side}
use Rattle.sql_front.specs.declared.tree.Side.TheVariants as side
use Rattle.sql_front.specs.declared.tree.Predicate.{Predicate}
use Rattle.sql_front.specs.declared.tree.Joined.{Joined}
use Rattle.sql_front.specs.declared.tree.Cond.{Cond}
use Rattle.sql_front.specs.declared.tree.Cond.TheBlock.{Row_of-Joined, end_of-Joined, more_of-Joined, Group', Compare, And, Or, Units', more_of-Cond, end_of-Cond}
use Rattle.sql_front.specs.declared.tree.Item.{Item}
use Rattle.sql_front.specs.declared.tree.Item.TheVariants as item
use Rattle.sql_front.specs.declared.tree.Selection.{Selection}
use Rattle.sql_front.specs.declared.tree.Selection.TheVariants as selection
use Rattle.sql_front.specs.declared.tree.Table.{Table}
use Rattle.sql_front.specs.declared.tree.Table.TheVariants as table
use Rattle.sql_front.specs.declared.tree.Join.{Join}
use Rattle.sql_front.specs.declared.tree.Join.TheVariants as join
use Rattle.sql_front.specs.declared.tree.More.{More}
use Rattle.sql_front.specs.declared.tree.More.TheVariants as more
use Rattle.sql_front.specs.declared.tree.Select as code_select
use Rattle.sql_front.specs.declared.tree.UnionAll.{UnionAll}
use Rattle.sql_front.specs.declared.tree.KeyOf.{KeyOf}
use Rattle.sql_front.specs.declared.tree.KeyOf.TheVariants as key_of
use Rattle.sql_front.specs.declared.tree.Key.{Key}
use Rattle.sql_front.specs.declared.tree.Key.TheVariants as key
use Rattle.sql_front.specs.declared.tree.QueryOption.{QueryOption}
use Rattle.sql_front.specs.declared.tree.QueryOption.TheVariants as option
use Rattle.sql_front.specs.declared.tree.Query as code_query

abbrev pub name_tree : code_name.NameAt → tree.NameAt
name_tree n = record { letters = letters_of n.name; at = n.at }

abbrev pub number_tree : code_number.NumberAt → tree.NumberAt
number_tree n = record { value = n.value; at = n.at }

abbrev pub column_tree : Column → tree.Column
column_tree (column.Plain n) = tree.plain (name_tree n)
column_tree (column.Dotted t n) = tree.dotted (name_tree t) (name_tree n)

abbrev pub side_tree : Side → tree.Side
side_tree (side.Column c) = tree.named (column_tree c)
side_tree (side.Number n) = tree.positive (number_tree n)
side_tree (side.Negative at n) = tree.negative at (number_tree n)
side_tree (side.Text bytes) = tree.quoted bytes

-- ---- conditions

-- a unit behind so many NOTs
abbrev pub negations : ℕ → tree.UnitTree → tree.UnitTree
negations zero u = u
negations (suc n) u = tree.negation (negations n u)

abbrev pub one_cond : tree.UnitTree → tree.CondTree
one_cond u = tree.one_conj (tree.one_unit u)

-- a unit that AND joins to the last conjunction
abbrev pub and_last : tree.CondTree → tree.UnitTree → tree.CondTree
and_last (tree.one_conj j) u = tree.one_conj (tree.and_unit j u)
and_last (tree.or_conj c j) u = tree.or_conj c (tree.and_unit j u)

-- a unit that begins a conjunction behind OR
abbrev pub or_last : tree.CondTree → tree.UnitTree → tree.CondTree
or_last c u = tree.or_conj c (tree.one_unit u)

unfoldable mutual
  pub predicate_tree : Predicate → tree.UnitTree
  predicate_tree (Group' n s (more_of-Cond c end_of-Cond)) = negations n (tree.group (cond_tree c))
  predicate_tree (Compare n l op at r) = negations n (tree.compare (side_tree l) op at (side_tree r))

  pub cond_tree : Cond → tree.CondTree
  cond_tree (Units' u s row) = row_tree (one_cond (predicate_tree u)) row

  pub row_tree : {n : _} → tree.CondTree → Row_of-Joined n → tree.CondTree
  row_tree before end_of-Joined = before
  row_tree before (more_of-Joined j rest) = row_tree (next_unit before j) rest

  -- a further unit, behind those that stand before it
  pub next_unit : tree.CondTree → Joined → tree.CondTree
  next_unit before (And u) = and_last before (predicate_tree u)
  next_unit before (Or u) = or_last before (predicate_tree u)

-- further units, behind those that stand before them
abbrev pub more_joined : tree.CondTree → List Joined → tree.CondTree
more_joined before [] = before
more_joined before (j ∷ rest) = more_joined (next_unit before j) rest

abbrev pub item_tree : Item → tree.Item
item_tree (item.Column c) = tree.bare_item (column_tree c)
item_tree (item.Count at) = tree.count_item at
item_tree (item.Fold f at c) = tree.fold_item f at (column_tree c)

abbrev pub table_tree : Table → tree.FromTable
table_tree (table.Bare n) = tree.bare (name_tree n)
table_tree (table.Renamed n m) = tree.renamed (name_tree n) (name_tree m)
table_tree (table.RenamedAs n m) = tree.renamed_as (name_tree n) (name_tree m)

abbrev pub join_tree : Join → tree.Join
join_tree join.Inner = tree.inner
join_tree (join.Semi left at) = tree.semi left at
join_tree (join.Anti left at) = tree.anti left at

-- ---- a select

-- items, behind those that stand before them
abbrev pub more_items : tree.ItemList → List Item → tree.ItemList
more_items before [] = before
more_items before (i ∷ rest) = more_items (tree.next_item before (item_tree i)) rest

abbrev pub selection_tree : tree.Select → Selection → tree.Items
selection_tree s (selection.Star at) = tree.every_column s at
selection_tree s (selection.Items i rest) = tree.listed (more_items (tree.first_item s (item_tree i)) rest)

abbrev pub next_table : tree.From → More → tree.From
next_table before (more.Comma t) = tree.table (tree.comma before) (table_tree t)
next_table before (more.Join j t c) = tree.joined before (join_tree j) (table_tree t) (cond_tree c)

abbrev pub more_tables : tree.From → List More → tree.From
more_tables before [] = before
more_tables before (m ∷ rest) = more_tables (next_table before m) rest

abbrev pub where_tree : tree.From → Option Cond → tree.Where
where_tree f None = tree.no_where f
where_tree f (Some c) = tree.some_where f (cond_tree c)

abbrev pub more_columns : tree.Columns → List Column → tree.Columns
more_columns before [] = before
more_columns before (c ∷ rest) = more_columns (tree.next_column before (column_tree c)) rest

abbrev pub group_tree : tree.Where → List Column → tree.Group
group_tree h [] = tree.no_group h
group_tree h (c ∷ rest) = tree.group_by (more_columns (tree.first_column h (column_tree c)) rest)

abbrev pub head_tree : tree.Start → Bool → ℕ → tree.Select
head_tree start false at = tree.all_rows start at
head_tree start true at = tree.distinct start at

abbrev pub items_tree : tree.Start → code_select.Select → tree.Items
items_tree start s = selection_tree (head_tree start s.distinct s.at) s.items

abbrev pub from_tree : tree.Items → Table → List More → tree.From
from_tree i t more = more_tables (tree.table (tree.from i) (table_tree t)) more

-- a select, and what stands before it
abbrev pub select_tree : tree.Start → code_select.Select → tree.Group
select_tree start s = group_tree (where_tree (from_tree (items_tree start s) s.table s.more) s.condition) s.group_by

-- ---- a query

abbrev pub more_selects : tree.Group → List UnionAll → tree.Group
more_selects before [] = before
more_selects before (u ∷ rest) = more_selects (select_tree (tree.union_all before u.union u.all) u.select) rest

abbrev pub key_of_tree : KeyOf → tree.KeyOf
key_of_tree (key_of.Column c) = tree.by_column (column_tree c)
key_of_tree (key_of.Number n) = tree.by_number (number_tree n)

abbrev pub key_tree : Key → tree.Key
key_tree (key.Unsaid y) = tree.unsaid (key_of_tree y)
key_tree (key.Ascending y) = tree.ascending (key_of_tree y)
key_tree (key.Descending y) = tree.descending (key_of_tree y)

abbrev pub more_keys : tree.Keys → List Key → tree.Keys
more_keys before [] = before
more_keys before (y ∷ rest) = more_keys (tree.next_key before (key_tree y)) rest

abbrev pub order_tree : tree.Group → List Key → tree.Order
order_tree g [] = tree.no_order g
order_tree g (y ∷ rest) = tree.order_by (more_keys (tree.first_key g (key_tree y)) rest)

abbrev pub limit_tree : tree.Order → Option code_number.NumberAt → tree.Limited
limit_tree o None = tree.no_limit o
limit_tree o (Some n) = tree.limit o (number_tree n)

abbrev pub opt_tree : QueryOption → tree.Opt
opt_tree (option.Set setting at n) = tree.sized setting at (number_tree n)
opt_tree (option.Use at method place) = tree.used at method place

abbrev pub more_options : tree.Options → List QueryOption → tree.Options
more_options before [] = before
more_options before (o ∷ rest) = more_options (tree.next_option before (opt_tree o)) rest

abbrev pub options_tree : tree.Limited → List QueryOption → tree.Optioned
options_tree l [] = tree.no_options l
options_tree l (o ∷ rest) = tree.options (more_options (tree.first_option l (opt_tree o)) rest)

abbrev pub end_tree : tree.Optioned → Bool → tree.Query
end_tree p false = tree.bare_query p
end_tree p true = tree.ended_query p

abbrev pub query_tree : code_query.Query → tree.Query
query_tree q = end_tree (options_tree (limit_tree (order_tree (more_selects (select_tree tree.at_first q.first) q.more) q.order_by) q.limit) q.options) q.semicolon
