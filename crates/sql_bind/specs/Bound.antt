-- What a query is once its names are bound.
use Rattle.std.specs.Prelude.{ℕ, zero, suc, ℤ, pos, neg_ℤ, ◌+◌, ◌-◌, ◌==◌, ◌&&◌, ◌||◌, Bool, true, false, if◌then◌else◌, List, [], ◌∷◌, ◌++◌, length, map, nat_lt, Option, Some, None, option_map}
use Rattle.std.specs.Int.{int_wrap, w128}
use Rattle.qsr_value.specs.declared.schema.Column as table_column
use Rattle.sql_bind.specs.Names.{Scoped, letters, name_of_table, table_of, scoped, scope_behind, scope_of, place_or_first, table_named, bound_column}
use Rattle.sql_bind.specs.declared.bound.BoundColumn.{BoundColumn}
use Rattle.sql_bind.specs.declared.bound.BoundItem.{BoundItem}
use Rattle.sql_bind.specs.declared.bound.BoundItem.TheVariants as bound_item
use Rattle.sql_bind.specs.declared.bound.BoundKey.{BoundKey}
use Rattle.sql_bind.specs.declared.bound.JoinedBy.{JoinedBy}
use Rattle.sql_bind.specs.declared.bound.JoinedBy.TheVariants as by
use Rattle.sql_bind.specs.declared.bound.Operand.{Operand}
use Rattle.sql_bind.specs.declared.bound.Operand.TheVariants as operand
use Rattle.sql_bind.specs.declared.bound.PlanOptions.{PlanOptions}
use Rattle.sql_bind.specs.declared.names.NamedTable.{NamedTable}
use Rattle.sql_front.specs.Tree.{CondTree, ConjTree, UnitTree, Side, named, positive, negative, quoted, negation, group, compare, one_unit, and_unit, one_conj, or_conj}
use Rattle.sql_front.specs.View.{column_tree, cond_tree}
use Rattle.sql_front.specs.declared.tree.Column as code_column
use Rattle.sql_front.specs.declared.tree.Item.{Item}
use Rattle.sql_front.specs.declared.tree.Item.TheVariants as item
use Rattle.sql_front.specs.declared.tree.Join.{Join}
use Rattle.sql_front.specs.declared.tree.Join.TheVariants as join
use Rattle.sql_front.specs.declared.tree.Key.{Key}
use Rattle.sql_front.specs.declared.tree.Key.TheVariants as key
use Rattle.sql_front.specs.declared.tree.KeyOf.{KeyOf}
use Rattle.sql_front.specs.declared.tree.KeyOf.TheVariants as key_of
use Rattle.sql_front.specs.declared.tree.More.{More}
use Rattle.sql_front.specs.declared.tree.More.TheVariants as more
use Rattle.sql_front.specs.declared.tree.Query as code_query
use Rattle.sql_front.specs.declared.tree.QueryOption.{QueryOption}
use Rattle.sql_front.specs.declared.tree.QueryOption.TheVariants as option
use Rattle.sql_front.specs.declared.tree.Select as code_select
use Rattle.sql_front.specs.declared.tree.Selection.{Selection}
use Rattle.sql_front.specs.declared.tree.Selection.TheVariants as selection
use Rattle.sql_front.specs.declared.tree.Table.{Table}
use Rattle.sql_front.specs.declared.words.Comparison.{Comparison}
use Rattle.sql_front.specs.declared.words.Setting.{Setting}
use Rattle.sql_front.specs.declared.words.Setting.TheVariants as setting

-- ---- conditions

mutual
  -- a condition over columns that are bound
  pub data Condition : Type 0 where
    compared : Operand → Comparison → Operand → Condition
    opposite : Condition → Condition
    all_of : Conditions → Condition
    any_of : Conditions → Condition

  -- conditions in order
  pub data Conditions : Type 0 where
    none : Conditions
    and_then : Conditions → Condition → Conditions

-- so many NOTs before a condition
abbrev pub opposites : ℕ → Condition → Condition
opposites zero c = c
opposites (suc count) c = opposite (opposites count c)

-- the number that a literal is, with a `-` before it or without, in 128 signed bits
abbrev pub signed_number : Bool → ℕ → ℤ
signed_number false n = int_wrap w128 (pos n)
signed_number true n = int_wrap w128 (neg_ℤ (pos n))

abbrev pub operand_of : List Scoped → Side → Operand
operand_of scope (named c) = operand.Column (bound_column scope c)
operand_of scope (positive n) = operand.Number (signed_number false n.value)
operand_of scope (negative at n) = operand.Number (signed_number true n.value)
operand_of scope (quoted bytes) = operand.Text bytes

unfoldable mutual
  pub bound_unit : List Scoped → UnitTree → Condition
  bound_unit scope (negation u) = opposite (bound_unit scope u)
  bound_unit scope (group c) = bound_cond scope c
  bound_unit scope (compare l op at r) = compared (operand_of scope l) op (operand_of scope r)

  -- what AND joins: one unit alone stands for itself
  pub bound_conj : List Scoped → ConjTree → Condition
  bound_conj scope (one_unit u) = bound_unit scope u
  bound_conj scope (and_unit j u) = all_of (and_then (bound_units scope j) (bound_unit scope u))

  pub bound_units : List Scoped → ConjTree → Conditions
  bound_units scope (one_unit u) = and_then none (bound_unit scope u)
  bound_units scope (and_unit j u) = and_then (bound_units scope j) (bound_unit scope u)

  -- what OR joins
  pub bound_cond : List Scoped → CondTree → Condition
  bound_cond scope (one_conj j) = bound_conj scope j
  bound_cond scope (or_conj c j) = any_of (and_then (bound_conjs scope c) (bound_conj scope j))

  pub bound_conjs : List Scoped → CondTree → Conditions
  bound_conjs scope (one_conj j) = and_then none (bound_conj scope j)
  bound_conjs scope (or_conj c j) = and_then (bound_conjs scope c) (bound_conj scope j)

-- The conjuncts of a condition, behind others: it is split at its outermost ANDs. Parentheses around them don't count.
unfoldable mutual
  pub and_conjuncts : List Scoped → Conditions → CondTree → Conditions
  and_conjuncts scope before (one_conj j) = and_units scope before j
  and_conjuncts scope before (or_conj c j) = and_then before (bound_cond scope (or_conj c j))

  pub and_units : List Scoped → Conditions → ConjTree → Conditions
  and_units scope before (one_unit u) = and_parts scope before u
  and_units scope before (and_unit j u) = and_parts scope (and_units scope before j) u

  pub and_parts : List Scoped → Conditions → UnitTree → Conditions
  and_parts scope before (group c) = and_conjuncts scope before c
  and_parts scope before (negation u) = and_then before (bound_unit scope (negation u))
  and_parts scope before (compare l op at r) = and_then before (bound_unit scope (compare l op at r))

-- ---- FROM

-- a table of FROM: its place among the tables that there are, how it joins those before it, and the conjuncts of its ON
pub record BoundTable : Type 0 where
  pub table : ℕ
  pub joined : JoinedBy
  pub conditions : Conditions

abbrev pub joined_by : Join → JoinedBy
joined_by join.Inner = by.Product
joined_by (join.Semi left at) = by.Semi
joined_by (join.Anti left at) = by.Anti

-- how a further table joins those before it
abbrev pub how_of : More → JoinedBy
how_of (more.Comma t) = by.Product
how_of (more.Join j t c) = joined_by j

-- the conjuncts of its ON, where these are in scope before it and it is this
abbrev pub on_of : List Scoped → Scoped → More → Conditions
on_of scope s (more.Comma t) = none
on_of scope s (more.Join j t c) = and_conjuncts (scope ++ s ∷ []) none (cond_tree c)

abbrev pub place_of_table : List NamedTable → Table → ℕ
place_of_table names t = place_or_first (table_named names (letters (name_of_table t)))

abbrev pub first_table : List NamedTable → Table → BoundTable
first_table names t = record { table = place_of_table names t; joined = by.Product; conditions = none }

abbrev pub bound_table : List NamedTable → List Scoped → Scoped → More → BoundTable
bound_table names scope s m = record { table = place_of_table names (table_of m); joined = how_of m; conditions = on_of scope s m }

abbrev pub bound_tables : List NamedTable → ℕ → List Scoped → List More → List BoundTable
bound_tables names place scope [] = []
bound_tables names place scope (m ∷ ms) =
    let s = scoped names place (table_of m) in
    bound_table names scope s m ∷ bound_tables names (place + 1) (scope_behind m scope s) ms

abbrev pub bound_from : List NamedTable → code_select.Select → List BoundTable
bound_from names s = first_table names s.table ∷ bound_tables names 1 (scoped names 0 s.table ∷ []) s.more

-- ---- items

-- the columns of a table, the first of them being at this place
abbrev pub columns_from : ℕ → ℕ → List table_column.Column → List BoundItem
columns_from table place [] = []
columns_from table place (c ∷ cs) = bound_item.Column (record { table = table; place = place; kind = c.kind }) ∷ columns_from table (place + 1) cs

-- `*`: all columns of the tables in scope
abbrev pub every_column : List Scoped → List BoundItem
every_column [] = []
every_column (s ∷ scope) = columns_from s.place 0 s.columns ++ every_column scope

abbrev pub bound_one : List Scoped → Item → BoundItem
bound_one scope (item.Column c) = bound_item.Column (bound_column scope (column_tree c))
bound_one scope (item.Count at) = bound_item.Count
bound_one scope (item.Fold f at c) = bound_item.Fold f (bound_column scope (column_tree c))

abbrev pub bound_items : List Scoped → Selection → List BoundItem
bound_items scope (selection.Star at) = every_column scope
bound_items scope (selection.Items i is) = bound_one scope i ∷ map (bound_one scope) is

abbrev pub bound_groups : List Scoped → List code_column.Column → List BoundColumn
bound_groups scope cs = map (λ c. bound_column scope (column_tree c)) cs

-- ---- a select

pub record BoundSelect : Type 0 where
  pub distinct : Bool
  pub tables : List BoundTable
  pub conditions : Conditions
  pub items : List BoundItem
  pub group_by : List BoundColumn

abbrev pub where_of : List Scoped → Option CondTree → Conditions
where_of scope None = none
where_of scope (Some c) = and_conjuncts scope none c

-- over these tables, with these in scope
abbrev pub select_over : List Scoped → List BoundTable → code_select.Select → BoundSelect
select_over scope tables s = record {
  distinct = s.distinct;
  tables = tables;
  conditions = where_of scope (option_map cond_tree s.condition);
  items = bound_items scope s.items;
  group_by = bound_groups scope s.group_by;
}

abbrev pub bound_select : List NamedTable → code_select.Select → BoundSelect
bound_select names s = select_over (scope_of names s) (bound_from names s) s

-- ---- ORDER BY

abbrev pub same_column : BoundColumn → BoundColumn → Bool
same_column a b = (a.table == b.table) && (a.place == b.place)

abbrev pub is_column : BoundColumn → BoundItem → Bool
is_column c (bound_item.Column d) = same_column c d
is_column c bound_item.Count = false
is_column c (bound_item.Fold f d) = false

-- the place of the first item that is this column, the first of them being at this place
abbrev pub item_from : ℕ → BoundColumn → List BoundItem → Option ℕ
item_from place c [] = None
item_from place c (i ∷ is) = if is_column c i then Some place else item_from (place + 1) c is

abbrev pub key_of_key : Key → KeyOf
key_of_key (key.Unsaid k) = k
key_of_key (key.Ascending k) = k
key_of_key (key.Descending k) = k

abbrev pub descends : Key → Bool
descends (key.Descending k) = true
descends (key.Ascending k) = false
descends (key.Unsaid k) = false

-- the item that a key is, by its place among the items from 0; none where it is no item
abbrev pub item_of_key : List Scoped → List BoundItem → KeyOf → Option ℕ
item_of_key scope is (key_of.Column c) = item_from 0 (bound_column scope (column_tree c)) is
item_of_key scope is (key_of.Number n) = if (n.value == 0) || nat_lt (length is) n.value then None else Some (n.value - 1)

abbrev pub or_first : Option ℕ → ℕ
or_first None = 0
or_first (Some place) = place

abbrev pub bound_key : List Scoped → List BoundItem → Key → BoundKey
bound_key scope is k = record { item = or_first (item_of_key scope is (key_of_key k)); descending = descends k }

-- ---- options

abbrev pub default_options : PlanOptions
default_options = record { block = 100; parts = 4; sort = 4096; method = None }

abbrev pub with_size : Setting → ℕ → PlanOptions → PlanOptions
with_size setting.Block n o = record { block = n; parts = o.parts; sort = o.sort; method = o.method }
with_size setting.Parts n o = record { block = o.block; parts = n; sort = o.sort; method = o.method }
with_size setting.Sort n o = record { block = o.block; parts = o.parts; sort = n; method = o.method }

abbrev pub with_option : PlanOptions → QueryOption → PlanOptions
with_option o (option.Set s at n) = with_size s n.value o
with_option o (option.Use at m place) = record { block = o.block; parts = o.parts; sort = o.sort; method = Some m }

-- of repeated options the last counts
abbrev pub with_options : PlanOptions → List QueryOption → PlanOptions
with_options o [] = o
with_options o (p ∷ ps) = with_options (with_option o p) ps

-- ---- a query

pub record Bound : Type 0 where
  pub first : BoundSelect
  pub others : List BoundSelect
  pub order_by : List BoundKey
  pub limit : Option ℕ
  pub options : PlanOptions

-- the keys are items of the first select, bound over its tables
abbrev pub bound_query : List NamedTable → code_query.Query → Bound
bound_query names q = record {
  first = bound_select names q.first;
  others = map (λ u. bound_select names u.select) q.more;
  order_by = map (bound_key (scope_of names q.first) (bound_items (scope_of names q.first) q.first.items)) q.order_by;
  limit = option_map (λ n. n.value) q.limit;
  options = with_options default_options q.options;
}
