-- What a query is refused for: a list of checks in the order in which they are asked, each a refusal or none. A check says what it
-- asks of the whole query, whatever the others say.
use Rattle.std.specs.Prelude.{ℕ, ◌+◌, ◌&&◌, ◌||◌, Bool, true, false, not, if◌then◌else◌, List, [], ◌∷◌, ◌++◌, Option, Some, None, option_map, Result, Ok, Err}
use Rattle.qsr_value.specs.declared.kind.ColKind.{ColKind}
use Rattle.qsr_value.specs.declared.kind.ColKind.TheVariants as kind
use Rattle.sql_bind.specs.Bound.{operand_of, same_column, bound_items, item_of_key, key_of_key}
use Rattle.qsr_value.specs.Names.{is_among}
use Rattle.sql_bind.specs.Names.{Scoped, BindRefusal, NoTable, Ambiguous, TypeClash, NeedsGroup, NotSelected, UnionClash, letters, name_of_table, known_by, known, table_of, table_named, scoped, scope_behind, scope_of, meant, bind_refusal_of, bound_column, place_in_text}
use Rattle.sql_bind.specs.declared.bound.BoundColumn.{BoundColumn}
use Rattle.sql_bind.specs.declared.bound.BoundItem.{BoundItem}
use Rattle.sql_bind.specs.declared.bound.BoundItem.TheVariants as bound_item
use Rattle.sql_bind.specs.declared.bound.Operand.{Operand}
use Rattle.sql_bind.specs.declared.bound.Operand.TheVariants as operand
use Rattle.sql_bind.specs.declared.fault.BindFault.{BindFault}
use Rattle.sql_bind.specs.declared.fault.BindFault.TheVariants as fault
use Rattle.sql_bind.specs.declared.items.Grouping.{Grouping}
use Rattle.sql_bind.specs.declared.names.NamedTable.{NamedTable}
use Rattle.sql_tokens.specs.Words.{letters_of}
use Rattle.sql_front.specs.Tree.{CondTree, ConjTree, UnitTree, Side, named, positive, negative, quoted, negation, group, compare, one_unit, and_unit, one_conj, or_conj, Column}
use Rattle.sql_front.specs.View.{column_tree, cond_tree}
use Rattle.sql_front.specs.declared.tree.Column as code_column
use Rattle.sql_front.specs.declared.tree.Item.{Item}
use Rattle.sql_front.specs.declared.tree.Item.TheVariants as item
use Rattle.sql_front.specs.declared.tree.Key.{Key}
use Rattle.sql_front.specs.declared.tree.KeyOf.{KeyOf}
use Rattle.sql_front.specs.declared.tree.KeyOf.TheVariants as key_of
use Rattle.sql_front.specs.declared.tree.More.{More}
use Rattle.sql_front.specs.declared.tree.More.TheVariants as more
use Rattle.sql_front.specs.declared.tree.Query as code_query
use Rattle.sql_front.specs.declared.tree.Select as code_select
use Rattle.sql_front.specs.declared.tree.Selection.{Selection}
use Rattle.sql_front.specs.declared.tree.Selection.TheVariants as selection
use Rattle.sql_front.specs.declared.tree.Table.{Table}
use Rattle.sql_front.specs.declared.tree.UnionAll.{UnionAll}
use Rattle.sql_front.specs.declared.words.Aggregate.{Aggregate}
use Rattle.sql_front.specs.declared.words.Aggregate.TheVariants as aggregate
use Rattle.grammar_laws.specs.Checks.{Check}

-- the refusal that a fault bind_tells of; want of memory bind_tells of none
abbrev pub bind_tells : BindFault → Option BindRefusal
bind_tells (fault.NoTable name at) = Some (NoTable (letters_of name) at)
bind_tells (fault.NoColumn name at) = Some (Rattle.sql_bind.specs.Names.NoColumn (letters_of name) at)
bind_tells (fault.Ambiguous name at) = Some (Ambiguous (letters_of name) at)
bind_tells (fault.TypeClash at) = Some (TypeClash at)
bind_tells (fault.NeedsGroup at) = Some (NeedsGroup at)
bind_tells (fault.NotSelected at) = Some (NotSelected at)
bind_tells (fault.UnionClash at) = Some (UnionClash at)
bind_tells fault.Memory = None

-- a check that this refusal is made where something is so
abbrev pub refuse_if : Bool → BindRefusal → Check BindRefusal
refuse_if true r = Some r
refuse_if false r = None

-- ---- the tables of FROM

abbrev pub is_none : {X : Type 0} → Option X → Bool
is_none None = true
is_none (Some x) = false

-- a table that there is, and known by no name of those before it
abbrev pub table_checks : List NamedTable → List (List ℕ) → Table → List (Check BindRefusal)
table_checks names before t =
    refuse_if (is_none (table_named names (letters (name_of_table t)))) (NoTable (letters (name_of_table t)) (name_of_table t).at)
    ∷ refuse_if (is_among (known t) before) (Ambiguous (known t) (known_by t).at) ∷ []

abbrev pub tables_checks : List NamedTable → List (List ℕ) → List More → List (Check BindRefusal)
tables_checks names before [] = []
tables_checks names before (m ∷ ms) = table_checks names before (table_of m) ++ tables_checks names (before ++ known (table_of m) ∷ []) ms

-- ---- conditions

abbrev pub column_check : List Scoped → Column → Check BindRefusal
column_check scope c = bind_refusal_of (meant scope c)

abbrev pub side_checks : List Scoped → Side → List (Check BindRefusal)
side_checks scope (named c) = column_check scope c ∷ []
side_checks scope (positive n) = []
side_checks scope (negative at n) = []
side_checks scope (quoted bytes) = []

abbrev pub is_text : ColKind → Bool
is_text (kind.Text most) = true
is_text kind.Int = false
is_text kind.Wide = false

abbrev pub is_text_operand : Operand → Bool
is_text_operand (operand.Column c) = is_text c.kind
is_text_operand (operand.Number n) = false
is_text_operand (operand.Text bytes) = true

abbrev pub differ : Bool → Bool → Bool
differ true b = not b
differ false b = b

unfoldable mutual
  pub unit_checks : List Scoped → UnitTree → List (Check BindRefusal)
  unit_checks scope (negation u) = unit_checks scope u
  unit_checks scope (group c) = cond_checks scope c
  unit_checks scope (compare l op at r) =
      side_checks scope l ++ side_checks scope r ++ refuse_if (differ (is_text_operand (operand_of scope l)) (is_text_operand (operand_of scope r))) (TypeClash at) ∷ []

  pub conj_checks : List Scoped → ConjTree → List (Check BindRefusal)
  conj_checks scope (one_unit u) = unit_checks scope u
  conj_checks scope (and_unit j u) = conj_checks scope j ++ unit_checks scope u

  pub cond_checks : List Scoped → CondTree → List (Check BindRefusal)
  cond_checks scope (one_conj j) = conj_checks scope j
  cond_checks scope (or_conj c j) = cond_checks scope c ++ conj_checks scope j

-- the ON of a table, where these are in scope before it and it is this
abbrev pub on_checks : List Scoped → Scoped → More → List (Check BindRefusal)
on_checks scope s (more.Comma t) = []
on_checks scope s (more.Join j t c) = cond_checks (scope ++ s ∷ []) (cond_tree c)

abbrev pub ons_checks : List NamedTable → ℕ → List Scoped → List More → List (Check BindRefusal)
ons_checks names place scope [] = []
ons_checks names place scope (m ∷ ms) =
    let s = scoped names place (table_of m) in
    on_checks scope s m ++ ons_checks names (place + 1) (scope_behind m scope s) ms

abbrev pub where_checks : List Scoped → Option CondTree → List (Check BindRefusal)
where_checks scope None = []
where_checks scope (Some c) = cond_checks scope c

-- ---- the items

abbrev pub is_aggregate : Item → Bool
is_aggregate (item.Column c) = false
is_aggregate (item.Count at) = true
is_aggregate (item.Fold f at c) = true

abbrev pub any_aggregate : List Item → Bool
any_aggregate [] = false
any_aggregate (i ∷ is) = is_aggregate i || any_aggregate is

abbrev pub has_aggregate : Selection → Bool
has_aggregate (selection.Star at) = false
has_aggregate (selection.Items i is) = any_aggregate (i ∷ is)

-- the GROUP BY columns that have a meaning
abbrev pub and_meant : Result BoundColumn BindRefusal → List BoundColumn → List BoundColumn
and_meant (Ok c) others = c ∷ others
and_meant (Err r) others = others

abbrev pub group_columns : List Scoped → List code_column.Column → List BoundColumn
group_columns scope [] = []
group_columns scope (c ∷ cs) = and_meant (meant scope (column_tree c)) (group_columns scope cs)

abbrev pub is_column_among : BoundColumn → List BoundColumn → Bool
is_column_among c [] = false
is_column_among c (d ∷ others) = same_column c d || is_column_among c others

abbrev pub is_empty : List code_column.Column → Bool
is_empty [] = true
is_empty (c ∷ cs) = false

-- how the rows of a select are grouped: whether it has GROUP BY, the columns of it that have a meaning, and whether an item is an
-- aggregate
abbrev pub grouping_of : List Scoped → code_select.Select → Grouping
grouping_of scope s = record { grouped = not (is_empty s.group_by); columns = group_columns scope s.group_by; aggregates = has_aggregate s.items }

-- a plain column has to be a group column, and without GROUP BY it may not stand beside an aggregate
abbrev pub is_ungrouped : Grouping → BoundColumn → Bool
is_ungrouped g c = if g.grouped then not (is_column_among c g.columns) else g.aggregates

abbrev pub clash_of_sum : Aggregate → ColKind → Bool
clash_of_sum aggregate.Sum k = is_text k
clash_of_sum aggregate.Min k = false
clash_of_sum aggregate.Max k = false

abbrev pub item_checks : Grouping → List Scoped → Item → List (Check BindRefusal)
item_checks g scope (item.Column c) =
    column_check scope (column_tree c)
    ∷ refuse_if (is_ungrouped g (bound_column scope (column_tree c))) (NeedsGroup (place_in_text (column_tree c))) ∷ []
item_checks g scope (item.Count at) = []
item_checks g scope (item.Fold f at c) =
    refuse_if (not g.grouped) (NeedsGroup at)
    ∷ column_check scope (column_tree c)
    ∷ refuse_if (clash_of_sum f (bound_column scope (column_tree c)).kind) (TypeClash (place_in_text (column_tree c))) ∷ []

abbrev pub items_checks : Grouping → List Scoped → List Item → List (Check BindRefusal)
items_checks g scope [] = []
items_checks g scope (i ∷ is) = item_checks g scope i ++ items_checks g scope is

-- `*` can't stand where rows are grouped
abbrev pub selection_checks : Grouping → List Scoped → Selection → List (Check BindRefusal)
selection_checks g scope (selection.Star at) = refuse_if g.grouped (NeedsGroup at) ∷ []
selection_checks g scope (selection.Items i is) = items_checks g scope (i ∷ is)

-- ---- GROUP BY

abbrev pub columns_checks : List Scoped → List code_column.Column → List (Check BindRefusal)
columns_checks scope [] = []
columns_checks scope (c ∷ cs) = column_check scope (column_tree c) ∷ columns_checks scope cs

-- ---- a select

abbrev pub from_checks : List NamedTable → code_select.Select → List (Check BindRefusal)
from_checks names s =
    table_checks names [] s.table ++ tables_checks names (known s.table ∷ []) s.more
    ++ ons_checks names 1 (scoped names 0 s.table ∷ []) s.more

abbrev pub scoped_checks : List Scoped → code_select.Select → List (Check BindRefusal)
scoped_checks scope s =
    where_checks scope (option_map cond_tree s.condition)
    ++ selection_checks (grouping_of scope s) scope s.items
    ++ columns_checks scope s.group_by

abbrev pub select_checks : List NamedTable → code_select.Select → List (Check BindRefusal)
select_checks names s = from_checks names s ++ scoped_checks (scope_of names s) s

abbrev pub selects_checks : List NamedTable → List UnionAll → List (Check BindRefusal)
selects_checks names [] = []
selects_checks names (u ∷ us) = select_checks names u.select ++ selects_checks names us

-- ---- UNION ALL

abbrev pub is_text_item : BoundItem → Bool
is_text_item (bound_item.Column c) = is_text c.kind
is_text_item bound_item.Count = false
is_text_item (bound_item.Fold f c) = is_text c.kind

-- as many items, a text where the other has a text and a number where it has a number
abbrev pub are_alike : List BoundItem → List BoundItem → Bool
are_alike [] [] = true
are_alike (i ∷ is) (j ∷ js) = not (differ (is_text_item i) (is_text_item j)) && are_alike is js
are_alike [] (j ∷ js) = false
are_alike (i ∷ is) [] = false

abbrev pub items_of : List NamedTable → code_select.Select → List BoundItem
items_of names s = bound_items (scope_of names s) s.items

abbrev pub union_checks : List NamedTable → List BoundItem → List UnionAll → List (Check BindRefusal)
union_checks names first [] = []
union_checks names first (u ∷ us) = refuse_if (not (are_alike first (items_of names u.select))) (UnionClash u.select.at) ∷ union_checks names first us

-- the same of selects whose items are these
abbrev pub alike_checks : List BoundItem → List (List BoundItem) → List UnionAll → List (Check BindRefusal)
alike_checks first (is ∷ iss) (u ∷ us) = refuse_if (not (are_alike first is)) (UnionClash u.select.at) ∷ alike_checks first iss us
alike_checks first _ _ = []

-- ---- ORDER BY

-- the place of a key in the text
abbrev pub place_of_key : KeyOf → ℕ
place_of_key (key_of.Column c) = place_in_text (column_tree c)
place_of_key (key_of.Number n) = n.at

abbrev pub key_of_checks : List Scoped → KeyOf → List (Check BindRefusal)
key_of_checks scope (key_of.Column c) = column_check scope (column_tree c) ∷ []
key_of_checks scope (key_of.Number n) = []

-- a key has to be an item
abbrev pub key_checks : List Scoped → List BoundItem → KeyOf → List (Check BindRefusal)
key_checks scope is k = key_of_checks scope k ++ refuse_if (is_none (item_of_key scope is k)) (NotSelected (place_of_key k)) ∷ []

abbrev pub keys_checks : List Scoped → List BoundItem → List Key → List (Check BindRefusal)
keys_checks scope is [] = []
keys_checks scope is (k ∷ ks) = key_checks scope is (key_of_key k) ++ keys_checks scope is ks

-- ---- a query

abbrev pub query_checks : List NamedTable → code_query.Query → List (Check BindRefusal)
query_checks names q =
    select_checks names q.first ++ selects_checks names q.more
    ++ union_checks names (items_of names q.first) q.more
    ++ keys_checks (scope_of names q.first) (items_of names q.first) q.order_by
