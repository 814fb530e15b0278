-- What a bound query means: the rows that it has on its tables.
--
-- The definitions are those of SQL's SELECT, without NULL and so with a logic of two values. A select takes the rows of FROM, keeps
-- those of which WHERE holds, gathers them in groups by GROUP BY, computes its items of each row or group, and under DISTINCT keeps
-- each row of items once. UNION ALL puts the rows of several selects one behind the other. ORDER BY puts the rows of the whole in
-- order, and LIMIT keeps the first of them. Semi and anti joins are those of relational algebra: they keep a row of the left side
-- that has, or that hasn't, a partner in the table on the right, and no columns of that table.
--
-- SUM and COUNT are whole numbers without a bound, and texts compare by their bytes.
use Rattle.std.specs.Prelude.{◌≡◌, ℕ, suc, ℤ, pos, ◌+ℤ◌, Bool, true, false, not, ◌&&◌, ◌||◌, if◌then◌else◌, List, [], ◌∷◌, ◌++◌, length, map, filter, take, Option, Some, None}
use Rattle.std.specs.List.{flat_map, list_any, slice_index_or}
use Rattle.std.specs.List.Sorted.{IsPermutation, IsSorted}
use Rattle.std.specs.Ordering.{is_lt, ordering_reverse, ordering_then}
use Rattle.std.specs.declared.cmp.Ordering.{Ordering}
use Rattle.std.specs.declared.cmp.Ordering.TheVariants as order
use Rattle.qsr_value.specs.Ordered.{compare_values}
use Rattle.qsr_value.specs.declared.row.Value.{Value}
use Rattle.qsr_value.specs.declared.row.Value.TheVariants as value
use Rattle.sql_bind.specs.Bound.{Bound, BoundSelect, BoundTable, Condition, Conditions, none, and_then, compared, opposite, all_of, any_of, same_column}
use Rattle.sql_bind.specs.declared.bound.BoundColumn.{BoundColumn}
use Rattle.sql_bind.specs.declared.bound.BoundItem.{BoundItem}
use Rattle.sql_bind.specs.declared.bound.BoundItem.TheVariants as item
use Rattle.sql_bind.specs.declared.bound.BoundKey.{BoundKey}
use Rattle.sql_bind.specs.declared.bound.JoinedBy.{JoinedBy}
use Rattle.sql_bind.specs.declared.bound.JoinedBy.TheVariants as by
use Rattle.sql_bind.specs.declared.bound.Operand.{Operand}
use Rattle.sql_bind.specs.declared.bound.Operand.TheVariants as operand
use Rattle.sql_front.specs.declared.words.Aggregate.{Aggregate}
use Rattle.sql_front.specs.declared.words.Aggregate.TheVariants as aggregate
use Rattle.sql_front.specs.declared.words.Comparison.{Comparison}
use Rattle.sql_front.specs.declared.words.Comparison.TheVariants as op
use Rattle.qsr_lists.specs.Lists.{firsts, groups, sorted}
use Rattle.sql_mean.specs.Rows.{Row, same_row}

-- the rows of the tables that there are, in order
abbrev pub Lists : Type 0
Lists = List (List Row)

-- ---- conditions

-- A row of each table of FROM so far, in the order of FROM. For the table of a semi or anti join the empty row stands, so that the
-- tables behind it keep their places: no column of it can be named behind its ON.
abbrev pub Joined : Type 0
Joined = List Row

-- What stands for a value that isn't there, as at a column that no row has. The binder lets no such column through, so that no
-- answer shows it. It is here because a total function needs some value, and 0 is one as good as another.
abbrev pub no_value : Value
no_value = value.Int (pos 0)

abbrev pub value_at : Joined → BoundColumn → Value
value_at env c = slice_index_or (slice_index_or env c.table []) c.place no_value

abbrev pub value_of : Joined → Operand → Value
value_of env (operand.Column c) = value_at env c
value_of env (operand.Number n) = value.Int n
value_of env (operand.Text bytes) = value.Text bytes

abbrev pub says : Comparison → Ordering → Bool
says op.Equal order.Equal = true
says op.Unequal order.Less = true
says op.Unequal order.Greater = true
says op.Less order.Less = true
says op.AtMost order.Less = true
says op.AtMost order.Equal = true
says op.More order.Greater = true
says op.AtLeast order.Greater = true
says op.AtLeast order.Equal = true
says _ _ = false

abbrev mutual
  pub holds : Joined → Condition → Bool
  holds env (compared l how r) = says how (compare_values (value_of env l) (value_of env r))
  holds env (opposite c) = not (holds env c)
  holds env (all_of cs) = all_hold env cs
  holds env (any_of cs) = any_holds env cs

  pub all_hold : Joined → Conditions → Bool
  all_hold env none = true
  all_hold env (and_then cs c) = all_hold env cs && holds env c

  pub any_holds : Joined → Conditions → Bool
  any_holds env none = false
  any_holds env (and_then cs c) = any_holds env cs || holds env c

-- ---- FROM and WHERE

-- These with a row of one table more, under the conditions of its ON: beside each of its rows; or themselves, where some row of it
-- meets the conditions, or none does.
abbrev pub joined_with : JoinedBy → List Row → Conditions → List Joined → List Joined
joined_with by.Product rows on envs = filter (λ env. all_hold env on) (flat_map (λ env. map (λ r. env ++ r ∷ []) rows) envs)
joined_with by.Semi rows on envs = map (λ env. env ++ [] ∷ []) (filter (λ env. list_any (λ r. all_hold (env ++ r ∷ []) on) rows) envs)
joined_with by.Anti rows on envs = map (λ env. env ++ [] ∷ []) (filter (λ env. not (list_any (λ r. all_hold (env ++ r ∷ []) on) rows)) envs)

abbrev pub rows_at : Lists → ℕ → List Row
rows_at tables number = slice_index_or tables number []

abbrev pub joined_all : Lists → List BoundTable → List Joined → List Joined
joined_all tables [] envs = envs
joined_all tables (t ∷ ts) envs = joined_all tables ts (joined_with t.joined (rows_at tables t.table) t.conditions envs)

-- what FROM and WHERE leave
abbrev pub matches : Lists → BoundSelect → List Joined
matches tables s = filter (λ env. all_hold env s.conditions) (joined_all tables s.tables ([] ∷ []))

-- ---- the items

abbrev pub place_among : BoundColumn → List BoundColumn → ℕ
place_among c [] = 0
place_among c (d ∷ ds) = if same_column c d then 0 else suc (place_among c ds)

abbrev pub value_number : Value → ℤ
value_number (value.Int n) = n
value_number (value.Text bytes) = pos 0

abbrev pub sum_of : List Value → ℤ
sum_of [] = pos 0
sum_of (v ∷ vs) = value_number v +ℤ sum_of vs

-- the first of the least values, and of the greatest
abbrev pub lesser : Value → Value → Ordering → Value
lesser a b order.Greater = b
lesser a b _ = a

abbrev pub greater : Value → Value → Ordering → Value
greater a b order.Less = b
greater a b _ = a

abbrev pub least_of : Value → List Value → Value
least_of v [] = v
least_of v (w ∷ ws) = least_of (lesser v w (compare_values v w)) ws

abbrev pub greatest_of : Value → List Value → Value
greatest_of v [] = v
greatest_of v (w ∷ ws) = greatest_of (greater v w (compare_values v w)) ws

abbrev pub folded : Aggregate → List Value → Value
folded aggregate.Sum vs = value.Int (sum_of vs)
folded aggregate.Min [] = no_value
folded aggregate.Min (v ∷ vs) = least_of v vs
folded aggregate.Max [] = no_value
folded aggregate.Max (v ∷ vs) = greatest_of v vs

-- an item of a row that is no group
abbrev pub plain_value : Joined → BoundItem → Value
plain_value env (item.Column c) = value_at env c
plain_value env item.Count = no_value
plain_value env (item.Fold f c) = no_value

-- an item of a group, which has this key
abbrev pub group_value : List BoundColumn → Row → List Joined → BoundItem → Value
group_value columns key envs (item.Column c) = slice_index_or key (place_among c columns) no_value
group_value columns key envs item.Count = value.Int (pos (length envs))
group_value columns key envs (item.Fold f c) = folded f (map (λ env. value_at env c) envs)

abbrev pub key_of : List BoundColumn → Joined → Row
key_of columns env = map (value_at env) columns

abbrev pub group_row : BoundSelect → Row → List Joined → Row
group_row s key envs = map (group_value s.group_by key envs) s.items

-- Without GROUP BY all rows are one group, also where there are none.
abbrev pub group_rows : BoundSelect → List BoundColumn → List Joined → List Row
group_rows s [] envs = group_row s [] envs ∷ []
group_rows s (c ∷ cs) envs = map (λ g. group_row s g.0 g.1) (groups same_row (key_of (c ∷ cs)) envs)

abbrev pub is_bound_aggregate : BoundItem → Bool
is_bound_aggregate (item.Column c) = false
is_bound_aggregate item.Count = true
is_bound_aggregate (item.Fold f c) = true

abbrev pub is_some_column : List BoundColumn → Bool
is_some_column [] = false
is_some_column (c ∷ cs) = true

abbrev pub has_groups : BoundSelect → Bool
has_groups s = is_some_column s.group_by || list_any is_bound_aggregate s.items

abbrev pub shown : BoundSelect → List Joined → List Row
shown s envs = if has_groups s then group_rows s s.group_by envs else map (λ env. map (plain_value env) s.items) envs

-- ---- the bag

abbrev pub distinct_rows : Bool → List Row → List Row
distinct_rows true rows = firsts same_row rows
distinct_rows false rows = rows

abbrev pub select_bag : Lists → BoundSelect → List Row
select_bag tables s = distinct_rows s.distinct (shown s (matches tables s))

-- the rows of a query, up to order
abbrev pub bag : Lists → Bound → List Row
bag tables q = select_bag tables q.first ++ flat_map (select_bag tables) q.others

-- ---- an answer

abbrev pub compare_at_key : BoundKey → Row → Row → Ordering
compare_at_key key a b =
    let said = compare_values (slice_index_or a key.item no_value) (slice_index_or b key.item no_value) in
    if key.descending then ordering_reverse said else said

-- by the keys in turn: the first that tells the rows apart decides
abbrev pub compare_rows : List BoundKey → Row → Row → Ordering
compare_rows [] a b = order.Equal
compare_rows (key ∷ keys) a b = ordering_then (compare_at_key key a b) (compare_rows keys a b)

abbrev pub limited : Option ℕ → List Row → List Row
limited None rows = rows
limited (Some n) rows = take n rows

-- Rows are an answer to a query: the first ones, as many as LIMIT says, of its bag in an order that rises by ORDER BY.
pub record IsAnswer (tables : Lists) (q : Bound) (rows : List Row) : Type 0 where
  pub arranged : List Row
  pub same : IsPermutation (bag tables q) arranged
  pub rises : IsSorted (compare_rows q.order_by) arranged
  pub first : rows ≡ limited q.limit arranged

-- whether a row stands before another under ORDER BY
abbrev pub is_before : List BoundKey → Row → Row → Bool
is_before keys a b = is_lt (compare_rows keys a b)

-- The answer whose rows stand as in the bag where no key tells them apart.
abbrev pub stable_answer : Lists → Bound → List Row
stable_answer tables q = limited q.limit (sorted (is_before q.order_by) (bag tables q))
