-- A machine that reads a query token by token: its states are what has been read, and what waits for it.
use Rattle.std.specs.Prelude.{ℕ, ◌+◌, Bool, true, false, not, List, Option, Some, None}
use Rattle.sql_tokens.specs.declared.token.Keyword.TheVariants as kw
use Rattle.sql_tokens.specs.declared.token.Token.{Token}
use Rattle.sql_front.specs.declared.words.Aggregate.{Aggregate}
use Rattle.sql_front.specs.declared.words.Comparison.{Comparison}
use Rattle.sql_front.specs.declared.words.Method.{Method}
use Rattle.sql_front.specs.declared.words.Method.TheVariants as m
use Rattle.sql_front.specs.declared.words.Setting.{Setting}
use Rattle.sql_front.specs.declared.words.Setting.TheVariants as s
use Rattle.sql_front.specs.declared.words.Unreserved.{Unreserved}
use Rattle.sql_front.specs.declared.words.Unreserved.TheVariants as u
use Rattle.sql_front.specs.Seen.{Seen, seen, wide, words}
use Rattle.sql_front.specs.Seen as w
use Rattle.sql_front.specs.Spell.{may_open, fits_table, fits_limit, fits_key, fits_setting, tables_before, tables_from}
use Rattle.sql_front.specs.Tree.{NameAt, NumberAt, Column, plain, dotted, Side, named, positive, negative, quoted, UnitTree, negation, group, compare}
use Rattle.sql_front.specs.Tree.{ConjTree, one_unit, and_unit, CondTree, one_conj, or_conj, Item, bare_item, count_item, fold_item, FromTable, bare, renamed, renamed_as}
use Rattle.sql_front.specs.Tree.{Join, inner, semi, anti, Start, at_first, union_all, Select, all_rows, distinct, ItemList, first_item, next_item, Items, every_column, listed}
use Rattle.sql_front.specs.Tree.{Before, from, comma, From, table, joined, Where, no_where, some_where, Columns, first_column, next_column, Group, no_group, group_by}
use Rattle.sql_front.specs.Tree.{KeyOf, by_column, by_number, Key, unsaid, ascending, descending, Keys, first_key, next_key, Order, no_order, order_by, Limited, no_limit, limit}
use Rattle.sql_front.specs.Tree.{Opt, sized, used, Options, first_option, next_option, Optioned, no_options, options, Query, bare_query, ended_query}
use Rattle.sql_front.specs.Words.{unreserved}
use Rattle.grammar_laws.specs.Machine.{Outcome, run}
use Rattle.grammar_laws.specs.Reading.{Refusal, refusal_at}

-- ---- what waits for a part that is being read

mutual
  -- for a unit
  pub data UnitK : Type 0 where
    not_k : UnitK → UnitK
    first_k : ConjK → UnitK
    and_k : ConjTree → ConjK → UnitK

  -- for a conjunction
  pub data ConjK : Type 0 where
    only_k : CondK → ConjK
    or_k : CondTree → CondK → ConjK

  -- for a condition
  pub data CondK : Type 0 where
    paren_k : UnitK → CondK
    on_k : From → Join → FromTable → CondK
    where_k : From → CondK

-- for a side
pub data SideK : Type 0 where
  left_k : UnitK → SideK
  right_k : Side → Comparison → ℕ → UnitK → SideK

-- for an item
pub data ItemK : Type 0 where
  first_item_k : Select → ItemK
  next_item_k : ItemList → ItemK

-- for a table
pub data TableK : Type 0 where
  before_k : Before → TableK
  join_k : From → Join → TableK

-- for a column of GROUP BY
pub data GroupK : Type 0 where
  first_group_k : Where → GroupK
  next_group_k : Columns → GroupK

-- for a key of ORDER BY
pub data KeyK : Type 0 where
  first_key_k : Group → KeyK
  next_key_k : Keys → KeyK

-- for an option
pub data OptK : Type 0 where
  first_opt_k : Limited → OptK
  next_opt_k : Options → OptK

-- for a column
pub data ColumnK : Type 0 where
  item_k : ItemK → ColumnK
  fold_k : Aggregate → ℕ → ItemK → ColumnK
  side_k : SideK → ColumnK
  group_k : GroupK → ColumnK
  key_k : KeyK → ColumnK

abbrev pub add_item : ItemK → Item → ItemList
add_item (first_item_k s) i = first_item s i
add_item (next_item_k is) i = next_item is i

abbrev pub add_column : GroupK → Column → Columns
add_column (first_group_k h) c = first_column h c
add_column (next_group_k cs) c = next_column cs c

abbrev pub add_key : KeyK → Key → Keys
add_key (first_key_k g) y = first_key g y
add_key (next_key_k ys) y = next_key ys y

abbrev pub add_opt : OptK → Opt → Options
add_opt (first_opt_k l) o = first_option l o
add_opt (next_opt_k os) o = next_option os o

-- ---- states

pub data State : Type 0 where
  -- SELECT is wanted, it was read; an item is wanted
  want_select : Start → State
  selected : Start → ℕ → State
  want_item : ItemK → State
  -- COUNT, `(` and `*` were read; SUM, MIN or MAX was
  counted : ItemK → State
  count_open : ItemK → State
  count_star : ItemK → ℕ → State
  folded : Aggregate → ℕ → ItemK → State
  after_star : Select → ℕ → State
  after_items : ItemList → State
  -- a table is wanted, was read, AS behind it was
  want_table : TableK → State
  after_table : FromTable → TableK → State
  as_word : NameAt → TableK → State
  -- LEFT was read; SEMI or ANTI behind it, so that JOIN is wanted; UNION was
  left_word : From → ℕ → State
  join_word : From → Join → State
  union_word : Group → ℕ → State
  -- a unit is wanted, a number behind a `-`, the operator behind a side that is no column, the right side
  want : UnitK → State
  negated : ℕ → SideK → State
  beside : Side → UnitK → State
  right : Side → Comparison → ℕ → UnitK → State
  -- the last conjunction of a condition was read
  after : ConjTree → ConjK → State
  -- a column is wanted, was read, a `.` behind it was
  want_column : ColumnK → State
  after_column : Column → ColumnK → State
  after_dot : NameAt → ColumnK → State
  group_word : Where → State
  order_word : Group → State
  want_key : KeyK → State
  after_number : NumberAt → KeyK → State
  after_keys : Keys → State
  limit_word : Order → State
  after_limit : Order → NumberAt → State
  -- OPTION was read; an option is wanted; BLOCK, PARTS or SORT was read, USE was
  option_word : Limited → State
  want_opt : OptK → State
  sized_word : Setting → ℕ → OptK → State
  used_word : ℕ → OptK → State
  after_opts : Options → State
  after_options : Options → State
  after_semicolon : Optioned → State
  ended : Query → State

-- how many parentheses and NOTs are open around a unit, a conjunction, a condition
abbrev mutual
  pub open_unit : UnitK → ℕ
  open_unit (not_k k) = open_unit k + 1
  open_unit (first_k k) = open_conj k
  open_unit (and_k c k) = open_conj k

  pub open_conj : ConjK → ℕ
  open_conj (only_k k) = open_cond k
  open_conj (or_k c k) = open_cond k

  pub open_cond : CondK → ℕ
  open_cond (paren_k k) = open_unit k + 1
  open_cond (on_k f j t) = 0
  open_cond (where_k f) = 0

abbrev pub tables_behind : TableK → ℕ
tables_behind (before_k b) = tables_before b
tables_behind (join_k f j) = tables_from f

-- a condition that waits at its first unit
abbrev pub want_cond : CondK → State
want_cond k = want (first_k (only_k k))

-- the last conjunction once a unit is read, and what waits for it
abbrev pub give : UnitK → UnitTree → ConjTree × ConjK
give (not_k k) u = give k (negation u)
give (first_k k) u = (one_unit u, k)
give (and_k c k) u = (and_unit c u, k)

abbrev pub behind : ConjTree × ConjK → State
behind a = after a.0 a.1

abbrev pub behind_side : Side → SideK → State
behind_side side (left_k k) = beside side k
behind_side side (right_k l op at k) = behind (give k (compare l op at side))

-- the condition whose last conjunction this is
abbrev pub joined_cond : ConjTree → ConjK → CondTree
joined_cond c (only_k k) = one_conj c
joined_cond c (or_k d k) = or_conj d c

abbrev pub below : ConjK → CondK
below (only_k k) = k
below (or_k d k) = k

-- ---- what may follow a query's beginning, where all that its last rule allows has been read

abbrev pub more_optioned : Optioned → Seen → Option State
more_optioned p w.Semicolon = Some (after_semicolon p)
more_optioned p w.End = Some (ended (bare_query p))
more_optioned p _ = None

abbrev pub more_limited : Limited → Seen → Option State
more_limited l (w.Word kw.Option) = Some (option_word l)
more_limited l t = more_optioned (no_options l) t

abbrev pub more_order : Order → Seen → Option State
more_order o (w.Word kw.Limit) = Some (limit_word o)
more_order o t = more_limited (no_limit o) t

abbrev pub begin_union : Group → ℕ → Option Unreserved → Option State
begin_union g at (Some u.Union) = Some (union_word g at)
begin_union g at _ = None

abbrev pub more_group : Group → Seen → Option State
more_group g (w.Word kw.Order) = Some (order_word g)
more_group g (w.Name x at) = begin_union g at (unreserved x)
more_group g t = more_order (no_order g) t

abbrev pub more_where : Where → Seen → Option State
more_where h (w.Word kw.Group) = Some (group_word h)
more_where h t = more_group (no_group h) t

abbrev pub begin_left : From → ℕ → Option Unreserved → Option State
begin_left f at (Some u.Left) = Some (left_word f at)
begin_left f at word = begin_union (no_group (no_where f)) at word

abbrev pub more_from : From → Seen → Option State
more_from f w.Comma = Some (want_table (before_k (comma f)))
more_from f (w.Word kw.Join) = Some (want_table (join_k f inner))
more_from f (w.Word kw.Where) = Some (want_cond (where_k f))
more_from f (w.Name x at) = begin_left f at (unreserved x)
more_from f t = more_where (no_where f) t

-- ---- steps behind a part

abbrev pub follow_cond : CondK → CondTree → Seen → Option State
follow_cond (paren_k k) c w.Close = Some (behind (give k (group c)))
follow_cond (paren_k k) c _ = None
follow_cond (on_k f j t) c s = more_from (joined f j t c) s
follow_cond (where_k f) c s = more_where (some_where f c) s

abbrev pub follow_conj : ConjTree → ConjK → Seen → Option State
follow_conj c k (w.Word kw.And) = Some (want (and_k c k))
follow_conj c k (w.Word kw.Or) = Some (want (first_k (or_k (joined_cond c k) (below k))))
follow_conj c k t = follow_cond (below k) (joined_cond c k) t

abbrev pub follow_left : Side → UnitK → Seen → Option State
follow_left l k (w.Sign op at) = Some (right l op at k)
follow_left l k _ = None

abbrev pub follow_side : Side → SideK → Seen → Option State
follow_side side (left_k k) t = follow_left side k t
follow_side side (right_k l op at k) t = let a = give k (compare l op at side) in follow_conj a.0 a.1 t

abbrev pub follow_items : ItemList → Seen → Option State
follow_items is w.Comma = Some (want_item (next_item_k is))
follow_items is (w.Word kw.From) = Some (want_table (before_k (from (listed is))))
follow_items is _ = None

abbrev pub follow_columns : Columns → Seen → Option State
follow_columns cs w.Comma = Some (want_column (group_k (next_group_k cs)))
follow_columns cs t = more_group (group_by cs) t

abbrev pub follow_keys : Keys → Seen → Option State
follow_keys ys w.Comma = Some (want_key (next_key_k ys))
follow_keys ys t = more_order (order_by ys) t

abbrev pub follow_key : KeyK → KeyOf → Seen → Option State
follow_key k y (w.Word kw.Asc) = Some (after_keys (add_key k (ascending y)))
follow_key k y (w.Word kw.Desc) = Some (after_keys (add_key k (descending y)))
follow_key k y t = follow_keys (add_key k (unsaid y)) t

abbrev pub follow_fold : ItemList → Seen → Option State
follow_fold is w.Close = Some (after_items is)
follow_fold is _ = None

-- behind a column, but for the `.`
abbrev pub follow_column : ColumnK → Column → Seen → Option State
follow_column (item_k k) c t = follow_items (add_item k (bare_item c)) t
follow_column (fold_k f at k) c t = follow_fold (add_item k (fold_item f at c)) t
follow_column (side_k k) c t = follow_side (named c) k t
follow_column (group_k k) c t = follow_columns (add_column k c) t
follow_column (key_k k) c t = follow_key k (by_column c) t

abbrev pub begin_dotted : Column → ColumnK → Option State
begin_dotted (plain n) k = Some (after_dot n k)
begin_dotted (dotted t n) k = None

abbrev pub begin_as : FromTable → TableK → Option State
begin_as (bare n) k = Some (as_word n k)
begin_as _ k = None

-- Behind a table with a second name and no AS, SEMI or ANTI says that LEFT was no name but begins a join, and ALL that UNION
-- was none.
abbrev pub begin_more : Before → NameAt → NameAt → Option Unreserved → ℕ → Option Unreserved → Option State
begin_more b n m (Some u.Left) at (Some u.Semi) = Some (join_word (table b (bare n)) (semi m.at at))
begin_more b n m (Some u.Left) at (Some u.Anti) = Some (join_word (table b (bare n)) (anti m.at at))
begin_more b n m (Some u.Union) at (Some u.All) = Some (want_select (union_all (no_group (no_where (table b (bare n)))) m.at at))
begin_more b n m _ at word = begin_left (table b (renamed n m)) at word

abbrev pub follow_named : FromTable → TableK → List ℕ → ℕ → Option State
follow_named (bare n) k x at = Some (after_table (renamed n (record { letters = x; at = at })) k)
follow_named (renamed n m) (before_k b) x at = begin_more b n m (unreserved m.letters) at (unreserved x)
follow_named (renamed_as n m) (before_k b) x at = begin_left (table b (renamed_as n m)) at (unreserved x)
follow_named _ (join_k f j) x at = None

abbrev pub begin_on : FromTable → From → Join → Seen → Option State
begin_on t f j (w.Word kw.On) = Some (want_cond (on_k f j t))
begin_on t f j _ = None

abbrev pub behind_table : FromTable → TableK → Seen → Option State
behind_table t (before_k b) s = more_from (table b t) s
behind_table t (join_k f j) s = begin_on t f j s

abbrev pub follow_table : FromTable → TableK → Seen → Option State
follow_table t k (w.Name x at) = follow_named t k x at
follow_table t k (w.Word kw.As) = begin_as t k
follow_table t k s = behind_table t k s

abbrev pub begin_join : From → ℕ → ℕ → Option Unreserved → Option State
begin_join f left at (Some u.Semi) = Some (join_word f (semi left at))
begin_join f left at (Some u.Anti) = Some (join_word f (anti left at))
begin_join f left at _ = None

abbrev pub begin_select : Group → ℕ → ℕ → Option Unreserved → Option State
begin_select g union at (Some u.All) = Some (want_select (union_all g union at))
begin_select g union at _ = None

abbrev pub begin_star : ItemK → ℕ → Option State
begin_star (first_item_k s) at = Some (after_star s at)
begin_star (next_item_k is) at = None

abbrev pub begin_item : ItemK → Seen → Option State
begin_item k (w.Name x at) = Some (after_column (plain (record { letters = x; at = at })) (item_k k))
begin_item k (w.Word kw.Count) = Some (counted k)
begin_item k (w.Fold f at) = Some (folded f at k)
begin_item k (w.Star at) = begin_star k at
begin_item k _ = None

-- at a side, that is read whole but for a column's `.` and a number behind a `-`
abbrev pub begin_side : SideK → Seen → Option State
begin_side k (w.Name x at) = Some (after_column (plain (record { letters = x; at = at })) (side_k k))
begin_side k (w.Number n at) = Some (behind_side (positive (record { value = n; at = at })) k)
begin_side k (w.Minus at) = Some (negated at k)
begin_side k (w.Text bytes) = Some (behind_side (quoted bytes) k)
begin_side k _ = None

abbrev pub begin_unit : UnitK → Seen → Option State
begin_unit k (w.Word kw.Not) = Some (want (not_k k))
begin_unit k w.Open = Some (want_cond (paren_k k))
begin_unit k t = begin_side (left_k k) t

abbrev pub begin_key : KeyK → Seen → Option State
begin_key k (w.Name x at) = Some (after_column (plain (record { letters = x; at = at })) (key_k k))
begin_key k (w.Number n at) = Some (after_number (record { value = n; at = at }) k)
begin_key k _ = None

abbrev pub begin_opt : OptK → ℕ → Option Unreserved → Option State
begin_opt k at (Some u.Block) = Some (sized_word s.Block at k)
begin_opt k at (Some u.Parts) = Some (sized_word s.Parts at k)
begin_opt k at (Some u.Sort) = Some (sized_word s.Sort at k)
begin_opt k at (Some u.Use) = Some (used_word at k)
begin_opt k at _ = None

abbrev pub method_of : Option Unreserved → Option Method
method_of (Some u.Block) = Some m.Block
method_of (Some u.Index) = Some m.Index
method_of (Some u.Merge) = Some m.Merge
method_of (Some u.Hash) = Some m.Hash
method_of _ = None

abbrev pub use_method : OptK → ℕ → ℕ → Option Method → Option State
use_method k at place (Some method) = Some (after_opts (add_opt k (used at method place)))
use_method k at place None = None

abbrev pub follow_opts : Options → Seen → Option State
follow_opts os w.Comma = Some (want_opt (next_opt_k os))
follow_opts os w.Close = Some (after_options os)
follow_opts os _ = None

-- ---- the step of each state

abbrev pub step : State → Seen → Option State
step (want_select s) (w.Select at) = Some (selected s at)
step (selected s at) (w.Word kw.Distinct) = Some (want_item (first_item_k (distinct s at)))
step (selected s at) t = begin_item (first_item_k (all_rows s at)) t
step (want_item k) t = begin_item k t
step (counted k) w.Open = Some (count_open k)
step (count_open k) (w.Star at) = Some (count_star k at)
step (count_star k at) w.Close = Some (after_items (add_item k (count_item at)))
step (folded f at k) w.Open = Some (want_column (fold_k f at k))
step (after_star s at) (w.Word kw.From) = Some (want_table (before_k (from (every_column s at))))
step (after_items is) t = follow_items is t
step (want_table k) (w.Name x at) = Some (after_table (bare (record { letters = x; at = at })) k)
step (after_table t k) s = follow_table t k s
step (as_word n k) (w.Name x at) = Some (after_table (renamed_as n (record { letters = x; at = at })) k)
step (left_word f left) (w.Name x at) = begin_join f left at (unreserved x)
step (join_word f j) (w.Word kw.Join) = Some (want_table (join_k f j))
step (union_word g union) (w.Name x at) = begin_select g union at (unreserved x)
step (want k) t = begin_unit k t
step (negated at k) (w.Number n place) = Some (behind_side (negative at (record { value = n; at = place })) k)
step (beside l k) t = follow_left l k t
step (right l op at k) t = begin_side (right_k l op at k) t
step (after c k) t = follow_conj c k t
step (want_column k) (w.Name x at) = Some (after_column (plain (record { letters = x; at = at })) k)
step (after_column c k) w.Dot = begin_dotted c k
step (after_column c k) t = follow_column k c t
step (after_dot t k) (w.Name x at) = Some (after_column (dotted t (record { letters = x; at = at })) k)
step (group_word h) (w.Word kw.By) = Some (want_column (group_k (first_group_k h)))
step (order_word g) (w.Word kw.By) = Some (want_key (first_key_k g))
step (want_key k) t = begin_key k t
step (after_number n k) t = follow_key k (by_number n) t
step (after_keys ys) t = follow_keys ys t
step (limit_word o) (w.Number n at) = Some (after_limit o (record { value = n; at = at }))
step (after_limit o n) t = more_limited (limit o n) t
step (option_word l) w.Open = Some (want_opt (first_opt_k l))
step (want_opt k) (w.Name x at) = begin_opt k at (unreserved x)
step (sized_word setting at k) (w.Number n place) = Some (after_opts (add_opt k (sized setting at (record { value = n; at = place }))))
step (used_word at k) (w.Name x place) = use_method k at place (method_of (unreserved x))
step (after_opts os) t = follow_opts os t
step (after_options os) t = more_optioned (options os) t
step (after_semicolon p) w.End = Some (ended (ended_query p))
step _ _ = None

-- the place of a `-` that was read last
abbrev pub sign_place_of : State → Option ℕ
sign_place_of (negated at k) = Some at
sign_place_of _ = None

-- whether the limits allow a token there: a table's name, NOT and `(`, a number
abbrev pub number_limit : (ℕ → Bool) → Seen → Bool
number_limit fits (w.Number n at) = fits n
number_limit fits _ = true

-- where a number may have any value in 128 signed bits
abbrev pub free_limit : Seen → Bool
free_limit t = number_limit (λ n. not (wide false n)) t

abbrev pub table_limit : TableK → Seen → Bool
table_limit k (w.Name x at) = fits_table (tables_behind k)
table_limit k t = free_limit t

abbrev pub unit_limit : UnitK → Seen → Bool
unit_limit k (w.Word kw.Not) = may_open (open_unit k)
unit_limit k w.Open = may_open (open_unit k)
unit_limit k t = free_limit t

abbrev pub limits : State → Seen → Bool
limits (want_table k) t = table_limit k t
limits (want k) t = unit_limit k t
limits (limit_word o) t = number_limit fits_limit t
limits (want_key k) t = number_limit fits_key t
limits (sized_word setting at k) t = number_limit (fits_setting setting) t
limits (negated at k) t = number_limit (λ n. not (wide true n)) t
limits _ t = free_limit t

abbrev pub answer : List ℕ → State → Token → List Token → Refusal
answer text st = refusal_at (words text) (sign_place_of st)

-- where a query begins
abbrev pub begin : State
begin = want_select at_first

-- ---- the states behind a query's beginnings, where what may follow has not been read

-- behind a condition
abbrev pub behind_cond : CondTree → CondK → State
behind_cond (one_conj c) k = after c (only_k k)
behind_cond (or_conj d c) k = after c (or_k d k)

abbrev pub behind_from : From → State
behind_from (table b t) = after_table t (before_k b)
behind_from (joined f j t c) = behind_cond c (on_k f j t)

abbrev pub behind_where : Where → State
behind_where (no_where f) = behind_from f
behind_where (some_where f c) = behind_cond c (where_k f)

abbrev pub behind_columns : Columns → State
behind_columns (first_column h c) = after_column c (group_k (first_group_k h))
behind_columns (next_column cs c) = after_column c (group_k (next_group_k cs))

abbrev pub behind_group : Group → State
behind_group (no_group h) = behind_where h
behind_group (group_by cs) = behind_columns cs

abbrev pub behind_key_of : KeyOf → KeyK → State
behind_key_of (by_column c) k = after_column c (key_k k)
behind_key_of (by_number n) k = after_number n k

abbrev pub behind_key : Key → KeyK → State
behind_key (unsaid y) k = behind_key_of y k
behind_key (ascending y) k = after_keys (add_key k (ascending y))
behind_key (descending y) k = after_keys (add_key k (descending y))

abbrev pub behind_keys : Keys → State
behind_keys (first_key g y) = behind_key y (first_key_k g)
behind_keys (next_key ys y) = behind_key y (next_key_k ys)

abbrev pub behind_order : Order → State
behind_order (no_order g) = behind_group g
behind_order (order_by ys) = behind_keys ys

abbrev pub behind_limited : Limited → State
behind_limited (no_limit o) = behind_order o
behind_limited (limit o n) = after_limit o n

abbrev pub behind_optioned : Optioned → State
behind_optioned (no_options l) = behind_limited l
behind_optioned (options os) = after_options os

abbrev pub behind_item : Item → ItemK → State
behind_item (bare_item c) k = after_column c (item_k k)
behind_item (count_item at) k = after_items (add_item k (count_item at))
behind_item (fold_item f at c) k = after_items (add_item k (fold_item f at c))

abbrev pub behind_list : ItemList → State
behind_list (first_item s i) = behind_item i (first_item_k s)
behind_list (next_item is i) = behind_item i (next_item_k is)

abbrev pub behind_items : Items → State
behind_items (every_column s at) = after_star s at
behind_items (listed is) = behind_list is

-- ---- runs

-- from a state over the tokens of a text
abbrev pub running : List ℕ → State → List Token → Outcome State
running text = run (seen text) step limits (answer text)
