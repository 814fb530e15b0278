-- The marks of a query's tree: its tokens in their order, each with whether the limits allow it where it stands.
use Rattle.std.specs.Prelude.{ℕ, ◌+◌, ◌^◌, Bool, true, false, not, ◌&&◌, nat_lt, nat_le, List, [], ◌∷◌, ◌++◌}
use Rattle.sql_tokens.specs.declared.token.Keyword.TheVariants as kw
use Rattle.sql_front.specs.declared.words.Method.{Method}
use Rattle.sql_front.specs.declared.words.Method.TheVariants as m
use Rattle.sql_front.specs.declared.words.Setting.{Setting}
use Rattle.sql_front.specs.declared.words.Setting.TheVariants as s
use Rattle.sql_front.specs.declared.words.Unreserved.{Unreserved}
use Rattle.sql_front.specs.declared.words.Unreserved.TheVariants as u
use Rattle.sql_front.specs.Seen.{Seen, wide}
use Rattle.sql_front.specs.Seen as w
use Rattle.sql_front.specs.Tree.{NameAt, NumberAt, Column, plain, dotted, Side, named, positive, negative, quoted, UnitTree, negation, group, compare}
use Rattle.sql_front.specs.Tree.{ConjTree, one_unit, and_unit, CondTree, one_conj, or_conj, Item, bare_item, count_item, fold_item, FromTable, bare, renamed, renamed_as}
use Rattle.sql_front.specs.Tree.{Join, inner, semi, anti, Start, at_first, union_all, Select, all_rows, distinct, ItemList, first_item, next_item, Items, every_column, listed}
use Rattle.sql_front.specs.Tree.{Before, from, comma, From, table, joined, Where, no_where, some_where, Columns, first_column, next_column, Group, no_group, group_by}
use Rattle.sql_front.specs.Tree.{KeyOf, by_column, by_number, Key, unsaid, ascending, descending, Keys, first_key, next_key, Order, no_order, order_by, Limited, no_limit, limit}
use Rattle.sql_front.specs.Tree.{Opt, sized, used, Options, first_option, next_option, Optioned, no_options, options, Query, bare_query, ended_query}
use Rattle.sql_front.specs.Words.{spelled}
use Rattle.grammar_laws.specs.Reading.{Mark}

abbrev pub Marks : Type 0
Marks = List (Mark Seen)

-- ---- limits

-- inside so many parentheses and NOTs one more may open
abbrev pub may_open : ℕ → Bool
may_open depth = nat_lt depth 64

-- behind so many tables one more may stand
abbrev pub fits_table : ℕ → Bool
fits_table tables = nat_lt tables 4

abbrev pub between : ℕ → ℕ → ℕ → Bool
between least most n = nat_le least n && nat_le n most

abbrev pub fits_limit : ℕ → Bool
fits_limit n = nat_lt n (2 ^ 63)

abbrev pub fits_key : ℕ → Bool
fits_key = between 1 65535

abbrev pub fits_setting : Setting → ℕ → Bool
fits_setting s.Block = between 1 4096
fits_setting s.Parts = between 1 16
fits_setting s.Sort = between 1 65536

-- ---- marks

-- a token that no limit speaks of
abbrev pub the : Seen → Mark Seen
the t = (t, true)

abbrev pub the_name : NameAt → Mark Seen
the_name n = the (w.Name n.letters n.at)

abbrev pub the_word : Unreserved → ℕ → Mark Seen
the_word word at = the (w.Name (spelled word) at)

-- a number, and whether it is allowed
abbrev pub the_number : Bool → NumberAt → Mark Seen
the_number fits n = (w.Number n.value n.at, fits)

abbrev pub spell_column : Column → Marks
spell_column (plain n) = the_name n ∷ []
spell_column (dotted t n) = the_name t ∷ the w.Dot ∷ the_name n ∷ []

abbrev pub spell_side : Side → Marks
spell_side (named c) = spell_column c
spell_side (positive n) = the_number (not (wide false n.value)) n ∷ []
spell_side (negative at n) = the (w.Minus at) ∷ the_number (not (wide true n.value)) n ∷ []
spell_side (quoted bytes) = the (w.Text bytes) ∷ []

abbrev mutual
  -- a unit inside so many parentheses and NOTs
  pub spell_unit : ℕ → UnitTree → Marks
  spell_unit depth (negation u) = (w.Word kw.Not, may_open depth) ∷ spell_unit (depth + 1) u
  spell_unit depth (group c) = (w.Open, may_open depth) ∷ (spell_cond (depth + 1) c ++ the w.Close ∷ [])
  spell_unit depth (compare l op at r) = spell_side l ++ the (w.Sign op at) ∷ spell_side r

  pub spell_conj : ℕ → ConjTree → Marks
  spell_conj depth (one_unit u) = spell_unit depth u
  spell_conj depth (and_unit c u) = spell_conj depth c ++ the (w.Word kw.And) ∷ spell_unit depth u

  pub spell_cond : ℕ → CondTree → Marks
  spell_cond depth (one_conj c) = spell_conj depth c
  spell_cond depth (or_conj d c) = spell_cond depth d ++ the (w.Word kw.Or) ∷ spell_conj depth c

abbrev pub spell_item : Item → Marks
spell_item (bare_item c) = spell_column c
spell_item (count_item at) = the (w.Word kw.Count) ∷ the w.Open ∷ the (w.Star at) ∷ the w.Close ∷ []
spell_item (fold_item f at c) = the (w.Fold f at) ∷ the w.Open ∷ (spell_column c ++ the w.Close ∷ [])

-- a table behind so many others
abbrev pub spell_table : ℕ → FromTable → Marks
spell_table tables (bare n) = (w.Name n.letters n.at, fits_table tables) ∷ []
spell_table tables (renamed n m) = (w.Name n.letters n.at, fits_table tables) ∷ the_name m ∷ []
spell_table tables (renamed_as n m) = (w.Name n.letters n.at, fits_table tables) ∷ the (w.Word kw.As) ∷ the_name m ∷ []

abbrev pub spell_join : Join → Marks
spell_join inner = the (w.Word kw.Join) ∷ []
spell_join (semi left word) = the_word u.Left left ∷ the_word u.Semi word ∷ the (w.Word kw.Join) ∷ []
spell_join (anti left word) = the_word u.Left left ∷ the_word u.Anti word ∷ the (w.Word kw.Join) ∷ []

-- how many tables stand in it
abbrev mutual
  pub tables_start : Start → ℕ
  tables_start at_first = 0
  tables_start (union_all g union all) = tables_group g

  pub tables_select : Select → ℕ
  tables_select (all_rows s at) = tables_start s
  tables_select (distinct s at) = tables_start s

  pub tables_list : ItemList → ℕ
  tables_list (first_item s i) = tables_select s
  tables_list (next_item is i) = tables_list is

  pub tables_items : Items → ℕ
  tables_items (every_column s at) = tables_select s
  tables_items (listed is) = tables_list is

  pub tables_before : Before → ℕ
  tables_before (from i) = tables_items i
  tables_before (comma f) = tables_from f

  pub tables_from : From → ℕ
  tables_from (table b t) = tables_before b + 1
  tables_from (joined f j t c) = tables_from f + 1

  pub tables_where : Where → ℕ
  tables_where (no_where f) = tables_from f
  tables_where (some_where f c) = tables_from f

  pub tables_columns : Columns → ℕ
  tables_columns (first_column h c) = tables_where h
  tables_columns (next_column cs c) = tables_columns cs

  pub tables_group : Group → ℕ
  tables_group (no_group h) = tables_where h
  tables_group (group_by cs) = tables_columns cs

abbrev mutual
  pub spell_start : Start → Marks
  spell_start at_first = []
  spell_start (union_all g union all) = spell_group g ++ the_word u.Union union ∷ the_word u.All all ∷ []

  pub spell_select : Select → Marks
  spell_select (all_rows s at) = spell_start s ++ the (w.Select at) ∷ []
  spell_select (distinct s at) = spell_start s ++ the (w.Select at) ∷ the (w.Word kw.Distinct) ∷ []

  pub spell_list : ItemList → Marks
  spell_list (first_item s i) = spell_select s ++ spell_item i
  spell_list (next_item is i) = spell_list is ++ the w.Comma ∷ spell_item i

  pub spell_items : Items → Marks
  spell_items (every_column s at) = spell_select s ++ the (w.Star at) ∷ []
  spell_items (listed is) = spell_list is

  pub spell_before : Before → Marks
  spell_before (from i) = spell_items i ++ the (w.Word kw.From) ∷ []
  spell_before (comma f) = spell_from f ++ the w.Comma ∷ []

  pub spell_from : From → Marks
  spell_from (table b t) = spell_before b ++ spell_table (tables_before b) t
  spell_from (joined f j t c) = spell_from f ++ (spell_join j ++ (spell_table (tables_from f) t ++ the (w.Word kw.On) ∷ spell_cond 0 c))

  pub spell_where : Where → Marks
  spell_where (no_where f) = spell_from f
  spell_where (some_where f c) = spell_from f ++ the (w.Word kw.Where) ∷ spell_cond 0 c

  pub spell_columns : Columns → Marks
  spell_columns (first_column h c) = spell_where h ++ the (w.Word kw.Group) ∷ the (w.Word kw.By) ∷ spell_column c
  spell_columns (next_column cs c) = spell_columns cs ++ the w.Comma ∷ spell_column c

  pub spell_group : Group → Marks
  spell_group (no_group h) = spell_where h
  spell_group (group_by cs) = spell_columns cs

abbrev pub spell_key_of : KeyOf → Marks
spell_key_of (by_column c) = spell_column c
spell_key_of (by_number n) = the_number (fits_key n.value) n ∷ []

abbrev pub spell_key : Key → Marks
spell_key (unsaid y) = spell_key_of y
spell_key (ascending y) = spell_key_of y ++ the (w.Word kw.Asc) ∷ []
spell_key (descending y) = spell_key_of y ++ the (w.Word kw.Desc) ∷ []

abbrev pub spell_keys : Keys → Marks
spell_keys (first_key g y) = spell_group g ++ the (w.Word kw.Order) ∷ the (w.Word kw.By) ∷ spell_key y
spell_keys (next_key ys y) = spell_keys ys ++ the w.Comma ∷ spell_key y

abbrev pub spell_order : Order → Marks
spell_order (no_order g) = spell_group g
spell_order (order_by ys) = spell_keys ys

abbrev pub spell_limited : Limited → Marks
spell_limited (no_limit o) = spell_order o
spell_limited (limit o n) = spell_order o ++ the (w.Word kw.Limit) ∷ the_number (fits_limit n.value) n ∷ []

abbrev pub setting_word : Setting → Unreserved
setting_word s.Block = u.Block
setting_word s.Parts = u.Parts
setting_word s.Sort = u.Sort

abbrev pub method_word : Method → Unreserved
method_word m.Block = u.Block
method_word m.Index = u.Index
method_word m.Merge = u.Merge
method_word m.Hash = u.Hash

abbrev pub spell_opt : Opt → Marks
spell_opt (sized setting at n) = the_word (setting_word setting) at ∷ the_number (fits_setting setting n.value) n ∷ []
spell_opt (used at method place) = the_word u.Use at ∷ the_word (method_word method) place ∷ []

abbrev pub spell_options : Options → Marks
spell_options (first_option l o) = spell_limited l ++ the (w.Word kw.Option) ∷ the w.Open ∷ spell_opt o
spell_options (next_option os o) = spell_options os ++ the w.Comma ∷ spell_opt o

abbrev pub spell_optioned : Optioned → Marks
spell_optioned (no_options l) = spell_limited l
spell_optioned (options os) = spell_options os ++ the w.Close ∷ []

abbrev pub spell : Query → Marks
spell (bare_query p) = spell_optioned p ++ the w.End ∷ []
spell (ended_query p) = spell_optioned p ++ the w.Semicolon ∷ the w.End ∷ []
