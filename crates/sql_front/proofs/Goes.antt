-- A query's marks lead the machine from its first state to the query's own.
use Rattle.std.specs.Prelude.{◌≡◌, ℕ, [], ◌∷◌, ◌++◌, Some}
use Rattle.std.proofs.Common.{refl, ap, ◌∙◌, append_assoc}
use Rattle.sql_tokens.specs.declared.token.Keyword.TheVariants as kw
use Rattle.sql_front.specs.declared.words.Unreserved.TheVariants as u
use Rattle.sql_front.specs.Machine.{on_k, where_k, first_item_k, next_item_k, before_k, join_k, first_group_k, next_group_k, first_key_k, next_key_k, first_opt_k, next_opt_k}
use Rattle.sql_front.specs.Machine.{group_k, State, want_select, selected, want_item, after_star, want_table, want_cond, want_column, group_word, order_word, want_key}
use Rattle.sql_front.specs.Machine.{limit_word, option_word, after_opts, after_semicolon, ended, begin, step, limits}
use Rattle.sql_front.specs.Machine.{behind_list, behind_items, behind_from, behind_where, behind_columns, behind_group, behind_keys, behind_order, behind_limited, behind_optioned}
use Rattle.sql_front.specs.Seen as w
use Rattle.sql_front.specs.Spell.{Marks, the, the_word, the_number, fits_limit, spell_column, spell_cond, spell_item, spell_table, spell_join, tables_before, tables_from}
use Rattle.sql_front.specs.Spell.{spell_start, spell_select, spell_list, spell_items, spell_before, spell_from, spell_where, spell_columns, spell_group, spell_key, spell_keys, spell_order}
use Rattle.sql_front.specs.Spell.{spell_limited, spell_opt, spell_options, spell_optioned, spell}
use Rattle.sql_front.specs.Tree.{plain, dotted, Item, bare_item, count_item, fold_item, Join, inner, semi, anti, FromTable, CondTree, Start, at_first, union_all, Select, all_rows, distinct}
use Rattle.sql_front.specs.Tree.{ItemList, first_item, next_item, Items, every_column, listed, Before, from, comma, From, table, joined, Where, no_where, some_where}
use Rattle.sql_front.specs.Tree.{Columns, first_column, next_column, Group, no_group, group_by, Keys, first_key, next_key, Order, no_order, order_by, Limited, no_limit, limit}
use Rattle.sql_front.specs.Tree.{Options, first_option, next_option, Optioned, no_options, options, Query, bare_query, ended_query}
use Rattle.sql_front.proofs.Follows.{list_follows, items_follows, from_follows, where_follows, columns_follows, group_follows, keys_follows, order_follows, limited_follows, optioned_follows}
use Rattle.sql_front.proofs.Follows.{list_limits, items_limits, from_limits, where_limits, columns_limits, group_limits, keys_limits, order_limits, limited_limits, optioned_limits}
use Rattle.sql_front.proofs.GoesParts.{takes, NoDot, column_goes, cond_goes, item_goes, key_goes, opt_goes, table_goes, join_goes, union_goes}
use Rattle.grammar_laws.specs.Machine.{go}
use Rattle.grammar_laws.proofs.Reading.{same_bit-self}

-- where the first item of a select is wanted
abbrev pub behind_select : Select → State
behind_select (all_rows s at) = selected s at
behind_select (distinct s at) = want_item (first_item_k (distinct s at))

-- The first item is taken as any other, also where DISTINCT might stand.
first_item_goes : (s : Select) (i : Item) (rest : Marks)
    → go step limits (behind_select s) (spell_item i ++ rest) ≡ go step limits (want_item (first_item_k s)) (spell_item i ++ rest)
first_item_goes (all_rows s at) (bare_item (plain n)) rest = refl
first_item_goes (all_rows s at) (bare_item (dotted t n)) rest = refl
first_item_goes (all_rows s at) (count_item place) rest = refl
first_item_goes (all_rows s at) (fold_item f place c) rest = refl
first_item_goes (distinct s at) i rest = refl

star_goes : (s : Select) (at : ℕ) (rest : Marks) → go step limits (behind_select s) (the (w.Star at) ∷ rest) ≡ go step limits (after_star s at) rest
star_goes (all_rows s place) at rest = refl
star_goes (distinct s place) at rest = refl

join_is_no_dot : (j : Join) (rest : Marks) → NoDot (spell_join j ++ rest)
join_is_no_dot inner rest = tt
join_is_no_dot (semi left place) rest = tt
join_is_no_dot (anti left place) rest = tt

join_marks : (f : From) (j : Join) (n : FromTable) (c : CondTree) (rest : Marks)
    → spell_from (joined f j n c) ++ rest ≡ spell_from f ++ (spell_join j ++ (spell_table (tables_from f) n ++ the (w.Word kw.On) ∷ (spell_cond 0 c ++ rest)))
join_marks f j n c rest = simp append_assoc refl

mutual
  pub start_goes : (s : Start) (rest : Marks) → go step limits begin (spell_start s ++ rest) ≡ go step limits (want_select s) rest
  start_goes at_first rest = refl
  start_goes (union_all g union place) rest =
      ap (go step limits begin) (append_assoc (spell_group g) (the_word u.Union union ∷ the_word u.All place ∷ []) rest)
      ∙ group_goes g (the_word u.Union union ∷ the_word u.All place ∷ rest) tt
      ∙ union_goes g union place rest

  pub select_goes : (s : Select) (rest : Marks) → go step limits begin (spell_select s ++ rest) ≡ go step limits (behind_select s) rest
  select_goes (all_rows s at) rest =
      ap (go step limits begin) (append_assoc (spell_start s) (the (w.Select at) ∷ []) rest)
      ∙ start_goes s (the (w.Select at) ∷ rest)
  select_goes (distinct s at) rest =
      ap (go step limits begin) (append_assoc (spell_start s) (the (w.Select at) ∷ the (w.Word kw.Distinct) ∷ []) rest)
      ∙ start_goes s (the (w.Select at) ∷ the (w.Word kw.Distinct) ∷ rest)

  pub list_goes : (is : ItemList) (rest : Marks) → go step limits begin (spell_list is ++ rest) ≡ go step limits (behind_list is) rest
  list_goes (first_item s i) rest =
      ap (go step limits begin) (append_assoc (spell_select s) (spell_item i) rest)
      ∙ select_goes s (spell_item i ++ rest)
      ∙ first_item_goes s i rest
      ∙ item_goes i (first_item_k s) rest
  list_goes (next_item is i) rest =
      ap (go step limits begin) (append_assoc (spell_list is) (the w.Comma ∷ spell_item i) rest)
      ∙ list_goes is (the w.Comma ∷ spell_item i ++ rest)
      ∙ takes (behind_list is) w.Comma (Some (want_item (next_item_k is))) (spell_item i ++ rest) (list_limits is w.Comma) (list_follows is w.Comma tt)
      ∙ item_goes i (next_item_k is) rest

  pub items_goes : (i : Items) (rest : Marks) → go step limits begin (spell_items i ++ rest) ≡ go step limits (behind_items i) rest
  items_goes (every_column s at) rest =
      ap (go step limits begin) (append_assoc (spell_select s) (the (w.Star at) ∷ []) rest)
      ∙ select_goes s (the (w.Star at) ∷ rest)
      ∙ star_goes s at rest
  items_goes (listed is) rest = list_goes is rest

  pub before_goes : (b : Before) (rest : Marks) → go step limits begin (spell_before b ++ rest) ≡ go step limits (want_table (before_k b)) rest
  before_goes (from i) rest =
      ap (go step limits begin) (append_assoc (spell_items i) (the (w.Word kw.From) ∷ []) rest)
      ∙ items_goes i (the (w.Word kw.From) ∷ rest)
      ∙ takes (behind_items i) (w.Word kw.From) (Some (want_table (before_k (from i)))) rest (items_limits i (w.Word kw.From)) (items_follows i)
  before_goes (comma f) rest =
      ap (go step limits begin) (append_assoc (spell_from f) (the w.Comma ∷ []) rest)
      ∙ from_goes f (the w.Comma ∷ rest) tt
      ∙ takes (behind_from f) w.Comma (Some (want_table (before_k (comma f)))) rest (from_limits f w.Comma) (from_follows f w.Comma tt)

  pub from_goes : (f : From) (rest : Marks) → NoDot rest → go step limits begin (spell_from f ++ rest) ≡ go step limits (behind_from f) rest
  from_goes (table b n) rest no_dot =
      ap (go step limits begin) (append_assoc (spell_before b) (spell_table (tables_before b) n) rest)
      ∙ before_goes b (spell_table (tables_before b) n ++ rest)
      ∙ table_goes n (before_k b) rest
  from_goes (joined f j n c) rest no_dot =
      ap (go step limits begin) (join_marks f j n c rest)
      ∙ from_goes f (spell_join j ++ (spell_table (tables_from f) n ++ the (w.Word kw.On) ∷ (spell_cond 0 c ++ rest)))
      (join_is_no_dot j (spell_table (tables_from f) n ++ the (w.Word kw.On) ∷ (spell_cond 0 c ++ rest)))
      ∙ join_goes f j (spell_table (tables_from f) n ++ the (w.Word kw.On) ∷ (spell_cond 0 c ++ rest))
      ∙ table_goes n (join_k f j) (the (w.Word kw.On) ∷ (spell_cond 0 c ++ rest))
      ∙ cond_goes c (on_k f j n) rest no_dot

  pub where_goes : (h : Where) (rest : Marks) → NoDot rest → go step limits begin (spell_where h ++ rest) ≡ go step limits (behind_where h) rest
  where_goes (no_where f) rest no_dot = from_goes f rest no_dot
  where_goes (some_where f c) rest no_dot =
      ap (go step limits begin) (append_assoc (spell_from f) (the (w.Word kw.Where) ∷ spell_cond 0 c) rest)
      ∙ from_goes f (the (w.Word kw.Where) ∷ spell_cond 0 c ++ rest) tt
      ∙ takes (behind_from f) (w.Word kw.Where) (Some (want_cond (where_k f))) (spell_cond 0 c ++ rest) (from_limits f (w.Word kw.Where)) (from_follows f (w.Word kw.Where) tt)
      ∙ cond_goes c (where_k f) rest no_dot

  pub columns_goes : (cs : Columns) (rest : Marks) → go step limits begin (spell_columns cs ++ rest) ≡ go step limits (behind_columns cs) rest
  columns_goes (first_column h c) rest =
      ap (go step limits begin) (append_assoc (spell_where h) (the (w.Word kw.Group) ∷ the (w.Word kw.By) ∷ spell_column c) rest)
      ∙ where_goes h (the (w.Word kw.Group) ∷ the (w.Word kw.By) ∷ spell_column c ++ rest) tt
      ∙ takes (behind_where h) (w.Word kw.Group) (Some (group_word h)) (the (w.Word kw.By) ∷ spell_column c ++ rest)
      (where_limits h (w.Word kw.Group)) (where_follows h (w.Word kw.Group) tt)
      ∙ column_goes c (group_k (first_group_k h)) rest
  columns_goes (next_column cs c) rest =
      ap (go step limits begin) (append_assoc (spell_columns cs) (the w.Comma ∷ spell_column c) rest)
      ∙ columns_goes cs (the w.Comma ∷ spell_column c ++ rest)
      ∙ takes (behind_columns cs) w.Comma (Some (want_column (group_k (next_group_k cs)))) (spell_column c ++ rest) (columns_limits cs w.Comma) (columns_follows cs w.Comma tt)
      ∙ column_goes c (group_k (next_group_k cs)) rest

  pub group_goes : (g : Group) (rest : Marks) → NoDot rest → go step limits begin (spell_group g ++ rest) ≡ go step limits (behind_group g) rest
  group_goes (no_group h) rest no_dot = where_goes h rest no_dot
  group_goes (group_by cs) rest no_dot = columns_goes cs rest

pub keys_goes : (ys : Keys) (rest : Marks) → go step limits begin (spell_keys ys ++ rest) ≡ go step limits (behind_keys ys) rest
keys_goes (first_key g y) rest =
    ap (go step limits begin) (append_assoc (spell_group g) (the (w.Word kw.Order) ∷ the (w.Word kw.By) ∷ spell_key y) rest)
    ∙ group_goes g (the (w.Word kw.Order) ∷ the (w.Word kw.By) ∷ spell_key y ++ rest) tt
    ∙ takes (behind_group g) (w.Word kw.Order) (Some (order_word g)) (the (w.Word kw.By) ∷ spell_key y ++ rest)
    (group_limits g (w.Word kw.Order)) (group_follows g (w.Word kw.Order) tt)
    ∙ key_goes y (first_key_k g) rest
keys_goes (next_key ys y) rest =
    ap (go step limits begin) (append_assoc (spell_keys ys) (the w.Comma ∷ spell_key y) rest)
    ∙ keys_goes ys (the w.Comma ∷ spell_key y ++ rest)
    ∙ takes (behind_keys ys) w.Comma (Some (want_key (next_key_k ys))) (spell_key y ++ rest) (keys_limits ys w.Comma) (keys_follows ys w.Comma tt)
    ∙ key_goes y (next_key_k ys) rest

pub order_goes : (o : Order) (rest : Marks) → NoDot rest → go step limits begin (spell_order o ++ rest) ≡ go step limits (behind_order o) rest
order_goes (no_order g) rest no_dot = group_goes g rest no_dot
order_goes (order_by ys) rest no_dot = keys_goes ys rest

limit_goes : (o : Order) (value at : ℕ) (rest : Marks) → go step limits (limit_word o) ((w.Number value at, fits_limit value) ∷ rest)
    ≡ go step limits (behind_limited (limit o (record { value = value; at = at }))) rest
limit_goes o value at rest = rw same_bit-self refl

pub limited_goes : (l : Limited) (rest : Marks) → NoDot rest → go step limits begin (spell_limited l ++ rest) ≡ go step limits (behind_limited l) rest
limited_goes (no_limit o) rest no_dot = order_goes o rest no_dot
limited_goes (limit o n) rest no_dot =
    ap (go step limits begin) (append_assoc (spell_order o) (the (w.Word kw.Limit) ∷ the_number (fits_limit n.value) n ∷ []) rest)
    ∙ order_goes o (the (w.Word kw.Limit) ∷ the_number (fits_limit n.value) n ∷ rest) tt
    ∙ takes (behind_order o) (w.Word kw.Limit) (Some (limit_word o)) (the_number (fits_limit n.value) n ∷ rest)
    (order_limits o (w.Word kw.Limit)) (order_follows o (w.Word kw.Limit) tt)
    ∙ limit_goes o n.value n.at rest

pub options_goes : (os : Options) (rest : Marks) → go step limits begin (spell_options os ++ rest) ≡ go step limits (after_opts os) rest
options_goes (first_option l o) rest =
    ap (go step limits begin) (append_assoc (spell_limited l) (the (w.Word kw.Option) ∷ the w.Open ∷ spell_opt o) rest)
    ∙ limited_goes l (the (w.Word kw.Option) ∷ the w.Open ∷ spell_opt o ++ rest) tt
    ∙ takes (behind_limited l) (w.Word kw.Option) (Some (option_word l)) (the w.Open ∷ spell_opt o ++ rest)
    (limited_limits l (w.Word kw.Option)) (limited_follows l (w.Word kw.Option) tt)
    ∙ opt_goes o (first_opt_k l) rest
options_goes (next_option os o) rest =
    ap (go step limits begin) (append_assoc (spell_options os) (the w.Comma ∷ spell_opt o) rest)
    ∙ options_goes os (the w.Comma ∷ spell_opt o ++ rest)
    ∙ opt_goes o (next_opt_k os) rest

pub optioned_goes : (p : Optioned) (rest : Marks) → NoDot rest → go step limits begin (spell_optioned p ++ rest) ≡ go step limits (behind_optioned p) rest
optioned_goes (no_options l) rest no_dot = limited_goes l rest no_dot
optioned_goes (options os) rest no_dot =
    ap (go step limits begin) (append_assoc (spell_options os) (the w.Close ∷ []) rest)
    ∙ options_goes os (the w.Close ∷ rest)

pub goes : (tree : Query) → go step limits begin (spell tree) ≡ Some (ended tree)
goes (bare_query p) =
    optioned_goes p (the w.End ∷ []) tt
    ∙ takes (behind_optioned p) w.End (Some (ended (bare_query p))) [] (optioned_limits p w.End) (optioned_follows p w.End tt)
goes (ended_query p) =
    optioned_goes p (the w.Semicolon ∷ the w.End ∷ []) tt
    ∙ takes (behind_optioned p) w.Semicolon (Some (after_semicolon p)) (the w.End ∷ []) (optioned_limits p w.Semicolon) (optioned_follows p w.Semicolon tt)
