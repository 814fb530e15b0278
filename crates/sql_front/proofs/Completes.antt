-- Each state of the machine can be completed: what it says of the tokens before it is the beginning of a query's marks. What a
-- limit says of them doesn't count here, so that any names and numbers will do for the rest.
use Rattle.std.specs.Prelude.{◌≡◌, ℕ, true, not, [], ◌∷◌, ◌++◌}
use Rattle.std.proofs.Common.{refl, sym, ◌∙◌, append_assoc, append-nil}
use Rattle.sql_tokens.specs.declared.token.Keyword.TheVariants as kw
use Rattle.sql_front.specs.declared.words.Comparison.{Comparison}
use Rattle.sql_front.specs.declared.words.Comparison.TheVariants as op
use Rattle.sql_front.specs.declared.words.Method.TheVariants as m
use Rattle.sql_front.specs.declared.words.Unreserved.TheVariants as u
use Rattle.sql_front.specs.Machine.{UnitK, not_k, first_k, and_k, ConjK, only_k, or_k, CondK, paren_k, on_k, where_k, SideK, left_k, right_k, ItemK, first_item_k, next_item_k}
use Rattle.sql_front.specs.Machine.{TableK, before_k, join_k, GroupK, first_group_k, next_group_k, KeyK, first_key_k, next_key_k, OptK, first_opt_k, next_opt_k}
use Rattle.sql_front.specs.Machine.{ColumnK, item_k, fold_k, side_k, group_k, key_k, State, want_select, selected, want_item, counted, count_open, count_star, folded}
use Rattle.sql_front.specs.Machine.{after_star, after_items, want_table, after_table, as_word, left_word, join_word, union_word, want, negated, beside, right, after}
use Rattle.sql_front.specs.Machine.{want_column, after_column, after_dot, group_word, order_word, want_key, after_number, after_keys, limit_word, after_limit}
use Rattle.sql_front.specs.Machine.{option_word, want_opt, sized_word, used_word, after_opts, after_options, after_semicolon, ended, begin, open_unit, open_conj, open_cond, tables_behind}
use Rattle.sql_front.specs.Said.{said, said_unit, said_conj, said_cond, said_side, said_item, said_table, said_group, said_key, said_opt, said_column, said_join}
use Rattle.sql_front.specs.Seen.{wide}
use Rattle.sql_front.specs.Seen as w
use Rattle.sql_front.specs.Spell.{Marks, the, the_name, the_word, the_number, fits_limit, fits_setting, spell, spell_unit, spell_conj, spell_cond, spell_side, spell_column, spell_item, spell_table}
use Rattle.sql_front.specs.Spell.{spell_start, spell_select, spell_list, spell_items, spell_before, spell_from, spell_where, spell_columns, spell_group}
use Rattle.sql_front.specs.Spell.{spell_key, spell_keys, spell_order, spell_limited, spell_opt, spell_options, spell_optioned, tables_before, tables_from}
use Rattle.sql_front.specs.Tree.{NameAt, NumberAt, Column, plain, dotted, Side, named, positive, negative, UnitTree, negation, group, compare}
use Rattle.sql_front.specs.Tree.{ConjTree, one_unit, and_unit, CondTree, one_conj, or_conj, Item, bare_item, count_item, fold_item, FromTable, bare, renamed_as}
use Rattle.sql_front.specs.Tree.{Join, inner, semi, anti, Start, union_all, Select, all_rows, ItemList, first_item, next_item, Items, every_column, listed}
use Rattle.sql_front.specs.Tree.{Before, from, From, table, joined, Where, no_where, some_where, Columns, first_column, next_column, Group, no_group, group_by}
use Rattle.sql_front.specs.Tree.{by_column, by_number, Key, unsaid, Keys, first_key, next_key, Order, no_order, order_by, Limited, no_limit, limit}
use Rattle.sql_front.specs.Tree.{Opt, sized, used, Options, first_option, next_option, Optioned, no_options, options, Query, bare_query, ended_query}

-- these marks are the beginning of a query's
abbrev Completes : Marks → Type 0
Completes begun = (tree : Query) × (rest : Marks) × (spell tree ≡ begun ++ rest)

longer : (begun more whole : Marks) → whole ≡ begun ++ more → Completes whole → Completes begun
longer begun more whole is all = (all.0, more ++ all.1, all.2 ∙ rw is (append_assoc begun more all.1))

-- ---- what the rest is made of

abbrev a_name : NameAt
a_name = record { letters = []; at = 0 }

abbrev a_number : NumberAt
a_number = record { value = 0; at = 0 }

abbrev a_column : Column
a_column = plain a_name

abbrev a_table : FromTable
a_table = bare a_name

abbrev a_side : Side
a_side = positive a_number

abbrev a_unit : UnitTree
a_unit = compare a_side op.Equal 0 a_side

abbrev a_cond : CondTree
a_cond = one_conj (one_unit a_unit)

-- ---- a query's beginnings, the whole one first

with_optioned : (p : Optioned) → Completes (spell_optioned p)
with_optioned p = (bare_query p, the w.End ∷ [], refl)

with_limited : (l : Limited) → Completes (spell_limited l)
with_limited l = with_optioned (no_options l)

with_options : (os : Options) → Completes (spell_options os)
with_options os = longer (spell_options os) (the w.Close ∷ []) _ refl (with_optioned (options os))

with_order : (o : Order) → Completes (spell_order o)
with_order o = with_limited (no_limit o)

with_keys : (ys : Keys) → Completes (spell_keys ys)
with_keys ys = with_order (order_by ys)

with_group : (g : Group) → Completes (spell_group g)
with_group g = with_order (no_order g)

with_columns : (cs : Columns) → Completes (spell_columns cs)
with_columns cs = with_group (group_by cs)

with_where : (h : Where) → Completes (spell_where h)
with_where h = with_group (no_group h)

with_from : (f : From) → Completes (spell_from f)
with_from f = with_where (no_where f)

with_before : (b : Before) → Completes (spell_before b)
with_before b = longer (spell_before b) (spell_table (tables_before b) a_table) _ refl (with_from (table b a_table))

with_items : (i : Items) → Completes (spell_items i)
with_items i = longer (spell_items i) (the (w.Word kw.From) ∷ []) _ refl (with_before (from i))

with_list : (is : ItemList) → Completes (spell_list is)
with_list is = with_items (listed is)

with_select : (s : Select) → Completes (spell_select s)
with_select s = longer (spell_select s) (the (w.Star 0) ∷ []) _ refl (with_items (every_column s 0))

with_start : (s : Start) → Completes (spell_start s)
with_start s = longer (spell_start s) (the (w.Select 0) ∷ []) _ refl (with_select (all_rows s 0))

-- ---- a part behind what waits for it

mutual
  with_unit : (t : UnitTree) (k : UnitK) → Completes (said_unit k ++ spell_unit (open_unit k) t)
  with_unit t (not_k k) = longer _ [] _ (simp (append_assoc, append-nil) refl) (with_unit (negation t) k)
  with_unit t (first_k k) = with_conj (one_unit t) k
  with_unit t (and_k c k) = longer _ [] _ (simp (append_assoc, append-nil) refl) (with_conj (and_unit c t) k)

  with_conj : (c : ConjTree) (k : ConjK) → Completes (said_conj k ++ spell_conj (open_conj k) c)
  with_conj c (only_k k) = with_cond (one_conj c) k
  with_conj c (or_k d k) = longer _ [] _ (simp (append_assoc, append-nil) refl) (with_cond (or_conj d c) k)

  with_cond : (c : CondTree) (k : CondK) → Completes (said_cond k ++ spell_cond (open_cond k) c)
  with_cond c (paren_k k) = longer _ (the w.Close ∷ []) _ (simp append_assoc refl) (with_unit (group c) k)
  with_cond c (on_k f j t) = longer _ [] _ (simp (append_assoc, append-nil) refl) (with_from (joined f j t c))
  with_cond c (where_k f) = longer _ [] _ (simp (append_assoc, append-nil) refl) (with_where (some_where f c))

with_sides : (l : Side) (sign : Comparison) (at : ℕ) (r : Side) (k : UnitK)
    → Completes (said_unit k ++ (spell_side l ++ the (w.Sign sign at) ∷ spell_side r))
with_sides l sign at r k = with_unit (compare l sign at r) k

with_side : (side : Side) (k : SideK) → Completes (said_side k ++ spell_side side)
with_side side (left_k k) = longer _ (the (w.Sign op.Equal 0) ∷ spell_side a_side) _ (simp append_assoc refl) (with_sides side op.Equal 0 a_side k)
with_side side (right_k l sign at k) = longer _ [] _ (simp (append_assoc, append-nil) refl) (with_sides l sign at side k)

with_item : (i : Item) (k : ItemK) → Completes (said_item k ++ spell_item i)
with_item i (first_item_k s) = with_list (first_item s i)
with_item i (next_item_k is) = longer _ [] _ (simp (append_assoc, append-nil) refl) (with_list (next_item is i))

with_table : (t : FromTable) (k : TableK) → Completes (said_table k ++ spell_table (tables_behind k) t)
with_table t (before_k b) = with_from (table b t)
with_table t (join_k f j) = longer _ (the (w.Word kw.On) ∷ spell_cond 0 a_cond) _ (simp append_assoc refl) (with_from (joined f j t a_cond))

with_grouped : (c : Column) (k : GroupK) → Completes (said_group k ++ spell_column c)
with_grouped c (first_group_k h) = longer _ [] _ (simp (append_assoc, append-nil) refl) (with_columns (first_column h c))
with_grouped c (next_group_k cs) = longer _ [] _ (simp (append_assoc, append-nil) refl) (with_columns (next_column cs c))

with_key : (y : Key) (k : KeyK) → Completes (said_key k ++ spell_key y)
with_key y (first_key_k g) = longer _ [] _ (simp (append_assoc, append-nil) refl) (with_keys (first_key g y))
with_key y (next_key_k ys) = longer _ [] _ (simp (append_assoc, append-nil) refl) (with_keys (next_key ys y))

with_opt : (o : Opt) (k : OptK) → Completes (said_opt k ++ spell_opt o)
with_opt o (first_opt_k l) = longer _ [] _ (simp (append_assoc, append-nil) refl) (with_options (first_option l o))
with_opt o (next_opt_k os) = longer _ [] _ (simp (append_assoc, append-nil) refl) (with_options (next_option os o))

with_column : (c : Column) (k : ColumnK) → Completes (said_column k ++ spell_column c)
with_column c (item_k k) = with_item (bare_item c) k
with_column c (fold_k f at k) = longer _ (the w.Close ∷ []) _ (simp append_assoc refl) (with_item (fold_item f at c) k)
with_column c (side_k k) = with_side (named c) k
with_column c (group_k k) = with_grouped c k
with_column c (key_k k) = with_key (unsaid (by_column c)) k

-- where JOIN is wanted
with_join : (f : From) (j : Join) → Completes (said_join f j)
with_join f inner = with_from f
with_join f (semi left place) = longer _ (the (w.Word kw.Join) ∷ spell_table (tables_from f) a_table) _ (simp append_assoc refl) (with_table a_table (join_k f (semi left place)))
with_join f (anti left place) = longer _ (the (w.Word kw.Join) ∷ spell_table (tables_from f) a_table) _ (simp append_assoc refl) (with_table a_table (join_k f (anti left place)))

-- ---- each state

pub completed : (st : State) → (tree : Query) × (rest : Marks) × (spell tree ≡ said st ++ rest)
completed (want_select s) = with_start s
completed (selected s at) = with_select (all_rows s at)
completed (want_item k) = longer (said_item k) _ _ refl (with_item (bare_item a_column) k)
completed (counted k) = longer _ (the w.Open ∷ the (w.Star 0) ∷ the w.Close ∷ []) _ (simp append_assoc refl) (with_item (count_item 0) k)
completed (count_open k) = longer _ (the (w.Star 0) ∷ the w.Close ∷ []) _ (simp append_assoc refl) (with_item (count_item 0) k)
completed (count_star k at) = longer _ (the w.Close ∷ []) _ (simp append_assoc refl) (with_item (count_item at) k)
completed (folded f at k) = longer _ (the w.Open ∷ (spell_column a_column ++ the w.Close ∷ [])) _ (simp append_assoc refl) (with_item (fold_item f at a_column) k)
completed (after_star s at) = with_items (every_column s at)
completed (after_items is) = with_list is
completed (want_table k) = longer (said_table k) _ _ refl (with_table a_table k)
completed (after_table t k) = with_table t k
completed (as_word n k) = longer _ (the_name a_name ∷ []) _ (simp append_assoc refl) (with_table (renamed_as n a_name) k)
completed (left_word f left) = longer _ (the_word u.Semi 0 ∷ []) _ (simp append_assoc refl) (with_join f (semi left 0))
completed (join_word f j) = with_join f j
completed (union_word g union) = longer _ (the_word u.All 0 ∷ []) _ (simp append_assoc refl) (with_start (union_all g union 0))
completed (want k) = longer (said_unit k) _ _ refl (with_unit a_unit k)
completed (negated at k) = longer _ (the_number (not (wide true 0)) a_number ∷ []) _ (simp append_assoc refl) (with_side (negative at a_number) k)
completed (beside l k) = with_side l (left_k k)
completed (right l sign at k) = longer (said_side (right_k l sign at k)) _ _ refl (with_side a_side (right_k l sign at k))
completed (after c k) = with_conj c k
completed (want_column k) = longer (said_column k) _ _ refl (with_column a_column k)
completed (after_column c k) = with_column c k
completed (after_dot t k) = longer _ (the_name a_name ∷ []) _ (simp append_assoc refl) (with_column (dotted t a_name) k)
completed (group_word h) = longer _ (the (w.Word kw.By) ∷ spell_column a_column) _ (simp append_assoc refl) (with_columns (first_column h a_column))
completed (order_word g) = longer _ (the (w.Word kw.By) ∷ spell_column a_column) _ (simp append_assoc refl) (with_keys (first_key g (unsaid (by_column a_column))))
completed (want_key k) = longer (said_key k) _ _ refl (with_key (unsaid (by_column a_column)) k)
completed (after_number n k) = with_key (unsaid (by_number n)) k
completed (after_keys ys) = with_keys ys
completed (limit_word o) = longer _ (the_number (fits_limit 0) a_number ∷ []) _ (simp append_assoc refl) (with_limited (limit o a_number))
completed (after_limit o n) = with_limited (limit o n)
completed (option_word l) = longer _ (the w.Open ∷ spell_opt (used 0 m.Block 0)) _ (simp append_assoc refl) (with_options (first_option l (used 0 m.Block 0)))
completed (want_opt k) = longer (said_opt k) _ _ refl (with_opt (used 0 m.Block 0) k)
completed (sized_word setting at k) = longer _ (the_number (fits_setting setting 0) a_number ∷ []) _ (simp append_assoc refl) (with_opt (sized setting at a_number) k)
completed (used_word at k) = longer _ (the_word u.Block 0 ∷ []) _ (simp append_assoc refl) (with_opt (used at m.Block 0) k)
completed (after_opts os) = with_options os
completed (after_options os) = with_optioned (options os)
completed (after_semicolon p) = (ended_query p, the w.End ∷ [], sym (append_assoc (spell_optioned p) (the w.Semicolon ∷ []) (the w.End ∷ [])))
completed (ended q) = (q, [], sym (append-nil (spell q)))

-- ---- the first state and the last

pub said_start : said begin ≡ []
said_start = refl

pub said_ended : (q : Query) → said (ended q) ≡ spell q
said_ended q = refl
