-- What a state says of the tokens before it.
use Rattle.std.specs.Prelude.{[], ◌∷◌, ◌++◌}
use Rattle.sql_tokens.specs.declared.token.Keyword.TheVariants as kw
use Rattle.sql_front.specs.declared.words.Unreserved.TheVariants as u
use Rattle.sql_front.specs.Machine.{UnitK, not_k, first_k, and_k, ConjK, only_k, or_k, CondK, paren_k, on_k, where_k, SideK, left_k, right_k, ItemK, first_item_k, next_item_k}
use Rattle.sql_front.specs.Machine.{TableK, before_k, join_k, GroupK, first_group_k, next_group_k, KeyK, first_key_k, next_key_k, OptK, first_opt_k, next_opt_k}
use Rattle.sql_front.specs.Machine.{ColumnK, item_k, fold_k, side_k, group_k, key_k, State, want_select, selected, want_item, counted, count_open, count_star, folded}
use Rattle.sql_front.specs.Machine.{after_star, after_items, want_table, after_table, as_word, left_word, join_word, union_word, want, negated, beside, right, after}
use Rattle.sql_front.specs.Machine.{want_column, after_column, after_dot, group_word, order_word, want_key, after_number, after_keys, limit_word, after_limit}
use Rattle.sql_front.specs.Machine.{option_word, want_opt, sized_word, used_word, after_opts, after_options, after_semicolon, ended, open_unit, open_conj, open_cond, tables_behind}
use Rattle.sql_front.specs.Seen as w
use Rattle.sql_front.specs.Spell.{Marks, the, the_name, the_word, the_number, may_open, fits_key, setting_word, spell, spell_side, spell_column, spell_conj, spell_cond}
use Rattle.sql_front.specs.Spell.{spell_join, spell_table, spell_start, spell_select, spell_list, spell_before, spell_from, spell_where, spell_columns, spell_group}
use Rattle.sql_front.specs.Spell.{spell_keys, spell_order, spell_limited, spell_options, spell_optioned, tables_from}
use Rattle.sql_front.specs.Tree.{From, Join, inner, semi, anti, bare, limit}

abbrev mutual
  pub said_unit : UnitK → Marks
  said_unit (not_k k) = said_unit k ++ (w.Word kw.Not, may_open (open_unit k)) ∷ []
  said_unit (first_k k) = said_conj k
  said_unit (and_k c k) = said_conj k ++ (spell_conj (open_conj k) c ++ the (w.Word kw.And) ∷ [])

  pub said_conj : ConjK → Marks
  said_conj (only_k k) = said_cond k
  said_conj (or_k c k) = said_cond k ++ (spell_cond (open_cond k) c ++ the (w.Word kw.Or) ∷ [])

  pub said_cond : CondK → Marks
  said_cond (paren_k k) = said_unit k ++ (w.Open, may_open (open_unit k)) ∷ []
  said_cond (on_k f j t) = spell_from f ++ (spell_join j ++ (spell_table (tables_from f) t ++ the (w.Word kw.On) ∷ []))
  said_cond (where_k f) = spell_from f ++ the (w.Word kw.Where) ∷ []

abbrev pub said_side : SideK → Marks
said_side (left_k k) = said_unit k
said_side (right_k l op at k) = said_unit k ++ (spell_side l ++ the (w.Sign op at) ∷ [])

abbrev pub said_item : ItemK → Marks
said_item (first_item_k s) = spell_select s
said_item (next_item_k is) = spell_list is ++ the w.Comma ∷ []

abbrev pub said_table : TableK → Marks
said_table (before_k b) = spell_before b
said_table (join_k f j) = spell_from f ++ spell_join j

abbrev pub said_group : GroupK → Marks
said_group (first_group_k h) = spell_where h ++ the (w.Word kw.Group) ∷ the (w.Word kw.By) ∷ []
said_group (next_group_k cs) = spell_columns cs ++ the w.Comma ∷ []

abbrev pub said_key : KeyK → Marks
said_key (first_key_k g) = spell_group g ++ the (w.Word kw.Order) ∷ the (w.Word kw.By) ∷ []
said_key (next_key_k ys) = spell_keys ys ++ the w.Comma ∷ []

abbrev pub said_opt : OptK → Marks
said_opt (first_opt_k l) = spell_limited l ++ the (w.Word kw.Option) ∷ the w.Open ∷ []
said_opt (next_opt_k os) = spell_options os ++ the w.Comma ∷ []

abbrev pub said_column : ColumnK → Marks
said_column (item_k k) = said_item k
said_column (fold_k f at k) = said_item k ++ the (w.Fold f at) ∷ the w.Open ∷ []
said_column (side_k k) = said_side k
said_column (group_k k) = said_group k
said_column (key_k k) = said_key k

-- LEFT and SEMI or ANTI, where JOIN is wanted; a plain JOIN is one token, so that nothing of it has been read
abbrev pub said_join : From → Join → Marks
said_join f inner = spell_from f
said_join f (semi left place) = spell_from f ++ the_word u.Left left ∷ the_word u.Semi place ∷ []
said_join f (anti left place) = spell_from f ++ the_word u.Left left ∷ the_word u.Anti place ∷ []

abbrev pub said : State → Marks
said (want_select s) = spell_start s
said (selected s at) = spell_start s ++ the (w.Select at) ∷ []
said (want_item k) = said_item k
said (counted k) = said_item k ++ the (w.Word kw.Count) ∷ []
said (count_open k) = said_item k ++ the (w.Word kw.Count) ∷ the w.Open ∷ []
said (count_star k at) = said_item k ++ the (w.Word kw.Count) ∷ the w.Open ∷ the (w.Star at) ∷ []
said (folded f at k) = said_item k ++ the (w.Fold f at) ∷ []
said (after_star s at) = spell_select s ++ the (w.Star at) ∷ []
said (after_items is) = spell_list is
said (want_table k) = said_table k
said (after_table t k) = said_table k ++ spell_table (tables_behind k) t
said (as_word n k) = said_table k ++ (spell_table (tables_behind k) (bare n) ++ the (w.Word kw.As) ∷ [])
said (left_word f left) = spell_from f ++ the_word u.Left left ∷ []
said (join_word f j) = said_join f j
said (union_word g union) = spell_group g ++ the_word u.Union union ∷ []
said (want k) = said_unit k
said (negated at k) = said_side k ++ the (w.Minus at) ∷ []
said (beside l k) = said_unit k ++ spell_side l
said (right l op at k) = said_unit k ++ (spell_side l ++ the (w.Sign op at) ∷ [])
said (after c k) = said_conj k ++ spell_conj (open_conj k) c
said (want_column k) = said_column k
said (after_column c k) = said_column k ++ spell_column c
said (after_dot t k) = said_column k ++ the_name t ∷ the w.Dot ∷ []
said (group_word h) = spell_where h ++ the (w.Word kw.Group) ∷ []
said (order_word g) = spell_group g ++ the (w.Word kw.Order) ∷ []
said (want_key k) = said_key k
said (after_number n k) = said_key k ++ the_number (fits_key n.value) n ∷ []
said (after_keys ys) = spell_keys ys
said (limit_word o) = spell_order o ++ the (w.Word kw.Limit) ∷ []
said (after_limit o n) = spell_limited (limit o n)
said (option_word l) = spell_limited l ++ the (w.Word kw.Option) ∷ []
said (want_opt k) = said_opt k
said (sized_word setting at k) = said_opt k ++ the_word (setting_word setting) at ∷ []
said (used_word at k) = said_opt k ++ the_word u.Use at ∷ []
said (after_opts os) = spell_options os
said (after_options os) = spell_options os ++ the w.Close ∷ []
said (after_semicolon p) = spell_optioned p ++ the w.Semicolon ∷ []
said (ended q) = spell q
