-- A step adds its token to what a state says of the tokens before it, and the state behind it knows whether that was a `-`.
use Rattle.std.specs.Prelude.{◌≡◌, ℕ, Bool, true, List, [], ◌∷◌, ◌++◌, Option, Some, None, IfSome}
use Rattle.std.proofs.Common.{refl, sym, ap, ◌∙◌, subst, append_assoc}
use Rattle.std.proofs.lemmas.Option.{IfSome_then}
use Rattle.sql_tokens.specs.declared.token.Keyword.TheVariants as kw
use Rattle.sql_front.proofs.Unreserved.{Names, unreserved-names}
use Rattle.sql_front.specs.declared.words.Aggregate.{Aggregate}
use Rattle.sql_front.specs.declared.words.Method.{Method}
use Rattle.sql_front.specs.declared.words.Method.TheVariants as m
use Rattle.sql_front.specs.declared.words.Unreserved.{Unreserved}
use Rattle.sql_front.specs.declared.words.Unreserved.TheVariants as u
use Rattle.sql_front.specs.Machine.{UnitK, not_k, first_k, and_k, ConjK, only_k, or_k, CondK, paren_k, on_k, where_k, SideK, left_k, right_k, ItemK, first_item_k, next_item_k}
use Rattle.sql_front.specs.Machine.{TableK, before_k, join_k, GroupK, first_group_k, next_group_k, KeyK, first_key_k, next_key_k, OptK, first_opt_k, next_opt_k}
use Rattle.sql_front.specs.Machine.{ColumnK, item_k, fold_k, side_k, group_k, key_k, State, want_select, selected, want_item, counted, count_open, count_star, folded}
use Rattle.sql_front.specs.Machine.{after_star, after_items, want_table, after_table, as_word, left_word, join_word, union_word, want, negated, beside, right, after}
use Rattle.sql_front.specs.Machine.{want_column, after_column, after_dot, group_word, order_word, want_key, after_number, after_keys, limit_word, after_limit}
use Rattle.sql_front.specs.Machine.{option_word, want_opt, sized_word, used_word, after_opts, after_options, after_semicolon, ended, open_unit, open_conj, open_cond, tables_behind}
use Rattle.sql_front.specs.Machine.{add_item, add_column, add_key, add_opt, give, behind, behind_side, joined_cond, below, begin, step, sign_place_of, limits}
use Rattle.sql_front.specs.Machine.{more_optioned, more_limited, more_order, begin_union, more_group, more_where, begin_left, more_from, follow_cond, follow_conj, follow_left, follow_side}
use Rattle.sql_front.specs.Machine.{follow_items, follow_columns, follow_keys, follow_key, follow_fold, follow_column, begin_dotted, begin_as, begin_more, follow_named, begin_on, behind_table}
use Rattle.sql_front.specs.Machine.{follow_table, begin_join, begin_select, begin_star, begin_item, begin_side, begin_unit, begin_key, begin_opt, method_of, use_method, follow_opts}
use Rattle.sql_front.specs.Said.{said, said_unit, said_conj, said_cond, said_side, said_item, said_table, said_key, said_opt, said_column}
use Rattle.sql_front.specs.Seen.{Seen, minus_of}
use Rattle.sql_front.specs.Seen as w
use Rattle.sql_front.specs.Spell.{Marks, the, spell_side, spell_column, spell_unit, spell_conj, spell_cond, spell_item, spell_table, spell_list, spell_from, spell_where}
use Rattle.sql_front.specs.Spell.{method_word, spell_columns, spell_group, spell_key_of, spell_key, spell_keys, spell_order, spell_limited, spell_opt, spell_options, spell_optioned}
use Rattle.sql_front.specs.Tree.{NameAt, Column, plain, dotted, Side, named, positive, negative, quoted, UnitTree, negation, group, compare, ConjTree, CondTree, Item, bare_item, count_item, fold_item}
use Rattle.sql_front.specs.Tree.{FromTable, bare, renamed, renamed_as, Join, inner, semi, anti, ItemList, Before, From, table, joined, Where, no_where, some_where, Columns, Group, no_group, group_by}
use Rattle.sql_front.specs.Tree.{KeyOf, by_column, by_number, unsaid, ascending, descending, all_rows, Key, Keys, Order, no_order, order_by, Limited, no_limit, limit, Opt, sized, used, Options, Optioned, no_options, options, Query}
use Rattle.sql_front.specs.Words.{spelled, unreserved}

-- whether a state allows a token that no limit of its own speaks of
abbrev plainly : Seen → Bool
plainly = limits begin

-- The state behind a token, if there is one, says the token, so allowed, behind what was said before it, and knows whether it
-- is a `-`.
abbrev Adds : Option State → Marks → Seen → Bool → Type 0
Adds next before t bit = IfSome next (λ st. (said st ≡ before ++ (t, bit) ∷ []) × (sign_place_of st ≡ minus_of t))

-- the same behind marks that are the same
behind_same : (next : Option State) (t : Seen) (before same : Marks) → before ≡ same → Adds next same t (plainly t) → Adds next before t (plainly t)
behind_same next t before same is known = subst (λ marks. Adds next marks t (plainly t)) (sym is) known

-- ---- what waits, with what it waited for

said_give : (k : UnitK) (u : UnitTree) → said (behind (give k u)) ≡ said_unit k ++ spell_unit (open_unit k) u
said_give (not_k k) u = said_give k (negation u) ∙ simp append_assoc refl
said_give (first_k k) u = refl
said_give (and_k c k) u = simp append_assoc refl

said_behind_side : (k : SideK) (side : Side) → said (behind_side side k) ≡ said_side k ++ spell_side side
said_behind_side (left_k k) side = refl
said_behind_side (right_k l op at k) side = said_give k (compare l op at side) ∙ simp append_assoc refl

sign_behind_side : (k : SideK) (side : Side) → sign_place_of (behind_side side k) ≡ None
sign_behind_side (left_k k) side = refl
sign_behind_side (right_k l op at k) side = refl

said_joined : (c : ConjTree) (k : ConjK) → said_conj k ++ spell_conj (open_conj k) c ≡ said_cond (below k) ++ spell_cond (open_cond (below k)) (joined_cond c k)
said_joined c (only_k k) = refl
said_joined c (or_k d k) = simp append_assoc refl

said_add_item : (k : ItemK) (i : Item) → said_item k ++ spell_item i ≡ spell_list (add_item k i)
said_add_item (first_item_k s) i = refl
said_add_item (next_item_k is) i = simp append_assoc refl

said_add_column : (k : GroupK) (c : Column) → said_column (group_k k) ++ spell_column c ≡ spell_columns (add_column k c)
said_add_column (first_group_k h) c = simp append_assoc refl
said_add_column (next_group_k cs) c = simp append_assoc refl

said_add_key : (k : KeyK) (y : Key) → said_key k ++ spell_key y ≡ spell_keys (add_key k y)
said_add_key (first_key_k g) y = simp append_assoc refl
said_add_key (next_key_k ys) y = simp append_assoc refl

said_add_opt : (k : OptK) (o : Opt) → said_opt k ++ spell_opt o ≡ spell_options (add_opt k o)
said_add_opt (first_opt_k l) o = simp append_assoc refl
said_add_opt (next_opt_k os) o = simp append_assoc refl

-- ---- what may follow a query's beginning

more_optioned-adds : (p : Optioned) (t : Seen) → Adds (more_optioned p t) (spell_optioned p) t (plainly t)
more_optioned-adds p w.Semicolon = (refl, refl)
more_optioned-adds p w.End = (refl, refl)
more_optioned-adds p _ = tt

more_limited-adds : (l : Limited) (t : Seen) → Adds (more_limited l t) (spell_limited l) t (plainly t)
more_limited-adds l (w.Word kw.Option) = (refl, refl)
more_limited-adds l t = more_optioned-adds (no_options l) t

more_order-adds : (o : Order) (t : Seen) → Adds (more_order o t) (spell_order o) t (plainly t)
more_order-adds o (w.Word kw.Limit) = (refl, refl)
more_order-adds o t = more_limited-adds (no_limit o) t

begin_union-adds : (g : Group) (x : List ℕ) (at : ℕ) (word : Option Unreserved) → Names x word → Adds (begin_union g at word) (spell_group g) (w.Name x at) true
begin_union-adds g x at (Some u.Union) is = (rw is refl, refl)
begin_union-adds g x at _ is = tt

more_group-adds : (g : Group) (t : Seen) → Adds (more_group g t) (spell_group g) t (plainly t)
more_group-adds g (w.Word kw.Order) = (refl, refl)
more_group-adds g (w.Name x at) = begin_union-adds g x at (unreserved x) (unreserved-names x)
more_group-adds g t = more_order-adds (no_order g) t

more_where-adds : (h : Where) (t : Seen) → Adds (more_where h t) (spell_where h) t (plainly t)
more_where-adds h (w.Word kw.Group) = (refl, refl)
more_where-adds h t = more_group-adds (no_group h) t

begin_left-adds : (f : From) (x : List ℕ) (at : ℕ) (word : Option Unreserved) → Names x word → Adds (begin_left f at word) (spell_from f) (w.Name x at) true
begin_left-adds f x at (Some u.Left) is = (rw is refl, refl)
begin_left-adds f x at word is = begin_union-adds (no_group (no_where f)) x at word is

more_from-adds : (f : From) (t : Seen) → Adds (more_from f t) (spell_from f) t (plainly t)
more_from-adds f w.Comma = (refl, refl)
more_from-adds f (w.Word kw.Join) = (refl, refl)
more_from-adds f (w.Word kw.Where) = (refl, refl)
more_from-adds f (w.Name x at) = begin_left-adds f x at (unreserved x) (unreserved-names x)
more_from-adds f t = more_where-adds (no_where f) t

-- ---- behind a part

follow_cond-adds : (k : CondK) (c : CondTree) (t : Seen) → Adds (follow_cond k c t) (said_cond k ++ spell_cond (open_cond k) c) t (plainly t)
follow_cond-adds (paren_k k) c w.Close = (said_give k (group c) ∙ simp append_assoc refl, refl)
follow_cond-adds (paren_k k) c _ = tt
follow_cond-adds (on_k f j t) c s = behind_same _ s _ _ (simp append_assoc refl) (more_from-adds (joined f j t c) s)
follow_cond-adds (where_k f) c s = behind_same _ s _ _ (simp append_assoc refl) (more_where-adds (some_where f c) s)

follow_conj-adds : (c : ConjTree) (k : ConjK) (t : Seen) → Adds (follow_conj c k t) (said_conj k ++ spell_conj (open_conj k) c) t (plainly t)
follow_conj-adds c k (w.Word kw.And) = (simp append_assoc refl, refl)
follow_conj-adds c k (w.Word kw.Or) = (sym (ap (λ marks. marks ++ the (w.Word kw.Or) ∷ []) (said_joined c k) ∙ simp append_assoc refl), refl)
follow_conj-adds c k t = behind_same _ t _ _ (said_joined c k) (follow_cond-adds (below k) (joined_cond c k) t)

follow_left-adds : (l : Side) (k : UnitK) (t : Seen) → Adds (follow_left l k t) (said_unit k ++ spell_side l) t (plainly t)
follow_left-adds l k (w.Sign op at) = (simp append_assoc refl, refl)
follow_left-adds l k _ = tt

follow_side-adds : (side : Side) (k : SideK) (t : Seen) → Adds (follow_side side k t) (said_side k ++ spell_side side) t (plainly t)
follow_side-adds side (left_k k) t = follow_left-adds side k t
follow_side-adds side (right_k l op at k) t =
    behind_same _ t _ _ (sym (said_behind_side (right_k l op at k) side)) (follow_conj-adds (give k (compare l op at side)).0 (give k (compare l op at side)).1 t)

follow_items-adds : (is : ItemList) (t : Seen) → Adds (follow_items is t) (spell_list is) t (plainly t)
follow_items-adds is w.Comma = (refl, refl)
follow_items-adds is (w.Word kw.From) = (refl, refl)
follow_items-adds is _ = tt

follow_columns-adds : (cs : Columns) (t : Seen) → Adds (follow_columns cs t) (spell_columns cs) t (plainly t)
follow_columns-adds cs w.Comma = (refl, refl)
follow_columns-adds cs t = more_group-adds (group_by cs) t

follow_keys-adds : (ys : Keys) (t : Seen) → Adds (follow_keys ys t) (spell_keys ys) t (plainly t)
follow_keys-adds ys w.Comma = (refl, refl)
follow_keys-adds ys t = more_order-adds (order_by ys) t

follow_key-adds : (k : KeyK) (y : KeyOf) (t : Seen) → Adds (follow_key k y t) (said_key k ++ spell_key_of y) t (plainly t)
follow_key-adds k y (w.Word kw.Asc) = (sym (said_add_key k (ascending y)) ∙ simp append_assoc refl, refl)
follow_key-adds k y (w.Word kw.Desc) = (sym (said_add_key k (descending y)) ∙ simp append_assoc refl, refl)
follow_key-adds k y t = behind_same (follow_keys (add_key k (unsaid y)) t) t _ _ (said_add_key k (unsaid y)) (follow_keys-adds (add_key k (unsaid y)) t)

follow_fold-adds : (f : Aggregate) (at : ℕ) (k : ItemK) (c : Column) (t : Seen)
    → Adds (follow_fold (add_item k (fold_item f at c)) t) (said_column (fold_k f at k) ++ spell_column c) t (plainly t)
follow_fold-adds f at k c w.Close = (sym (said_add_item k (fold_item f at c)) ∙ simp append_assoc refl, refl)
follow_fold-adds f at k c _ = tt

follow_column-adds : (k : ColumnK) (c : Column) (t : Seen) → Adds (follow_column k c t) (said_column k ++ spell_column c) t (plainly t)
follow_column-adds (item_k k) c t = behind_same _ t _ _ (said_add_item k (bare_item c)) (follow_items-adds (add_item k (bare_item c)) t)
follow_column-adds (fold_k f at k) c t = follow_fold-adds f at k c t
follow_column-adds (side_k k) c t = follow_side-adds (named c) k t
follow_column-adds (group_k k) c t = behind_same _ t _ _ (said_add_column k c) (follow_columns-adds (add_column k c) t)
follow_column-adds (key_k k) c t = follow_key-adds k (by_column c) t

begin_dotted-adds : (c : Column) (k : ColumnK) → Adds (begin_dotted c k) (said_column k ++ spell_column c) w.Dot true
begin_dotted-adds (plain n) k = (simp append_assoc refl, refl)
begin_dotted-adds (dotted t n) k = tt

follow_opts-adds : (os : Options) (t : Seen) → Adds (follow_opts os t) (spell_options os) t (plainly t)
follow_opts-adds os w.Comma = (refl, refl)
follow_opts-adds os w.Close = (refl, refl)
follow_opts-adds os _ = tt

-- ---- behind a table

begin_as-adds : (t : FromTable) (k : TableK) → Adds (begin_as t k) (said_table k ++ spell_table (tables_behind k) t) (w.Word kw.As) true
begin_as-adds (bare n) k = (simp append_assoc refl, refl)
begin_as-adds _ k = tt

begin_more-adds : (b : Before) (n m : NameAt) (second : Option Unreserved) (x : List ℕ) (at : ℕ) (word : Option Unreserved) → Names m.letters second → Names x word
    → Adds (begin_more b n m second at word) (spell_from (table b (renamed n m))) (w.Name x at) true
begin_more-adds b n m (Some u.Left) x at (Some u.Semi) was is = (rw (was, is) (simp append_assoc refl), refl)
begin_more-adds b n m (Some u.Left) x at (Some u.Anti) was is = (rw (was, is) (simp append_assoc refl), refl)
begin_more-adds b n m (Some u.Union) x at (Some u.All) was is = (rw (was, is) (simp append_assoc refl), refl)
begin_more-adds b n m _ x at word was is = begin_left-adds (table b (renamed n m)) x at word is

follow_named-adds : (t : FromTable) (k : TableK) (x : List ℕ) (at : ℕ) → Adds (follow_named t k x at) (said_table k ++ spell_table (tables_behind k) t) (w.Name x at) true
follow_named-adds (bare n) k x at = (simp append_assoc refl, refl)
follow_named-adds (renamed n m) (before_k b) x at = begin_more-adds b n m (unreserved m.letters) x at (unreserved x) (unreserved-names m.letters) (unreserved-names x)
follow_named-adds (renamed_as n m) (before_k b) x at = begin_left-adds (table b (renamed_as n m)) x at (unreserved x) (unreserved-names x)
follow_named-adds _ (join_k f j) x at = tt

begin_on-adds : (t : FromTable) (f : From) (j : Join) (s : Seen) → Adds (begin_on t f j s) (said_table (join_k f j) ++ spell_table (tables_behind (join_k f j)) t) s (plainly s)
begin_on-adds t f j (w.Word kw.On) = (simp append_assoc refl, refl)
begin_on-adds t f j _ = tt

behind_table-adds : (t : FromTable) (k : TableK) (s : Seen) → Adds (behind_table t k s) (said_table k ++ spell_table (tables_behind k) t) s (plainly s)
behind_table-adds t (before_k b) s = more_from-adds (table b t) s
behind_table-adds t (join_k f j) s = begin_on-adds t f j s

follow_table-adds : (t : FromTable) (k : TableK) (s : Seen) → Adds (follow_table t k s) (said_table k ++ spell_table (tables_behind k) t) s (plainly s)
follow_table-adds t k (w.Name x at) = follow_named-adds t k x at
follow_table-adds t k (w.Word kw.As) = begin_as-adds t k
follow_table-adds t k s = behind_table-adds t k s

-- ---- at words that are names elsewhere

begin_join-adds : (f : From) (left : ℕ) (x : List ℕ) (at : ℕ) (word : Option Unreserved) → Names x word → Adds (begin_join f left at word) (said (left_word f left)) (w.Name x at) true
begin_join-adds f left x at (Some u.Semi) is = (rw is (simp append_assoc refl), refl)
begin_join-adds f left x at (Some u.Anti) is = (rw is (simp append_assoc refl), refl)
begin_join-adds f left x at _ is = tt

begin_select-adds : (g : Group) (union : ℕ) (x : List ℕ) (at : ℕ) (word : Option Unreserved) → Names x word
    → Adds (begin_select g union at word) (said (union_word g union)) (w.Name x at) true
begin_select-adds g union x at (Some u.All) is = (rw is (simp append_assoc refl), refl)
begin_select-adds g union x at _ is = tt

begin_opt-adds : (k : OptK) (x : List ℕ) (at : ℕ) (word : Option Unreserved) → Names x word → Adds (begin_opt k at word) (said_opt k) (w.Name x at) true
begin_opt-adds k x at (Some u.Block) is = (rw is refl, refl)
begin_opt-adds k x at (Some u.Parts) is = (rw is refl, refl)
begin_opt-adds k x at (Some u.Sort) is = (rw is refl, refl)
begin_opt-adds k x at (Some u.Use) is = (rw is refl, refl)
begin_opt-adds k x at _ is = tt

said_used : (k : OptK) (at : ℕ) (method : Method) (place : ℕ) (x : List ℕ) → x ≡ spelled (method_word method)
    → spell_options (add_opt k (used at method place)) ≡ said (used_word at k) ++ (w.Name x place, true) ∷ []
said_used k at method place x is = rw is (sym (said_add_opt k (used at method place)) ∙ simp append_assoc refl)

use_method-adds : (k : OptK) (at : ℕ) (x : List ℕ) (place : ℕ) (word : Option Unreserved) → Names x word
    → Adds (use_method k at place (method_of word)) (said (used_word at k)) (w.Name x place) true
use_method-adds k at x place (Some u.Block) is = (said_used k at m.Block place x is, refl)
use_method-adds k at x place (Some u.Index) is = (said_used k at m.Index place x is, refl)
use_method-adds k at x place (Some u.Merge) is = (said_used k at m.Merge place x is, refl)
use_method-adds k at x place (Some u.Hash) is = (said_used k at m.Hash place x is, refl)
use_method-adds k at x place _ is = tt

-- ---- where a part is wanted

begin_star-adds : (k : ItemK) (at : ℕ) → Adds (begin_star k at) (said_item k) (w.Star at) true
begin_star-adds (first_item_k s) at = (refl, refl)
begin_star-adds (next_item_k is) at = tt

begin_item-adds : (k : ItemK) (t : Seen) → Adds (begin_item k t) (said_item k) t (plainly t)
begin_item-adds k (w.Name x at) = (refl, refl)
begin_item-adds k (w.Word kw.Count) = (refl, refl)
begin_item-adds k (w.Fold f at) = (refl, refl)
begin_item-adds k (w.Star at) = begin_star-adds k at
begin_item-adds k _ = tt

begin_side-adds : (k : SideK) (t : Seen) → Adds (begin_side k t) (said_side k) t (plainly t)
begin_side-adds k (w.Name x at) = (refl, refl)
begin_side-adds k (w.Number n at) = let side = positive (record { value = n; at = at }) in (said_behind_side k side, sign_behind_side k side)
begin_side-adds k (w.Minus at) = (refl, refl)
begin_side-adds k (w.Text bytes) = (said_behind_side k (quoted bytes), sign_behind_side k (quoted bytes))
begin_side-adds k _ = tt

begin_unit-adds : (k : UnitK) (t : Seen) → Adds (begin_unit k t) (said_unit k) t (limits (want k) t)
begin_unit-adds k (w.Word kw.Not) = (refl, refl)
begin_unit-adds k w.Open = (refl, refl)
begin_unit-adds k t = begin_side-adds (left_k k) t

begin_key-adds : (k : KeyK) (t : Seen) → Adds (begin_key k t) (said_key k) t (limits (want_key k) t)
begin_key-adds k (w.Name x at) = (refl, refl)
begin_key-adds k (w.Number n at) = (refl, refl)
begin_key-adds k _ = tt

-- ---- each state

join_word-adds : (f : From) (j : Join) → Adds (step (join_word f j) (w.Word kw.Join)) (said (join_word f j)) (w.Word kw.Join) true
join_word-adds f inner = (refl, refl)
join_word-adds f (semi left place) = (simp append_assoc refl, refl)
join_word-adds f (anti left place) = (simp append_assoc refl, refl)

negated-adds : (at : ℕ) (k : SideK) (n place : ℕ) → Adds (step (negated at k) (w.Number n place)) (said (negated at k)) (w.Number n place) (limits (negated at k) (w.Number n place))
negated-adds at k n place = let side = negative at (record { value = n; at = place }) in (said_behind_side k side ∙ simp append_assoc refl, sign_behind_side k side)

adds : (st : State) (t : Seen) → Adds (step st t) (said st) t (limits st t)
adds (want_select s) (w.Select at) = (refl, refl)
adds (selected s at) (w.Word kw.Distinct) = (simp append_assoc refl, refl)
adds (selected s at) t = begin_item-adds (first_item_k (all_rows s at)) t
adds (want_item k) t = begin_item-adds k t
adds (counted k) w.Open = (simp append_assoc refl, refl)
adds (count_open k) (w.Star at) = (simp append_assoc refl, refl)
adds (count_star k at) w.Close = (sym (said_add_item k (count_item at)) ∙ simp append_assoc refl, refl)
adds (folded f at k) w.Open = (simp append_assoc refl, refl)
adds (after_star s at) (w.Word kw.From) = (refl, refl)
adds (after_items is) t = follow_items-adds is t
adds (want_table k) (w.Name x at) = (refl, refl)
adds (after_table t k) s = follow_table-adds t k s
adds (as_word n k) (w.Name x at) = (simp append_assoc refl, refl)
adds (left_word f left) (w.Name x at) = begin_join-adds f left x at (unreserved x) (unreserved-names x)
adds (join_word f j) (w.Word kw.Join) = join_word-adds f j
adds (union_word g union) (w.Name x at) = begin_select-adds g union x at (unreserved x) (unreserved-names x)
adds (want k) t = begin_unit-adds k t
adds (negated at k) (w.Number n place) = negated-adds at k n place
adds (beside l k) t = follow_left-adds l k t
adds (right l op at k) t = begin_side-adds (right_k l op at k) t
adds (after c k) t = follow_conj-adds c k t
adds (want_column k) (w.Name x at) = (refl, refl)
adds (after_column c k) w.Dot = begin_dotted-adds c k
adds (after_column c k) t = follow_column-adds k c t
adds (after_dot t k) (w.Name x at) = (simp append_assoc refl, refl)
adds (group_word h) (w.Word kw.By) = (simp append_assoc refl, refl)
adds (order_word g) (w.Word kw.By) = (simp append_assoc refl, refl)
adds (want_key k) t = begin_key-adds k t
adds (after_number n k) t = follow_key-adds k (by_number n) t
adds (after_keys ys) t = follow_keys-adds ys t
adds (limit_word o) (w.Number n at) = (simp append_assoc refl, refl)
adds (after_limit o n) t = more_limited-adds (limit o n) t
adds (option_word l) w.Open = (simp append_assoc refl, refl)
adds (want_opt k) (w.Name x at) = begin_opt-adds k x at (unreserved x) (unreserved-names x)
adds (sized_word setting at k) (w.Number n place) = (sym (said_add_opt k (sized setting at (record { value = n; at = place }))) ∙ simp append_assoc refl, refl)
adds (used_word at k) (w.Name x place) = use_method-adds k at x place (unreserved x) (unreserved-names x)
adds (after_opts os) t = follow_opts-adds os t
adds (after_options os) t = more_optioned-adds (options os) t
adds (after_semicolon p) w.End = (simp append_assoc refl, refl)
adds _ _ = tt

-- ---- the laws

pub says : (st : State) (t : Seen) → IfSome (step st t) (λ next. said next ≡ said st ++ (t, limits st t) ∷ [])
says st t = IfSome_then (step st t) (adds st t) (λ next both. both.0)

-- the state behind a `-` knows its place, and no other state knows one
pub signs : (st : State) (t : Seen) → IfSome (step st t) (λ next. sign_place_of next ≡ minus_of t)
signs st t = IfSome_then (step st t) (adds st t) (λ next both. both.1)

pub ended_once : (tree other : Query) → ended tree ≡ ended other → tree ≡ other
ended_once tree other is = cc
