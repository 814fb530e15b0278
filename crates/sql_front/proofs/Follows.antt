-- A token behind a part of a query is taken as the machine's `more_..` or `follow_..` of that part says, whichever state the
-- part's tree left, if nothing inside the part goes on with it.
use Rattle.std.specs.Prelude.{◌≡◌, ℕ, List, Option, Some}
use Rattle.std.proofs.Common.{refl, ◌∙◌}
use Rattle.sql_tokens.specs.declared.token.Keyword.TheVariants as kw
use Rattle.sql_front.specs.declared.words.Unreserved.{Unreserved}
use Rattle.sql_front.specs.declared.words.Unreserved.TheVariants as u
use Rattle.sql_front.specs.Machine.{CondK, on_k, where_k, SideK, left_k, right_k, ItemK, first_item_k, next_item_k, KeyK, first_key_k, next_key_k, side_k}
use Rattle.sql_front.specs.Machine.{add_item, add_key, begin, after_column, want_table, before_k, left_word, union_word, step, limits}
use Rattle.sql_front.specs.Machine.{follow_cond, follow_items, follow_columns, follow_keys, begin_left, begin_more, behind_side}
use Rattle.sql_front.specs.Machine.{more_from, more_where, more_group, more_order, more_limited, more_optioned}
use Rattle.sql_front.specs.Machine.{behind_cond, behind_from, behind_where, behind_columns, behind_group, behind_key_of, behind_key, behind_keys, behind_order, behind_limited, behind_optioned}
use Rattle.sql_front.specs.Machine.{behind_item, behind_list, behind_items}
use Rattle.sql_front.specs.Seen.{Seen}
use Rattle.sql_front.specs.Seen as w
use Rattle.sql_front.specs.Tree.{NameAt, Column, named, CondTree, one_conj, or_conj, Item, bare_item, count_item, fold_item, bare, renamed, renamed_as}
use Rattle.sql_front.specs.Tree.{ItemList, first_item, next_item, Items, every_column, listed, Before, from, From, table, joined, Where, no_where, some_where, Columns, first_column, next_column}
use Rattle.sql_front.specs.Tree.{Group, no_group, group_by, KeyOf, by_column, by_number, Key, unsaid, ascending, descending, Keys, first_key, next_key, Order, no_order, order_by}
use Rattle.sql_front.specs.Tree.{Limited, no_limit, limit, Optioned, no_options, options}
use Rattle.sql_front.specs.Words.{unreserved}

-- ---- tokens that end a part

-- it goes on with no column
abbrev pub NotDot : Seen → Type 0
NotDot w.Dot = ⊥
NotDot _ = Unit {0}

-- It goes on with no column, condition, table or key, whatever their trees are.
abbrev pub Ends : Seen → Type 0
Ends w.Dot = ⊥
Ends (w.Name x at) = ⊥
Ends (w.Word kw.And) = ⊥
Ends (w.Word kw.Or) = ⊥
Ends (w.Word kw.As) = ⊥
Ends (w.Word kw.Asc) = ⊥
Ends (w.Word kw.Desc) = ⊥
Ends _ = Unit {0}

-- nor with a list by a comma, nor with a JOIN or WHERE behind the tables
abbrev pub EndsFrom : Seen → Type 0
EndsFrom w.Comma = ⊥
EndsFrom (w.Word kw.Join) = ⊥
EndsFrom (w.Word kw.Where) = ⊥
EndsFrom t = Ends t

-- nor with GROUP BY
abbrev pub EndsWhere : Seen → Type 0
EndsWhere (w.Word kw.Group) = ⊥
EndsWhere t = EndsFrom t

-- nor with ORDER BY
abbrev pub EndsGroup : Seen → Type 0
EndsGroup (w.Word kw.Order) = ⊥
EndsGroup t = EndsWhere t

-- nor with LIMIT
abbrev pub EndsOrder : Seen → Type 0
EndsOrder (w.Word kw.Limit) = ⊥
EndsOrder t = EndsGroup t

-- nor with OPTION
abbrev pub EndsLimited : Seen → Type 0
EndsLimited (w.Word kw.Option) = ⊥
EndsLimited t = EndsOrder t

pub from_ends : (t : Seen) → EndsFrom t → Ends t
from_ends w.Comma ends = absurd ends
from_ends (w.Word kw.Join) ends = absurd ends
from_ends (w.Word kw.Where) ends = absurd ends
from_ends t ends = ends

pub where_ends : (t : Seen) → EndsWhere t → EndsFrom t
where_ends (w.Word kw.Group) ends = absurd ends
where_ends t ends = ends

pub group_ends : (t : Seen) → EndsGroup t → EndsWhere t
group_ends (w.Word kw.Order) ends = absurd ends
group_ends t ends = ends

pub order_ends : (t : Seen) → EndsOrder t → EndsGroup t
order_ends (w.Word kw.Limit) ends = absurd ends
order_ends t ends = ends

pub limited_ends : (t : Seen) → EndsLimited t → EndsOrder t
limited_ends (w.Word kw.Option) ends = absurd ends
limited_ends t ends = ends

-- ---- what may follow where no more of a list, or of what is optional, stands

pub no_more_from : (f : From) (t : Seen) → EndsFrom t → more_from f t ≡ more_where (no_where f) t
no_more_from f w.Comma ends = absurd ends
no_more_from f (w.Name x at) ends = absurd ends
no_more_from f (w.Word kw.Join) ends = absurd ends
no_more_from f (w.Word kw.Where) ends = absurd ends
no_more_from f t ends = refl

pub no_more_where : (h : Where) (t : Seen) → EndsWhere t → more_where h t ≡ more_group (no_group h) t
no_more_where h (w.Word kw.Group) ends = absurd ends
no_more_where h t ends = refl

pub no_more_columns : (cs : Columns) (t : Seen) → EndsWhere t → follow_columns cs t ≡ more_group (group_by cs) t
no_more_columns cs w.Comma ends = absurd ends
no_more_columns cs t ends = refl

pub no_more_group : (g : Group) (t : Seen) → EndsGroup t → more_group g t ≡ more_order (no_order g) t
no_more_group g (w.Word kw.Order) ends = absurd ends
no_more_group g (w.Name x at) ends = absurd ends
no_more_group g t ends = refl

pub no_more_keys : (ys : Keys) (t : Seen) → EndsGroup t → follow_keys ys t ≡ more_order (order_by ys) t
no_more_keys ys w.Comma ends = absurd ends
no_more_keys ys t ends = refl

pub no_more_order : (o : Order) (t : Seen) → EndsOrder t → more_order o t ≡ more_limited (no_limit o) t
no_more_order o (w.Word kw.Limit) ends = absurd ends
no_more_order o t ends = refl

pub no_more_limited : (l : Limited) (t : Seen) → EndsLimited t → more_limited l t ≡ more_optioned (no_options l) t
no_more_limited l (w.Word kw.Option) ends = absurd ends
no_more_limited l t ends = refl

-- ---- steps behind a part

-- a column that is a side is read whole at any token but a `.`
pub side_follows : (c : Column) (k : SideK) (t : Seen) → NotDot t → step (after_column c (side_k k)) t ≡ step (behind_side (named c) k) t
side_follows c (left_k k) w.Dot ends = absurd ends
side_follows c (left_k k) t ends = refl
side_follows c (right_k l op at k) w.Dot ends = absurd ends
side_follows c (right_k l op at k) t ends = refl

pub cond_follows : (c : CondTree) (k : CondK) (t : Seen) → Ends t → step (behind_cond c k) t ≡ follow_cond k c t
cond_follows (one_conj c) k (w.Word kw.And) ends = absurd ends
cond_follows (one_conj c) k (w.Word kw.Or) ends = absurd ends
cond_follows (one_conj c) k t ends = refl
cond_follows (or_conj d c) k (w.Word kw.And) ends = absurd ends
cond_follows (or_conj d c) k (w.Word kw.Or) ends = absurd ends
cond_follows (or_conj d c) k t ends = refl

pub item_follows : (i : Item) (k : ItemK) (t : Seen) → Ends t → step (behind_item i k) t ≡ follow_items (add_item k i) t
item_follows (bare_item c) k w.Dot ends = absurd ends
item_follows (bare_item c) k t ends = refl
item_follows (count_item at) k t ends = refl
item_follows (fold_item f at c) k t ends = refl

pub list_follows : (is : ItemList) (t : Seen) → Ends t → step (behind_list is) t ≡ follow_items is t
list_follows (first_item s i) t ends = item_follows i (first_item_k s) t ends
list_follows (next_item is i) t ends = item_follows i (next_item_k is) t ends

pub items_follows : (i : Items) → step (behind_items i) (w.Word kw.From) ≡ Some (want_table (before_k (from i)))
items_follows (every_column s at) = refl
items_follows (listed is) = list_follows is (w.Word kw.From) tt

pub from_follows : (f : From) (t : Seen) → Ends t → step (behind_from f) t ≡ more_from f t
from_follows (table b n) (w.Name x at) ends = absurd ends
from_follows (table b n) (w.Word kw.As) ends = absurd ends
from_follows (table b n) t ends = refl
from_follows (joined f j n c) t ends = cond_follows c (on_k f j n) t ends

pub where_follows : (h : Where) (t : Seen) → EndsFrom t → step (behind_where h) t ≡ more_where h t
where_follows (no_where f) t ends = from_follows f t (from_ends t ends) ∙ no_more_from f t ends
where_follows (some_where f c) t ends = cond_follows c (where_k f) t (from_ends t ends)

pub columns_follows : (cs : Columns) (t : Seen) → Ends t → step (behind_columns cs) t ≡ follow_columns cs t
columns_follows (first_column h c) w.Dot ends = absurd ends
columns_follows (first_column h c) t ends = refl
columns_follows (next_column cs c) w.Dot ends = absurd ends
columns_follows (next_column cs c) t ends = refl

pub group_follows : (g : Group) (t : Seen) → EndsWhere t → step (behind_group g) t ≡ more_group g t
group_follows (no_group h) t ends = where_follows h t (where_ends t ends) ∙ no_more_where h t ends
group_follows (group_by cs) t ends = columns_follows cs t (from_ends t (where_ends t ends)) ∙ no_more_columns cs t ends

pub key_of_follows : (y : KeyOf) (k : KeyK) (t : Seen) → Ends t → step (behind_key_of y k) t ≡ follow_keys (add_key k (unsaid y)) t
key_of_follows (by_column c) k w.Dot ends = absurd ends
key_of_follows (by_column c) k (w.Word kw.Asc) ends = absurd ends
key_of_follows (by_column c) k (w.Word kw.Desc) ends = absurd ends
key_of_follows (by_column c) k t ends = refl
key_of_follows (by_number n) k (w.Word kw.Asc) ends = absurd ends
key_of_follows (by_number n) k (w.Word kw.Desc) ends = absurd ends
key_of_follows (by_number n) k t ends = refl

pub key_follows : (y : Key) (k : KeyK) (t : Seen) → Ends t → step (behind_key y k) t ≡ follow_keys (add_key k y) t
key_follows (unsaid y) k t ends = key_of_follows y k t ends
key_follows (ascending y) k t ends = refl
key_follows (descending y) k t ends = refl

pub keys_follows : (ys : Keys) (t : Seen) → Ends t → step (behind_keys ys) t ≡ follow_keys ys t
keys_follows (first_key g y) t ends = key_follows y (first_key_k g) t ends
keys_follows (next_key ys y) t ends = key_follows y (next_key_k ys) t ends

pub order_follows : (o : Order) (t : Seen) → EndsGroup t → step (behind_order o) t ≡ more_order o t
order_follows (no_order g) t ends = group_follows g t (group_ends t ends) ∙ no_more_group g t ends
order_follows (order_by ys) t ends = keys_follows ys t (from_ends t (where_ends t (group_ends t ends))) ∙ no_more_keys ys t ends

pub limited_follows : (l : Limited) (t : Seen) → EndsOrder t → step (behind_limited l) t ≡ more_limited l t
limited_follows (no_limit o) t ends = order_follows o t (order_ends t ends) ∙ no_more_order o t ends
limited_follows (limit o n) t ends = refl

pub optioned_follows : (p : Optioned) (t : Seen) → EndsLimited t → step (behind_optioned p) t ≡ more_optioned p t
optioned_follows (no_options l) t ends = limited_follows l t (limited_ends t ends) ∙ no_more_limited l t ends
optioned_follows (options os) t ends = refl

-- ---- LEFT and UNION

-- a word that doesn't stand behind LEFT or UNION
abbrev pub Begins : Option Unreserved → Type 0
Begins (Some u.Semi) = ⊥
Begins (Some u.Anti) = ⊥
Begins (Some u.All) = ⊥
Begins _ = Unit {0}

-- A name behind it is no second name of its last table.
abbrev pub IsNamed : From → Type 0
IsNamed (table b (bare n)) = ⊥
IsNamed _ = Unit {0}

more_is_left : (b : Before) (n m : NameAt) (before : Option Unreserved) (at : ℕ) (word : Option Unreserved) → Begins word
    → begin_more b n m before at word ≡ begin_left (table b (renamed n m)) at word
more_is_left b n m (Some u.Left) at (Some u.Semi) begins = absurd begins
more_is_left b n m (Some u.Left) at (Some u.Anti) begins = absurd begins
more_is_left b n m (Some u.Union) at (Some u.All) begins = absurd begins
more_is_left b n m before at word begins = refl

pub word_follows : (f : From) (x : List ℕ) (at : ℕ) → IsNamed f → Begins (unreserved x) → step (behind_from f) (w.Name x at) ≡ begin_left f at (unreserved x)
word_follows (table b (bare n)) x at is begins = absurd is
word_follows (table b (renamed n m)) x at is begins = more_is_left b n m (unreserved m.letters) at (unreserved x) begins
word_follows (table b (renamed_as n m)) x at is begins = refl
word_follows (joined f j n (one_conj c)) x at is begins = refl
word_follows (joined f j n (or_conj d c)) x at is begins = refl

pub left_follows : (f : From) (x : List ℕ) (at : ℕ) → IsNamed f → unreserved x ≡ Some u.Left → step (behind_from f) (w.Name x at) ≡ Some (left_word f at)
left_follows f x at is left = word_follows f x at is (rw left tt) ∙ rw left refl

-- the same, if its last table is what stands last
abbrev pub IsNamedGroup : Group → Type 0
IsNamedGroup (no_group (no_where f)) = IsNamed f
IsNamedGroup _ = Unit {0}

pub union_follows : (g : Group) (x : List ℕ) (at : ℕ) → IsNamedGroup g → unreserved x ≡ Some u.Union → step (behind_group g) (w.Name x at) ≡ Some (union_word g at)
union_follows (no_group (no_where f)) x at is union = word_follows f x at is (rw union tt) ∙ rw union refl
union_follows (no_group (some_where f (one_conj c))) x at is union = rw union refl
union_follows (no_group (some_where f (or_conj d c))) x at is union = rw union refl
union_follows (group_by (first_column h c)) x at is union = rw union refl
union_follows (group_by (next_column cs c)) x at is union = rw union refl

-- ---- limits behind a part: those of any number

pub side_limits : (c : Column) (k : SideK) (t : Seen) → limits (after_column c (side_k k)) t ≡ limits (behind_side (named c) k) t
side_limits c (left_k k) t = refl
side_limits c (right_k l op at k) t = refl

pub cond_limits : (c : CondTree) (k : CondK) (t : Seen) → limits (behind_cond c k) t ≡ limits begin t
cond_limits (one_conj c) k t = refl
cond_limits (or_conj d c) k t = refl

pub item_limits : (i : Item) (k : ItemK) (t : Seen) → limits (behind_item i k) t ≡ limits begin t
item_limits (bare_item c) k t = refl
item_limits (count_item at) k t = refl
item_limits (fold_item f at c) k t = refl

pub list_limits : (is : ItemList) (t : Seen) → limits (behind_list is) t ≡ limits begin t
list_limits (first_item s i) t = item_limits i (first_item_k s) t
list_limits (next_item is i) t = item_limits i (next_item_k is) t

pub items_limits : (i : Items) (t : Seen) → limits (behind_items i) t ≡ limits begin t
items_limits (every_column s at) t = refl
items_limits (listed is) t = list_limits is t

pub from_limits : (f : From) (t : Seen) → limits (behind_from f) t ≡ limits begin t
from_limits (table b n) t = refl
from_limits (joined f j n c) t = cond_limits c (on_k f j n) t

pub where_limits : (h : Where) (t : Seen) → limits (behind_where h) t ≡ limits begin t
where_limits (no_where f) t = from_limits f t
where_limits (some_where f c) t = cond_limits c (where_k f) t

pub columns_limits : (cs : Columns) (t : Seen) → limits (behind_columns cs) t ≡ limits begin t
columns_limits (first_column h c) t = refl
columns_limits (next_column cs c) t = refl

pub group_limits : (g : Group) (t : Seen) → limits (behind_group g) t ≡ limits begin t
group_limits (no_group h) t = where_limits h t
group_limits (group_by cs) t = columns_limits cs t

pub key_limits : (y : Key) (k : KeyK) (t : Seen) → limits (behind_key y k) t ≡ limits begin t
key_limits (unsaid (by_column c)) k t = refl
key_limits (unsaid (by_number n)) k t = refl
key_limits (ascending y) k t = refl
key_limits (descending y) k t = refl

pub keys_limits : (ys : Keys) (t : Seen) → limits (behind_keys ys) t ≡ limits begin t
keys_limits (first_key g y) t = key_limits y (first_key_k g) t
keys_limits (next_key ys y) t = key_limits y (next_key_k ys) t

pub order_limits : (o : Order) (t : Seen) → limits (behind_order o) t ≡ limits begin t
order_limits (no_order g) t = group_limits g t
order_limits (order_by ys) t = keys_limits ys t

pub limited_limits : (l : Limited) (t : Seen) → limits (behind_limited l) t ≡ limits begin t
limited_limits (no_limit o) t = order_limits o t
limited_limits (limit o n) t = refl

pub optioned_limits : (p : Optioned) (t : Seen) → limits (behind_optioned p) t ≡ limits begin t
optioned_limits (no_options l) t = limited_limits l t
optioned_limits (options os) t = refl
