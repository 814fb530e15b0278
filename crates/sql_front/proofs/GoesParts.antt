-- The marks of a query's parts lead the machine from where the part is wanted to where it has been read.
use Rattle.std.specs.Prelude.{◌≡◌, ℕ, ◌+◌, true, [], ◌∷◌, ◌++◌, Option, Some}
use Rattle.std.proofs.Common.{refl, ap, ◌∙◌, append_assoc}
use Rattle.std.specs.Option.{option_and_then}
use Rattle.sql_tokens.specs.declared.token.Keyword.TheVariants as kw
use Rattle.sql_front.specs.declared.words.Method.TheVariants as m
use Rattle.sql_front.specs.declared.words.Setting.TheVariants as s
use Rattle.sql_front.specs.declared.words.Unreserved.TheVariants as u
use Rattle.sql_front.specs.Machine.{UnitK, not_k, first_k, and_k, ConjK, only_k, or_k, CondK, paren_k, SideK, left_k, right_k, ItemK, TableK, join_k, KeyK, OptK}
use Rattle.sql_front.specs.Machine.{ColumnK, item_k, fold_k, side_k, group_k, key_k, add_opt, State, want_item, want_table, after_table, left_word, union_word, want_select}
use Rattle.sql_front.specs.Machine.{want, right, after, want_column, after_column, want_key, want_opt, after_opts, open_unit, open_conj, open_cond, tables_behind, want_cond, give, behind, behind_side}
use Rattle.sql_front.specs.Machine.{step, limits, behind_cond, behind_from, behind_group, behind_key, behind_item}
use Rattle.sql_front.specs.Seen.{Seen}
use Rattle.sql_front.specs.Seen as w
use Rattle.sql_front.specs.Spell.{Marks, the, the_word, spell_column, spell_side, spell_unit, spell_conj, spell_cond, spell_item, spell_table, spell_join, spell_key, spell_opt}
use Rattle.sql_front.specs.Tree.{Column, plain, dotted, Side, named, positive, negative, quoted, UnitTree, negation, group, compare, ConjTree, one_unit, and_unit, CondTree, one_conj, or_conj}
use Rattle.sql_front.specs.Tree.{Item, bare_item, count_item, fold_item, FromTable, bare, renamed, renamed_as, Join, inner, semi, anti, union_all, From, table, no_where}
use Rattle.sql_front.specs.Tree.{Group, no_group, by_column, by_number, Key, unsaid, ascending, descending, Opt, sized, used}
use Rattle.sql_front.proofs.Follows.{NotDot, left_follows, union_follows, side_follows, side_limits, from_follows, from_limits, group_limits}
use Rattle.sql_front.specs.Words.{spelled}
use Rattle.sql_front.proofs.Unreserved.{unreserved-spelled}
use Rattle.grammar_laws.specs.Machine.{go}
use Rattle.grammar_laws.proofs.Reading.{same_bit-self}

-- a state that takes a token goes on over the marks behind it
pub takes : (st : State) (t : Seen) (next : Option State) (rest : Marks) → limits st t ≡ true → step st t ≡ next
    → go step limits st (the t ∷ rest) ≡ option_and_then (λ now. go step limits now rest) next
takes st t next rest allows steps = rw (allows, steps) refl

-- ---- columns

-- the state before a column
abbrev pub wants : ColumnK → State
wants (item_k k) = want_item k
wants (fold_k f at k) = want_column (fold_k f at k)
wants (side_k (left_k k)) = want k
wants (side_k (right_k l op at k)) = right l op at k
wants (group_k k) = want_column (group_k k)
wants (key_k k) = want_key k

pub column_goes : (c : Column) (k : ColumnK) (rest : Marks) → go step limits (wants k) (spell_column c ++ rest) ≡ go step limits (after_column c k) rest
column_goes (plain n) (item_k k) rest = refl
column_goes (plain n) (fold_k f at k) rest = refl
column_goes (plain n) (side_k (left_k k)) rest = refl
column_goes (plain n) (side_k (right_k l op at k)) rest = refl
column_goes (plain n) (group_k k) rest = refl
column_goes (plain n) (key_k k) rest = refl
column_goes (dotted t n) (item_k k) rest = refl
column_goes (dotted t n) (fold_k f at k) rest = refl
column_goes (dotted t n) (side_k (left_k k)) rest = refl
column_goes (dotted t n) (side_k (right_k l op at k)) rest = refl
column_goes (dotted t n) (group_k k) rest = refl
column_goes (dotted t n) (key_k k) rest = refl

-- ---- conditions

-- There is a first mark, and it is no `.`, so that a column before it is read whole.
abbrev pub NoDot : Marks → Type 0
NoDot [] = ⊥
NoDot (m ∷ ms) = NotDot m.0

side_read : (c : Column) (k : SideK) (rest : Marks) → NoDot rest → go step limits (after_column c (side_k k)) rest ≡ go step limits (behind_side (named c) k) rest
side_read c k [] no_dot = absurd no_dot
side_read c k (m ∷ ms) no_dot = rw (side_limits c k m.0, side_follows c k m.0 no_dot) refl

side_goes : (l : Side) (k : SideK) (rest : Marks) → NoDot rest → go step limits (wants (side_k k)) (spell_side l ++ rest) ≡ go step limits (behind_side l k) rest
side_goes (named c) k rest no_dot = column_goes c (side_k k) rest ∙ side_read c k rest no_dot
side_goes (positive n) (left_k k) rest no_dot = rw same_bit-self refl
side_goes (positive n) (right_k l op at k) rest no_dot = rw same_bit-self refl
side_goes (negative at n) (left_k k) rest no_dot = rw same_bit-self refl
side_goes (negative at n) (right_k l op place k) rest no_dot = rw same_bit-self refl
side_goes (quoted bytes) (left_k k) rest no_dot = refl
side_goes (quoted bytes) (right_k l op at k) rest no_dot = refl

or_goes : (c : CondTree) (k : CondK) (rest : Marks) → go step limits (behind_cond c k) (the (w.Word kw.Or) ∷ rest) ≡ go step limits (want (first_k (or_k c k))) rest
or_goes (one_conj c) k rest = refl
or_goes (or_conj d c) k rest = refl

close_goes : (c : CondTree) (k : UnitK) (rest : Marks) → go step limits (behind_cond c (paren_k k)) (the w.Close ∷ rest) ≡ go step limits (behind (give k (group c))) rest
close_goes (one_conj c) k rest = refl
close_goes (or_conj d c) k rest = refl

mutual
  pub unit_goes : (u : UnitTree) (k : UnitK) (rest : Marks) → NoDot rest → go step limits (want k) (spell_unit (open_unit k) u ++ rest) ≡ go step limits (behind (give k u)) rest
  unit_goes (negation u) k rest no_dot = rw same_bit-self (unit_goes u (not_k k) rest no_dot)
  unit_goes (group c) k rest no_dot = rw same_bit-self
      (ap (go step limits (want_cond (paren_k k))) (append_assoc (spell_cond (open_unit k + 1) c) (the w.Close ∷ []) rest)
      ∙ cond_goes c (paren_k k) (the w.Close ∷ rest) tt
      ∙ close_goes c k rest)
  unit_goes (compare l op at r) k rest no_dot =
      ap (go step limits (want k)) (append_assoc (spell_side l) (the (w.Sign op at) ∷ spell_side r) rest)
      ∙ side_goes l (left_k k) (the (w.Sign op at) ∷ spell_side r ++ rest) tt
      ∙ side_goes r (right_k l op at k) rest no_dot

  pub conj_goes : (c : ConjTree) (k : ConjK) (rest : Marks) → NoDot rest → go step limits (want (first_k k)) (spell_conj (open_conj k) c ++ rest) ≡ go step limits (after c k) rest
  conj_goes (one_unit u) k rest no_dot = unit_goes u (first_k k) rest no_dot
  conj_goes (and_unit c u) k rest no_dot =
      ap (go step limits (want (first_k k))) (append_assoc (spell_conj (open_conj k) c) (the (w.Word kw.And) ∷ spell_unit (open_conj k) u) rest)
      ∙ conj_goes c k (the (w.Word kw.And) ∷ spell_unit (open_conj k) u ++ rest) tt
      ∙ unit_goes u (and_k c k) rest no_dot

  pub cond_goes : (c : CondTree) (k : CondK) (rest : Marks) → NoDot rest → go step limits (want_cond k) (spell_cond (open_cond k) c ++ rest) ≡ go step limits (behind_cond c k) rest
  cond_goes (one_conj c) k rest no_dot = conj_goes c (only_k k) rest no_dot
  cond_goes (or_conj d c) k rest no_dot =
      ap (go step limits (want_cond k)) (append_assoc (spell_cond (open_cond k) d) (the (w.Word kw.Or) ∷ spell_conj (open_cond k) c) rest)
      ∙ cond_goes d k (the (w.Word kw.Or) ∷ spell_conj (open_cond k) c ++ rest) tt
      ∙ or_goes d k (spell_conj (open_cond k) c ++ rest)
      ∙ conj_goes c (or_k d k) rest no_dot

-- ---- items, keys and options

pub item_goes : (i : Item) (k : ItemK) (rest : Marks) → go step limits (want_item k) (spell_item i ++ rest) ≡ go step limits (behind_item i k) rest
item_goes (bare_item c) k rest = column_goes c (item_k k) rest
item_goes (count_item at) k rest = refl
item_goes (fold_item f at c) k rest =
    ap (go step limits (want_column (fold_k f at k))) (append_assoc (spell_column c) (the w.Close ∷ []) rest)
    ∙ column_goes c (fold_k f at k) (the w.Close ∷ rest)

pub key_goes : (y : Key) (k : KeyK) (rest : Marks) → go step limits (want_key k) (spell_key y ++ rest) ≡ go step limits (behind_key y k) rest
key_goes (unsaid (by_column c)) k rest = column_goes c (key_k k) rest
key_goes (unsaid (by_number n)) k rest = rw same_bit-self refl
key_goes (ascending (by_column c)) k rest =
    ap (go step limits (want_key k)) (append_assoc (spell_column c) (the (w.Word kw.Asc) ∷ []) rest)
    ∙ column_goes c (key_k k) (the (w.Word kw.Asc) ∷ rest)
key_goes (ascending (by_number n)) k rest = rw same_bit-self refl
key_goes (descending (by_column c)) k rest =
    ap (go step limits (want_key k)) (append_assoc (spell_column c) (the (w.Word kw.Desc) ∷ []) rest)
    ∙ column_goes c (key_k k) (the (w.Word kw.Desc) ∷ rest)
key_goes (descending (by_number n)) k rest = rw same_bit-self refl

pub opt_goes : (o : Opt) (k : OptK) (rest : Marks) → go step limits (want_opt k) (spell_opt o ++ rest) ≡ go step limits (after_opts (add_opt k o)) rest
opt_goes (sized s.Block at n) k rest = rw (unreserved-spelled u.Block, same_bit-self) refl
opt_goes (sized s.Parts at n) k rest = rw (unreserved-spelled u.Parts, same_bit-self) refl
opt_goes (sized s.Sort at n) k rest = rw (unreserved-spelled u.Sort, same_bit-self) refl
opt_goes (used at m.Block place) k rest = rw (unreserved-spelled u.Use, unreserved-spelled u.Block) refl
opt_goes (used at m.Index place) k rest = rw (unreserved-spelled u.Use, unreserved-spelled u.Index) refl
opt_goes (used at m.Merge place) k rest = rw (unreserved-spelled u.Use, unreserved-spelled u.Merge) refl
opt_goes (used at m.Hash place) k rest = rw (unreserved-spelled u.Use, unreserved-spelled u.Hash) refl

-- ---- tables, joins and UNION ALL

pub table_goes : (n : FromTable) (k : TableK) (rest : Marks) → go step limits (want_table k) (spell_table (tables_behind k) n ++ rest) ≡ go step limits (after_table n k) rest
table_goes (bare n) k rest = rw same_bit-self refl
table_goes (renamed n second) k rest = rw same_bit-self refl
table_goes (renamed_as n second) k rest = rw same_bit-self refl

semi_goes : (f : From) (left place : ℕ) (rest : Marks) → go step limits (left_word f left) (the_word u.Semi place ∷ the (w.Word kw.Join) ∷ rest)
    ≡ go step limits (want_table (join_k f (semi left place))) rest
semi_goes f left place rest = rw (unreserved-spelled u.Semi) refl

anti_goes : (f : From) (left place : ℕ) (rest : Marks) → go step limits (left_word f left) (the_word u.Anti place ∷ the (w.Word kw.Join) ∷ rest)
    ≡ go step limits (want_table (join_k f (anti left place))) rest
anti_goes f left place rest = rw (unreserved-spelled u.Anti) refl

-- Behind a table with one name, LEFT is first read as its second name.
pub join_goes : (f : From) (j : Join) (rest : Marks) → go step limits (behind_from f) (spell_join j ++ rest) ≡ go step limits (want_table (join_k f j)) rest
join_goes f inner rest = takes (behind_from f) (w.Word kw.Join) (Some (want_table (join_k f inner))) rest (from_limits f (w.Word kw.Join)) (from_follows f (w.Word kw.Join) tt)
join_goes (table b (bare n)) (semi left place) rest = rw (unreserved-spelled u.Left, unreserved-spelled u.Semi) refl
join_goes f (semi left place) rest =
    takes (behind_from f) (w.Name (spelled u.Left) left) (Some (left_word f left)) (the_word u.Semi place ∷ the (w.Word kw.Join) ∷ rest)
    (from_limits f (w.Name (spelled u.Left) left)) (left_follows f (spelled u.Left) left tt (unreserved-spelled u.Left))
    ∙ semi_goes f left place rest
join_goes (table b (bare n)) (anti left place) rest = rw (unreserved-spelled u.Left, unreserved-spelled u.Anti) refl
join_goes f (anti left place) rest =
    takes (behind_from f) (w.Name (spelled u.Left) left) (Some (left_word f left)) (the_word u.Anti place ∷ the (w.Word kw.Join) ∷ rest)
    (from_limits f (w.Name (spelled u.Left) left)) (left_follows f (spelled u.Left) left tt (unreserved-spelled u.Left))
    ∙ anti_goes f left place rest

all_goes : (g : Group) (union place : ℕ) (rest : Marks) → go step limits (union_word g union) (the_word u.All place ∷ rest) ≡ go step limits (want_select (union_all g union place)) rest
all_goes g union place rest = rw (unreserved-spelled u.All) refl

-- So is UNION.
pub union_goes : (g : Group) (union place : ℕ) (rest : Marks) → go step limits (behind_group g) (the_word u.Union union ∷ the_word u.All place ∷ rest)
    ≡ go step limits (want_select (union_all g union place)) rest
union_goes (no_group (no_where (table b (bare n)))) union place rest = rw (unreserved-spelled u.Union, unreserved-spelled u.All) refl
union_goes g union place rest =
    takes (behind_group g) (w.Name (spelled u.Union) union) (Some (union_word g union)) (the_word u.All place ∷ rest)
    (group_limits g (w.Name (spelled u.Union) union)) (union_follows g (spelled u.Union) union tt (unreserved-spelled u.Union))
    ∙ all_goes g union place rest
