-- Runs over FROM and its tables, a token at a time.
use Rattle.std.specs.Prelude.{◌≡◌, ℕ, ◌+◌, ◌<◌, true, List, [], ◌∷◌, ◌++◌, Option, Some, None}
use Rattle.std.proofs.Common.{refl, ◌∙◌}
use Rattle.std.proofs.lemmas.Bool.{lt-ltb}
use Rattle.sql_tokens.specs.declared.token.Keyword.TheVariants as kw
use Rattle.sql_tokens.specs.declared.token.Name.{Name}
use Rattle.sql_tokens.specs.declared.token.What.TheVariants as what
use Rattle.sql_front.specs.declared.tables.Pair.{Pair}
use Rattle.sql_front.specs.declared.tables.Pair.TheVariants as pair
use Rattle.sql_front.specs.declared.tree.More as more
use Rattle.sql_front.specs.declared.tree.More.TheVariants as code_more
use Rattle.sql_front.specs.declared.tree.NameAt as declared_name
use Rattle.sql_front.specs.declared.tree.Table as declared
use Rattle.sql_front.specs.declared.tree.Table.TheVariants as code
use Rattle.sql_front.specs.declared.words.Unreserved.{Unreserved}
use Rattle.sql_front.specs.declared.words.Unreserved.TheVariants as u
use Rattle.sql_front.specs.Machine.{TableK, before_k, join_k, on_k, want_table, want_cond, want_select, after_table, left_word, union_word, join_word, follow_table, more_from}
use Rattle.sql_front.specs.Machine.{begin_on, begin_left, begin_union, begin_more, begin_join, begin_select, tables_behind, step}
use Rattle.sql_front.specs.Reads.{Reading, refused_at, runs, runs_on, begin_where, behind_names, pair_of, word_seen}
use Rattle.sql_front.specs.Seen.{Seen, seen, seen_as, letters_of}
use Rattle.sql_front.specs.Seen as w
use Rattle.sql_front.specs.Spell.{fits_table, tables_from}
use Rattle.sql_front.specs.Tree.{NameAt, FromTable, bare, renamed, renamed_as, Join, semi, anti, Before, From, table, no_where, Group, no_group, union_all}
use Rattle.sql_front.specs.View.{name_tree, table_tree, more_tables, next_table}
use Rattle.sql_front.specs.Words.{unreserved}
use Rattle.grammar_laws.specs.Machine.{Stopped}
use Rattle.sql_front.proofs.Passing.{passes, passes_on, take_word, at_word, reads_word, passes_word, refuses_word}

pub named_again : (n : NameAt) (k : TableK) (old new : Reading) (x : Name) → old.first.what ≡ what.Name x → old.rest ≡ new.first ∷ new.rest → new.text ≡ old.text
    → runs (after_table (bare n) k) old ≡ runs_on (follow_table (renamed n (record { letters = letters_of x; at = old.first.at })) k) new
named_again n k old new x is rest text = passes (after_table (bare n) k) (after_table (renamed n (record { letters = letters_of x; at = old.first.at })) k) (what.Name x) old new is rest text refl refl

pub table_named : (k : TableK) (tables : ℕ) (old new : Reading) (x : Name) → old.first.what ≡ what.Name x → old.rest ≡ new.first ∷ new.rest → new.text ≡ old.text
    → tables_behind k ≡ tables → tables < 4
    → runs (want_table k) old ≡ runs (after_table (bare (record { letters = letters_of x; at = old.first.at })) k) new
table_named k tables old new x is rest text behind fits =
    let few : fits_table (tables_behind k) ≡ true = rw behind (lt-ltb tables 4 fits) in
    passes (want_table k) (after_table (bare (record { letters = letters_of x; at = old.first.at })) k) (what.Name x) old new is rest text few refl

-- ---- ON

on_only : (t : FromTable) (f : From) (j : Join) (s : Seen) → behind_names t (join_k f j) s ≡ begin_on t f j s
on_only (bare n) f j s = refl
on_only (renamed n m) f j (w.Name x at) = refl
on_only (renamed n m) f j (w.Word kw.As) = refl
on_only (renamed n m) f j _ = refl
on_only (renamed_as n m) f j (w.Name x at) = refl
on_only (renamed_as n m) f j (w.Word kw.As) = refl
on_only (renamed_as n m) f j _ = refl

pub wants_on : (t : FromTable) (f : From) (j : Join) (r : Reading) → runs_on (behind_names t (join_k f j)) r ≡ runs_on (begin_on t f j) r
wants_on t f j r = rw on_only refl

pub on_passed : (t : FromTable) (f : From) (j : Join) (old new : Reading) → old.first.what ≡ what.Word kw.On → old.rest ≡ new.first ∷ new.rest → new.text ≡ old.text
    → runs_on (behind_names t (join_k f j)) old ≡ runs (want_cond (on_k f j t)) new
on_passed t f j old new is rest text = wants_on t f j old ∙ passes_on (begin_on t f j) (want_cond (on_k f j t)) (what.Word kw.On) old new is rest text refl refl

-- ---- words that are names elsewhere

left_taken : (f : From) (left : ℕ) (t : Seen) → step (left_word f left) t ≡ take_word (begin_join f left) t
left_taken f left (w.Name x at) = refl
left_taken f left t = refl

left_reads : (f : From) (left : ℕ) (r : Reading) → runs (left_word f left) r ≡ at_word (begin_join f left r.first.at) r
left_reads f left r = rw (left_taken f left (seen r.text r.first)) (reads_word (begin_join f left) r refl)

pub semi_passed : (f : From) (left : ℕ) (old new : Reading) → word_seen (seen old.text old.first) ≡ Some u.Semi → old.rest ≡ new.first ∷ new.rest → new.text ≡ old.text
    → runs (left_word f left) old ≡ runs (join_word f (semi left old.first.at)) new
semi_passed f left old new is rest text = left_reads f left old ∙ passes_word (begin_join f left old.first.at) (Some u.Semi) (join_word f (semi left old.first.at)) old new is rest text refl

pub anti_passed : (f : From) (left : ℕ) (old new : Reading) → word_seen (seen old.text old.first) ≡ Some u.Anti → old.rest ≡ new.first ∷ new.rest → new.text ≡ old.text
    → runs (left_word f left) old ≡ runs (join_word f (anti left old.first.at)) new
anti_passed f left old new is rest text = left_reads f left old ∙ passes_word (begin_join f left old.first.at) (Some u.Anti) (join_word f (anti left old.first.at)) old new is rest text refl

no_join : (f : From) (left at : ℕ) (word : Option Unreserved) → (word ≡ Some u.Semi → ⊥) → (word ≡ Some u.Anti → ⊥) → begin_join f left at word ≡ None
no_join f left at (Some u.Semi) other another = absurd (other refl)
no_join f left at (Some u.Anti) other another = absurd (another refl)
no_join f left at word other another = refl

pub left_refused : (f : From) (left : ℕ) (r : Reading) → (word_seen (seen r.text r.first) ≡ Some u.Semi → ⊥) → (word_seen (seen r.text r.first) ≡ Some u.Anti → ⊥)
    → runs (left_word f left) r ≡ Stopped (refused_at None r)
left_refused f left r other another = left_reads f left r ∙ refuses_word (begin_join f left r.first.at) (word_seen (seen r.text r.first)) r refl (no_join f left r.first.at (word_seen (seen r.text r.first)) other another)

union_taken : (g : Group) (union : ℕ) (t : Seen) → step (union_word g union) t ≡ take_word (begin_select g union) t
union_taken g union (w.Name x at) = refl
union_taken g union t = refl

union_reads : (g : Group) (union : ℕ) (r : Reading) → runs (union_word g union) r ≡ at_word (begin_select g union r.first.at) r
union_reads g union r = rw (union_taken g union (seen r.text r.first)) (reads_word (begin_select g union) r refl)

pub all_passed : (g : Group) (union : ℕ) (old new : Reading) → word_seen (seen old.text old.first) ≡ Some u.All → old.rest ≡ new.first ∷ new.rest → new.text ≡ old.text
    → runs (union_word g union) old ≡ runs (want_select (union_all g union old.first.at)) new
all_passed g union old new is rest text = union_reads g union old ∙ passes_word (begin_select g union old.first.at) (Some u.All) (want_select (union_all g union old.first.at)) old new is rest text refl

no_select : (g : Group) (union at : ℕ) (word : Option Unreserved) → (word ≡ Some u.All → ⊥) → begin_select g union at word ≡ None
no_select g union at (Some u.All) other = absurd (other refl)
no_select g union at word other = refl

pub union_refused : (g : Group) (union : ℕ) (r : Reading) → (word_seen (seen r.text r.first) ≡ Some u.All → ⊥) → runs (union_word g union) r ≡ Stopped (refused_at None r)
union_refused g union r other = union_reads g union r ∙ refuses_word (begin_select g union r.first.at) (word_seen (seen r.text r.first)) r refl (no_select g union r.first.at (word_seen (seen r.text r.first)) other)

-- ---- words behind a table

pub left_named_here : (f : From) (x : Name) (old new : Reading) → old.first.what ≡ what.Name x → unreserved (letters_of x) ≡ Some u.Left → old.rest ≡ new.first ∷ new.rest → new.text ≡ old.text
    → runs_on (more_from f) old ≡ runs (left_word f old.first.at) new
left_named_here f x old new is word rest text = passes_on (more_from f) (left_word f old.first.at) (what.Name x) old new is rest text refl (rw word refl)

pub union_named_here : (f : From) (x : Name) (old new : Reading) → old.first.what ≡ what.Name x → unreserved (letters_of x) ≡ Some u.Union → old.rest ≡ new.first ∷ new.rest → new.text ≡ old.text
    → runs_on (more_from f) old ≡ runs (union_word (no_group (no_where f)) old.first.at) new
union_named_here f x old new is word rest text = passes_on (more_from f) (union_word (no_group (no_where f)) old.first.at) (what.Name x) old new is rest text refl (rw word refl)

no_left : (f : From) (at : ℕ) (word : Option Unreserved) → (word ≡ Some u.Left → ⊥) → begin_left f at word ≡ begin_union (no_group (no_where f)) at word
no_left f at (Some u.Left) other = absurd (other refl)
no_left f at word other = refl

pub no_word_here : (f : From) (x : Name) (r : Reading) → r.first.what ≡ what.Name x → (unreserved (letters_of x) ≡ Some u.Left → ⊥) → runs_on (more_from f) r ≡ runs_on (begin_where f) r
no_word_here f x r is other = rw (is, no_left f r.first.at (unreserved (letters_of x)) other) refl

-- ---- a second name that may be a word

second_named : (b : Before) (n m : NameAt) (at : ℕ) (first second : Option Unreserved) → pair_of first second ≡ None → begin_more b n m first at second ≡ begin_left (table b (renamed n m)) at second
unfolding pair_of
second_named b n m at (Some u.Left) (Some u.Semi) none = cc
second_named b n m at (Some u.Left) (Some u.Anti) none = cc
second_named b n m at (Some u.Union) (Some u.All) none = cc
second_named b n m at _ _ none = refl

follows_renamed : (b : Before) (n m : NameAt) (t : Seen) → pair_of (unreserved m.letters) (word_seen t) ≡ None → follow_table (renamed n m) (before_k b) t ≡ more_from (table b (renamed n m)) t
follows_renamed b n m (w.Name x at) none = second_named b n m at (unreserved m.letters) (unreserved x) none
follows_renamed b n m (w.Word kw.As) none = refl
follows_renamed b n m _ none = refl

pub no_pair : (b : Before) (n m : NameAt) (r : Reading) → pair_of (unreserved m.letters) (word_seen (seen r.text r.first)) ≡ None
    → runs_on (follow_table (renamed n m) (before_k b)) r ≡ runs_on (more_from (table b (renamed n m))) r
no_pair b n m r none = rw (follows_renamed b n m (seen r.text r.first) none) refl

left_named : (b : Before) (n m : NameAt) (at : ℕ) (first second : Option Unreserved) → pair_of first second ≡ Some pair.LeftJoin
    → begin_more b n m first at second ≡ begin_join (table b (bare n)) m.at at second
unfolding pair_of
left_named b n m at (Some u.Left) (Some u.Semi) is = refl
left_named b n m at (Some u.Left) (Some u.Anti) is = refl
left_named b n m at (Some u.Union) (Some u.All) is = cc
left_named b n m at _ _ is = cc

no_second : (first : Option Unreserved) (p : Pair) → pair_of first None ≡ Some p → ⊥
unfolding pair_of
no_second (Some u.Left) p is = cc
no_second (Some u.Union) p is = cc
no_second _ p is = cc

follows_left : (b : Before) (n m : NameAt) (t : Seen) → pair_of (unreserved m.letters) (word_seen t) ≡ Some pair.LeftJoin
    → follow_table (renamed n m) (before_k b) t ≡ step (left_word (table b (bare n)) m.at) t
follows_left b n m (w.Name x at) is = left_named b n m at (unreserved m.letters) (unreserved x) is
follows_left b n m _ is = absurd (no_second (unreserved m.letters) pair.LeftJoin is)

pub left_pair : (b : Before) (n m : NameAt) (r : Reading) → pair_of (unreserved m.letters) (word_seen (seen r.text r.first)) ≡ Some pair.LeftJoin
    → runs_on (follow_table (renamed n m) (before_k b)) r ≡ runs (left_word (table b (bare n)) m.at) r
left_pair b n m r is = rw (follows_left b n m (seen r.text r.first) is) refl

union_named : (b : Before) (n m : NameAt) (at : ℕ) (first second : Option Unreserved) → pair_of first second ≡ Some pair.UnionAll
    → begin_more b n m first at second ≡ begin_select (no_group (no_where (table b (bare n)))) m.at at second
unfolding pair_of
union_named b n m at (Some u.Left) (Some u.Semi) is = cc
union_named b n m at (Some u.Left) (Some u.Anti) is = cc
union_named b n m at (Some u.Union) (Some u.All) is = refl
union_named b n m at _ _ is = cc

follows_union : (b : Before) (n m : NameAt) (t : Seen) → pair_of (unreserved m.letters) (word_seen t) ≡ Some pair.UnionAll
    → follow_table (renamed n m) (before_k b) t ≡ step (union_word (no_group (no_where (table b (bare n)))) m.at) t
follows_union b n m (w.Name x at) is = union_named b n m at (unreserved m.letters) (unreserved x) is
follows_union b n m _ is = absurd (no_second (unreserved m.letters) pair.UnionAll is)

pub union_pair : (b : Before) (n m : NameAt) (r : Reading) → pair_of (unreserved m.letters) (word_seen (seen r.text r.first)) ≡ Some pair.UnionAll
    → runs_on (follow_table (renamed n m) (before_k b)) r ≡ runs (union_word (no_group (no_where (table b (bare n)))) m.at) r
union_pair b n m r is = rw (follows_union b n m (seen r.text r.first) is) refl

-- ---- a table that has no second name without AS

follows_as : (b : Before) (n m : NameAt) (t : Seen) → follow_table (renamed_as n m) (before_k b) t ≡ more_from (table b (renamed_as n m)) t
follows_as b n m (w.Name x at) = refl
follows_as b n m (w.Word kw.As) = refl
follows_as b n m _ = refl

pub no_renamed : (b : Before) (t : declared.Table) (r : Reading) → ((n m : declared_name.NameAt) → t ≡ code.Renamed n m → ⊥)
    → runs_on (behind_names (table_tree t) (before_k b)) r ≡ runs_on (more_from (table b (table_tree t))) r
no_renamed b (code.Bare n) r other = refl
no_renamed b (code.Renamed n m) r other = absurd (other n m refl)
no_renamed b (code.RenamedAs n m) r other = rw (follows_as b (name_tree n) (name_tree m) (seen r.text r.first)) refl

-- ---- lists of tables

pub more_pushed : (f : From) (ms : List more.More) (m : more.More) → more_tables f (ms ++ m ∷ []) ≡ next_table (more_tables f ms) m
more_pushed f [] m = refl
more_pushed f (x ∷ ms) m = more_pushed (next_table f x) ms m

pub next_counted : (f : From) (m : more.More) → tables_from (next_table f m) ≡ tables_from f + 1
next_counted f (code_more.Comma t) = refl
next_counted f (code_more.Join j t c) = refl
