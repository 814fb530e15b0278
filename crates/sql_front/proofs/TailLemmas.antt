-- What the functions that read ORDER BY, LIMIT and OPTION say, where they call those of numbers and words.
use Rattle.std.specs.Prelude.{◌≡◌, ℕ, Bool, List, [], ◌∷◌, ◌++◌, Option, Some, None, Result}
use Rattle.std.proofs.Common.{refl, ap, arith, ◌∙◌}
use Rattle.std.proofs.lemmas.Bool.Decides.{nat_tests}
use Rattle.sql_tokens.specs.declared.token.Keyword.{Keyword}
use Rattle.sql_tokens.specs.declared.token.Keyword.TheVariants as keyword
use Rattle.sql_tokens.specs.declared.token.What.{What}
use Rattle.sql_tokens.specs.declared.token.What.TheVariants as what
use Rattle.sql_front.specs.declared.fault.ParseFault.{ParseFault}
use Rattle.sql_front.specs.declared.tree.Key as declared_key
use Rattle.sql_front.specs.declared.tree.NumberAt as declared
use Rattle.sql_front.specs.declared.tree.QueryOption as declared_option
use Rattle.sql_front.specs.declared.words.Method.{Method}
use Rattle.sql_front.specs.declared.words.Setting.{Setting}
use Rattle.sql_front.specs.declared.words.Unreserved.{Unreserved}
use Rattle.sql_front.specs.Machine.{State, OptK, next_opt_k, add_opt, sized_word, used_word, after_opts, limit_word, after_limit, KeyK, next_key_k, add_key, want_key, after_number, number_limit}
use Rattle.sql_front.specs.Machine.{step, method_of, use_method, follow_opts, follow_key, follow_keys, more_order, more_limited}
use Rattle.sql_front.specs.Reads.{Reading, Leads, refused_at, runs, runs_on, word_seen}
use Rattle.sql_front.specs.Seen.{Seen, seen, seen_as, seen_word}
use Rattle.sql_front.specs.Seen as w
use Rattle.sql_front.specs.Spell.{between, fits_setting, fits_limit}
use Rattle.sql_front.specs.Tail.{take_number, at_number, key_behind, option_behind}
use Rattle.sql_front.specs.Tree.{NumberAt, Group, by_number, Keys, first_key, next_key, Order, order_by, Limited, limit, sized, used, Options, first_option, next_option, options}
use Rattle.sql_front.specs.View.{number_tree, key_tree, more_keys, order_tree, opt_tree, more_options, options_tree}
use Rattle.sql_front.proofs.Passing.{take_word, at_word, reads_word, passes_word, refuses_word}
use Rattle.grammar_laws.specs.Machine.{Stopped}

-- ---- numbers

same_limit : (fits gives : ℕ → Bool) → ((n : ℕ) → fits n ≡ gives n) → (t : Seen) → number_limit fits t ≡ number_limit gives t
same_limit fits gives same (w.Number n at) = same n
same_limit fits gives same t = refl

takes_size : (setting : Setting) (at : ℕ) (k : OptK) (t : Seen) → step (sized_word setting at k) t ≡ take_number (λ n. after_opts (add_opt k (sized setting at n))) t
takes_size setting at k (w.Number n place) = refl
takes_size setting at k t = refl

at_size : (setting : Setting) (at most : ℕ) (k : OptK) (r : Reading) → ((n : ℕ) → fits_setting setting n ≡ between 1 most n)
    → runs (sized_word setting at k) r ≡ at_number (between 1 most) (λ n. after_opts (add_opt k (sized setting at n))) r
at_size setting at most k r same = rw (takes_size setting at k (seen r.text r.first), same_limit (fits_setting setting) (between 1 most) same (seen r.text r.first)) refl

-- how a size is read, if each number in its bounds is
pub size_leads : (setting : Setting) (at most : ℕ) (k : OptK) (old new : Reading) (result : Result declared.NumberAt ParseFault) → ((n : ℕ) → fits_setting setting n ≡ between 1 most n)
    → ((next : NumberAt → State) → Leads (at_number (between 1 most) next) old result (λ n. runs (next (number_tree n))) new)
    → Leads (runs (sized_word setting at k)) old result (λ n. runs_on (follow_opts (add_opt k (sized setting at (number_tree n))))) new
size_leads setting at most k old new result same leads = rw (at_size setting at most k old same) (leads (λ n. after_opts (add_opt k (sized setting at n))))

takes_limit : (o : Order) (t : Seen) → step (limit_word o) t ≡ take_number (after_limit o) t
takes_limit o (w.Number n at) = refl
takes_limit o t = refl

limit_fits : (n : ℕ) → fits_limit n ≡ between 0 9223372036854775807 n
limit_fits n = grind (arith, nat_tests)

-- how the number behind LIMIT is read
pub limit_leads : (o : Order) (old new : Reading) (result : Result declared.NumberAt ParseFault)
    → ((next : NumberAt → State) → Leads (at_number (between 0 9223372036854775807) next) old result (λ n. runs (next (number_tree n))) new)
    → Leads (runs (limit_word o)) old result (λ n. runs_on (more_limited (limit o (number_tree n)))) new
limit_leads o old new result leads =
    rw (takes_limit o (seen old.text old.first), same_limit fits_limit (between 0 9223372036854775807) limit_fits (seen old.text old.first)) (leads (after_limit o))

at_key : (k : KeyK) (n : ℕ) (r : Reading) → r.first.what ≡ what.Number n → runs (want_key k) r ≡ at_number (between 1 65535) (λ n. after_number n k) r
at_key k n r is = rw is refl

-- how a key that is a number is read
pub key_leads : (k : KeyK) (n : ℕ) (old new : Reading) (result : Result declared.NumberAt ParseFault) → old.first.what ≡ what.Number n
    → ((next : NumberAt → State) → Leads (at_number (between 1 65535) next) old result (λ n. runs (next (number_tree n))) new)
    → Leads (runs (want_key k)) old result (λ n. runs_on (follow_key k (by_number (number_tree n)))) new
key_leads k n old new result is leads = rw (at_key k n old is) (leads (λ n. after_number n k))

-- ---- methods behind USE

takes_method : OptK → ℕ → ℕ → Option Unreserved → Option State
takes_method k at place word = use_method k at place (method_of word)

use_taken : (at : ℕ) (k : OptK) (t : Seen) → step (used_word at k) t ≡ take_word (takes_method k at) t
unfolding takes_method
use_taken at k (w.Name x place) = refl
use_taken at k t = refl

use_reads : (at : ℕ) (k : OptK) (r : Reading) → runs (used_word at k) r ≡ at_word (takes_method k at r.first.at) r
unfolding takes_method
use_reads at k r = rw (use_taken at k (seen r.text r.first)) (reads_word (takes_method k at) r refl)

pub use_passed : (at : ℕ) (k : OptK) (method : Method) (old new : Reading) → method_of (word_seen (seen old.text old.first)) ≡ Some method → old.rest ≡ new.first ∷ new.rest → new.text ≡ old.text
    → runs (used_word at k) old ≡ runs_on (follow_opts (add_opt k (used at method old.first.at))) new
unfolding takes_method
use_passed at k method old new is rest text = use_reads at k old
    ∙ passes_word (takes_method k at old.first.at) (word_seen (seen old.text old.first)) (after_opts (add_opt k (used at method old.first.at))) old new refl rest text (rw is refl)

pub use_refused : (at : ℕ) (k : OptK) (r : Reading) → method_of (word_seen (seen r.text r.first)) ≡ None → runs (used_word at k) r ≡ Stopped (refused_at None r)
unfolding takes_method
use_refused at k r none = use_reads at k r ∙ refuses_word (takes_method k at r.first.at) (word_seen (seen r.text r.first)) r refl (rw none refl)

-- ---- keys

more_keys-append : (before : Keys) (ys : List declared_key.Key) (y : declared_key.Key) → more_keys before (ys ++ y ∷ []) ≡ next_key (more_keys before ys) (key_tree y)
more_keys-append before [] y = refl
more_keys-append before (x ∷ ys) y = more_keys-append (next_key before (key_tree x)) ys y

-- what waits for a key behind one more
pub key_behind-append : (g : Group) (ys : List declared_key.Key) (y : declared_key.Key) → key_behind g (ys ++ y ∷ []) ≡ next_key_k (add_key (key_behind g ys) (key_tree y))
key_behind-append g [] y = refl
key_behind-append g (x ∷ ys) y = ap next_key_k (more_keys-append (first_key g (key_tree x)) ys y)

-- all keys, of which this is the last
pub order_tree-append : (g : Group) (ys : List declared_key.Key) (y : declared_key.Key) → order_tree g (ys ++ y ∷ []) ≡ order_by (add_key (key_behind g ys) (key_tree y))
order_tree-append g [] y = refl
order_tree-append g (x ∷ ys) y = ap order_by (more_keys-append (first_key g (key_tree x)) ys y)

NotComma : Seen → Type 0
NotComma w.Comma = ⊥
NotComma _ = Unit {0}

word_no_comma : (word : Keyword) (at : ℕ) → NotComma (seen_word word at)
unfolding NotComma
word_no_comma keyword.Select at = tt
word_no_comma keyword.Sum at = tt
word_no_comma keyword.Min at = tt
word_no_comma keyword.Max at = tt
word_no_comma word at = tt

seen_no_comma : (text : List ℕ) (token : What) (at : ℕ) → ¬ (token ≡ what.Comma) → NotComma (seen_as text token at)
unfolding NotComma
seen_no_comma text (what.Word word) at other = word_no_comma word at
seen_no_comma text what.Comma at other = absurd (other refl)
seen_no_comma text token at other = tt

no_comma : (ys : Keys) (t : Seen) → NotComma t → follow_keys ys t ≡ more_order (order_by ys) t
unfolding NotComma
no_comma ys w.Comma other = absurd other
no_comma ys t other = refl

-- behind the last key
pub keys_end : (ys : Keys) (r : Reading) → ¬ (r.first.what ≡ what.Comma) → runs_on (follow_keys ys) r ≡ runs_on (more_order (order_by ys)) r
keys_end ys r other = rw (no_comma ys (seen r.text r.first) (seen_no_comma r.text r.first.what r.first.at other)) refl

-- ---- options

more_options-append : (before : Options) (os : List declared_option.QueryOption) (o : declared_option.QueryOption)
    → more_options before (os ++ o ∷ []) ≡ next_option (more_options before os) (opt_tree o)
more_options-append before [] o = refl
more_options-append before (x ∷ os) o = more_options-append (next_option before (opt_tree x)) os o

-- what waits for an option behind one more
pub option_behind-append : (l : Limited) (os : List declared_option.QueryOption) (o : declared_option.QueryOption)
    → option_behind l (os ++ o ∷ []) ≡ next_opt_k (add_opt (option_behind l os) (opt_tree o))
option_behind-append l [] o = refl
option_behind-append l (x ∷ os) o = ap next_opt_k (more_options-append (first_option l (opt_tree x)) os o)

-- all options, of which this is the last
pub options_tree-append : (l : Limited) (os : List declared_option.QueryOption) (o : declared_option.QueryOption)
    → options_tree l (os ++ o ∷ []) ≡ options (add_opt (option_behind l os) (opt_tree o))
options_tree-append l [] o = refl
options_tree-append l (x ∷ os) o = ap options (more_options-append (first_option l (opt_tree x)) os o)
