-- What the tokens of conditions do to a run.
use Rattle.std.specs.Prelude.{◌≡◌, ℕ, zero, suc, ◌+◌, Bool, true, false, if◌then◌else◌, List, ◌∷◌, Option, Some, None}
use Rattle.std.proofs.Common.{refl, ap, add-one, arith, ◌∙◌}
use Rattle.sql_tokens.specs.declared.token.Keyword.{Keyword}
use Rattle.sql_tokens.specs.declared.token.Keyword.TheVariants as kw
use Rattle.sql_tokens.specs.declared.token.Name.{Name}
use Rattle.sql_tokens.specs.declared.token.Token.{Token}
use Rattle.sql_tokens.specs.declared.token.What.{What}
use Rattle.sql_tokens.specs.declared.token.What.TheVariants as what
use Rattle.sql_front.proofs.Passing.{passed}
use Rattle.sql_front.specs.declared.conditions.Joint.{Joint}
use Rattle.sql_front.specs.declared.conditions.Joint.TheVariants as joint
use Rattle.sql_front.specs.declared.words.Comparison.{Comparison}
use Rattle.sql_front.specs.Machine.{State, UnitK, unit_limit, free_limit, begin_unit, joined_cond, below, running, ConjK, first_k, only_k, or_k, and_k, not_k, CondK, open_unit, open_cond, give, want, SideK, left_k, side_k, after_column, negated, right, right_k, begin_side, behind_side, follow_left, follow_side, follow_conj, follow_cond}
use Rattle.sql_front.specs.Reads.{Reading, runs, runs_on, follow_unit, follow_last, nots_k, joint_of, joined_last, refused_at, comparison_of}
use Rattle.sql_front.specs.Seen.{Seen, seen, letters_of, seen_as, seen_word, wide}
use Rattle.sql_front.specs.Seen as w
use Rattle.sql_front.specs.Tree.{UnitTree, negation, ConjTree, CondTree, Side, plain, negative, one_conj, or_conj}
use Rattle.sql_front.specs.View.{negations}
use Rattle.grammar_laws.specs.Machine.{Outcome, Stopped, on_step}
use Rattle.grammar_laws.specs.Reading.{Refusal}

-- ---- sides

at_name : (k : SideK) (r : Reading) (token : Token) (name : Name) → token ≡ r.first → token.what ≡ what.Name name
    → runs_on (begin_side k) r ≡ running r.text (after_column (plain (record { letters = letters_of name; at = token.at })) (side_k k)) r.rest
at_name k r token name first is = rw (← first, is) refl

pub side_name : (k : SideK) (r next : Reading) (token : Token) (name : Name) → token ≡ r.first → token.what ≡ what.Name name → r.rest ≡ next.first ∷ next.rest → next.text ≡ r.text
    → runs_on (begin_side k) r ≡ runs (after_column (plain (record { letters = letters_of name; at = token.at })) (side_k k)) next
side_name k r next token name first is rest text = at_name k r token name first is ∙ passed (after_column (plain (record { letters = letters_of name; at = token.at })) (side_k k)) r next rest text

at_minus : (k : SideK) (r : Reading) (token : Token) → token ≡ r.first → token.what ≡ what.Minus → runs_on (begin_side k) r ≡ running r.text (negated token.at k) r.rest
at_minus k r token first is = rw (← first, is) refl

pub side_minus : (k : SideK) (r next : Reading) (token : Token) → token ≡ r.first → token.what ≡ what.Minus → r.rest ≡ next.first ∷ next.rest → next.text ≡ r.text
    → runs_on (begin_side k) r ≡ runs (negated token.at k) next
side_minus k r next token first is rest text = at_minus k r token first is ∙ passed (negated token.at k) r next rest text

at_negated : (minus : ℕ) (k : SideK) (r : Reading) (token : Token) (value : ℕ) → token ≡ r.first → token.what ≡ what.Number value → wide true value ≡ false
    → runs (negated minus k) r ≡ running r.text (behind_side (negative minus (record { value = value; at = token.at })) k) r.rest
at_negated minus k r token value first is narrow = rw (← first, is, narrow) refl

behind : (s : Side) (k : SideK) (r : Reading) → runs (behind_side s k) r ≡ runs_on (follow_side s k) r
behind s (left_k k) r = refl
behind s (right_k l op at k) r = refl

pub side_negated : (minus : ℕ) (k : SideK) (r next : Reading) (token : Token) (value : ℕ) → token ≡ r.first → token.what ≡ what.Number value → wide true value ≡ false
    → r.rest ≡ next.first ∷ next.rest → next.text ≡ r.text → runs (negated minus k) r ≡ runs_on (follow_side (negative minus (record { value = value; at = token.at })) k) next
side_negated minus k r next token value first is narrow rest text =
    at_negated minus k r token value first is narrow ∙ (passed (behind_side (negative minus (record { value = value; at = token.at })) k) r next rest text ∙ behind (negative minus (record { value = value; at = token.at })) k next)

-- ---- operators

sign_seen : (text : List ℕ) (token : What) (at : ℕ) (how : Comparison) → Some how ≡ comparison_of token → seen_as text token at ≡ w.Sign how at
sign_seen text what.Equal at how is = cc
sign_seen text what.Unequal at how is = cc
sign_seen text what.Less at how is = cc
sign_seen text what.AtMost at how is = cc
sign_seen text what.More at how is = cc
sign_seen text what.AtLeast at how is = cc
sign_seen text token at how is = cc

at_sign : (l : Side) (k : UnitK) (r : Reading) (token : Token) (how : Comparison) → token ≡ r.first → Some how ≡ comparison_of token.what
    → runs_on (follow_left l k) r ≡ running r.text (right l how token.at k) r.rest
at_sign l k r token how first is = rw (← first, sign_seen r.text token.what token.at how is) refl

pub sign_passed : (l : Side) (k : UnitK) (r next : Reading) (token : Token) (how : Comparison) → token ≡ r.first → Some how ≡ comparison_of token.what
    → r.rest ≡ next.first ∷ next.rest → next.text ≡ r.text → runs_on (follow_left l k) r ≡ runs_on (begin_side (right_k l how token.at k)) next
sign_passed l k r next token how first is rest text = at_sign l k r token how first is ∙ passed (right l how token.at k) r next rest text

-- ---- AND and OR

abbrev joint_word : Joint → Seen
joint_word joint.And = w.Word kw.And
joint_word joint.Or = w.Word kw.Or

keyword_joins : (word : Keyword) (at : ℕ) (j : Joint) → Some j ≡ joint_of (what.Word word) → seen_word word at ≡ joint_word j
keyword_joins kw.And at j is = cc
keyword_joins kw.Or at j is = cc
keyword_joins word at j is = cc

joint_seen : (text : List ℕ) (token : What) (at : ℕ) (j : Joint) → Some j ≡ joint_of token → seen_as text token at ≡ joint_word j
joint_seen text (what.Word word) at j is = keyword_joins word at j is
joint_seen text token at j is = cc

-- what waits for a unit behind such a word
abbrev pub next_k : Joint → CondTree → CondK → UnitK
next_k joint.And (one_conj j) k = and_k j (only_k k)
next_k joint.And (or_conj c j) k = and_k j (or_k c k)
next_k joint.Or c k = first_k (or_k c k)

at_word : (j : Joint) (c : CondTree) (k : CondK) (r : Reading) (token : Token) → token ≡ r.first → seen_as r.text token.what token.at ≡ joint_word j
    → runs_on (follow_last c k) r ≡ running r.text (want (next_k j c k)) r.rest
at_word joint.And (one_conj j) k r token first is = rw (← first, is) refl
at_word joint.And (or_conj c j) k r token first is = rw (← first, is) refl
at_word joint.Or (one_conj j) k r token first is = rw (← first, is) refl
at_word joint.Or (or_conj c j) k r token first is = rw (← first, is) refl

pub joint_passed : (j : Joint) (c : CondTree) (k : CondK) (r next : Reading) (token : Token) → token ≡ r.first → Some j ≡ joint_of token.what → r.rest ≡ next.first ∷ next.rest → next.text ≡ r.text
    → runs_on (follow_last c k) r ≡ runs (want (next_k j c k)) next
joint_passed j c k r next token first is rest text =
    at_word j c k r token first (joint_seen r.text token.what token.at j is) ∙ passed (want (next_k j c k)) r next rest text

-- what stands open around a unit stands open around the next one
pub next_open : (j : Joint) (c : CondTree) (k : CondK) → open_unit (next_k j c k) ≡ open_cond k
next_open joint.And (one_conj j) k = refl
next_open joint.And (or_conj c j) k = refl
next_open joint.Or c k = refl

-- a unit that is read behind such a word is the last of the condition
pub unit_joined : (j : Joint) (c : CondTree) (k : CondK) (u : UnitTree) (r : Reading) → runs_on (follow_unit (next_k j c k) u) r ≡ runs_on (follow_last (joined_last j c u) k) r
unit_joined joint.And (one_conj j) k u r = refl
unit_joined joint.And (or_conj c j) k u r = refl
unit_joined joint.Or c k u r = refl

keyword_ends : (c : ConjTree) (k : ConjK) (word : Keyword) (at : ℕ) → joint_of (what.Word word) ≡ None
    → follow_conj c k (seen_word word at) ≡ follow_cond (below k) (joined_cond c k) (seen_word word at)
keyword_ends c k kw.And at none = cc
keyword_ends c k kw.Or at none = cc
keyword_ends c k word at none = refl

conj_ends : (c : ConjTree) (k : ConjK) (text : List ℕ) (token : What) (at : ℕ) → joint_of token ≡ None
    → follow_conj c k (seen_as text token at) ≡ follow_cond (below k) (joined_cond c k) (seen_as text token at)
conj_ends c k text (what.Word word) at none = keyword_ends c k word at none
conj_ends c k text token at none = refl

last_ends : (c : CondTree) (k : CondK) (text : List ℕ) (token : What) (at : ℕ) → joint_of token ≡ None → follow_last c k (seen_as text token at) ≡ follow_cond k c (seen_as text token at)
last_ends (one_conj j) k text token at none = conj_ends j (only_k k) text token at none
last_ends (or_conj c j) k text token at none = conj_ends j (or_k c k) text token at none

-- where no such word stands, a condition has been read whole
pub cond_ends : (c : CondTree) (k : CondK) (r : Reading) → joint_of r.first.what ≡ None → runs_on (follow_last c k) r ≡ runs_on (follow_cond k c) r
cond_ends c k r none = ap (λ (taken : Option State). if free_limit (seen r.text r.first) then on_step (λ st. running r.text st r.rest) (refused_at None r) taken else Stopped (refused_at None r))
    (last_ends c k r.text r.first.what r.first.at none)

-- ---- NOT

pub nots_more : (n : ℕ) (k : UnitK) → nots_k (n + 1) k ≡ not_k (nots_k n k)
nots_more n k = rw add-one refl

open_nots : (n : ℕ) (k : UnitK) → open_unit (nots_k n k) ≡ open_unit k + n
open_nots zero k = omega arith
open_nots (suc n) k = omega (arith, open_nots n k)

pub nots_open : (n depth : ℕ) (k : UnitK) → open_unit k ≡ depth → open_unit (nots_k n k) ≡ depth + n
nots_open n depth k same = omega (arith, open_nots n k, same)

negations_inside : (n : ℕ) (u : UnitTree) → negations n (negation u) ≡ negation (negations n u)
negations_inside zero u = refl
negations_inside (suc n) u = ap negation (negations_inside n u)

give_nots : (n : ℕ) (k : UnitK) (u : UnitTree) → give (nots_k n k) u ≡ give k (negations n u)
give_nots zero k u = refl
give_nots (suc n) k u = give_nots n k (negation u) ∙ ap (give k) (negations_inside n u)

-- a unit that is read behind so many NOTs
pub unit_negated : (n : ℕ) (k : UnitK) (u : UnitTree) (r : Reading) → runs_on (follow_unit (nots_k n k) u) r ≡ runs_on (follow_unit k (negations n u)) r
unit_negated n k u r = ap (λ (a : ConjTree × ConjK). runs_on (follow_conj a.0 a.1) r) (give_nots n k u)

-- ---- units

-- a NOT or `(`
abbrev pub opens : What → Bool
opens (what.Word kw.Not) = true
opens what.Open = true
opens _ = false

abbrev at_unit : UnitK → Seen → (State → Outcome State) → Refusal → Outcome State
at_unit k t more told = if unit_limit k t then on_step more told (begin_unit k t) else Stopped told

abbrev at_side : SideK → Seen → (State → Outcome State) → Refusal → Outcome State
at_side k t more told = if free_limit t then on_step more told (begin_side k t) else Stopped told

word_begins : (k : UnitK) (word : Keyword) (at : ℕ) (more : State → Outcome State) (told : Refusal) → opens (what.Word word) ≡ false
    → at_unit k (seen_word word at) more told ≡ at_side (left_k k) (seen_word word at) more told
word_begins k kw.Not at more told none = cc
word_begins k word at more told none = refl

begins : (k : UnitK) (text : List ℕ) (token : What) (at : ℕ) (more : State → Outcome State) (told : Refusal) → opens token ≡ false
    → at_unit k (seen_as text token at) more told ≡ at_side (left_k k) (seen_as text token at) more told
begins k text (what.Word word) at more told none = word_begins k word at more told none
begins k text what.Open at more told none = cc
begins k text token at more told none = refl

word_neither : (word : Keyword) → (what.Word word ≡ what.Word kw.Not → ⊥) → opens (what.Word word) ≡ false
word_neither kw.Not not = absurd (not refl)
word_neither word not = refl

pub neither : (token : What) → (token ≡ what.Word kw.Not → ⊥) → (token ≡ what.Open → ⊥) → opens token ≡ false
neither (what.Word word) not paren = word_neither word not
neither what.Open not paren = absurd (paren refl)
neither token not paren = refl

-- where neither stands, a side is read
pub side_begins : (k : UnitK) (r : Reading) → opens r.first.what ≡ false → runs (want k) r ≡ runs_on (begin_side (left_k k)) r
side_begins k r none = begins k r.text r.first.what r.first.at (λ st. running r.text st r.rest) (refused_at None r) none
