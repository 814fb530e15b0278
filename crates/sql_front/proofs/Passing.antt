-- A run passes a token that the state takes.
use Rattle.std.specs.Prelude.{◌≡◌, ◌≤◌, ℕ, Bool, false, true, if◌then◌else◌, List, ◌∷◌, Option, Some, None}
use Rattle.std.proofs.Common.{refl, sym, ap, ◌∙◌}
use Rattle.std.proofs.lemmas.Bool.{le-leb}
use Rattle.sql_tokens.specs.declared.token.Keyword.TheVariants as kw
use Rattle.sql_tokens.specs.declared.token.What.{What}
use Rattle.sql_tokens.specs.declared.token.What.TheVariants as what
use Rattle.sql_front.specs.declared.words.Unreserved.{Unreserved}
use Rattle.sql_front.specs.Machine.{State, step, limits, free_limit, running}
use Rattle.sql_front.specs.Reads.{Reading, refused_at, runs, runs_on, word_seen}
use Rattle.sql_front.specs.Seen.{Seen, seen, seen_as}
use Rattle.sql_front.specs.Seen as w
use Rattle.sql_front.specs.Spell.{between}
use Rattle.sql_front.specs.Tail.{at_number}
use Rattle.sql_front.specs.Tree.{NumberAt}
use Rattle.sql_front.specs.Words.{unreserved}
use Rattle.grammar_laws.specs.Machine.{Outcome, Stopped, on_step}
use Rattle.grammar_laws.specs.Reading.{Refusal}

pub passes : (st next : State) (token : What) (old new : Reading) → old.first.what ≡ token → old.rest ≡ new.first ∷ new.rest → new.text ≡ old.text
    → limits st (seen_as old.text token old.first.at) ≡ true → step st (seen_as old.text token old.first.at) ≡ Some next → runs st old ≡ runs next new
passes st next token old new is rest text allowed takes = rw (is, allowed, takes, rest) (ap (λ ts. running ts next (new.first ∷ new.rest)) (sym text))

pub passes_on : (more : Seen → Option State) (next : State) (token : What) (old new : Reading) → old.first.what ≡ token → old.rest ≡ new.first ∷ new.rest → new.text ≡ old.text
    → free_limit (seen_as old.text token old.first.at) ≡ true → more (seen_as old.text token old.first.at) ≡ Some next → runs_on more old ≡ runs next new
passes_on more next token old new is rest text allowed takes = rw (is, allowed, takes, rest) (ap (λ ts. running ts next (new.first ∷ new.rest)) (sym text))

pub passes_number : (least most : ℕ) (next : NumberAt → State) (n : ℕ) (old new : Reading) → old.first.what ≡ what.Number n → least ≤ n → n ≤ most
    → old.rest ≡ new.first ∷ new.rest → new.text ≡ old.text → at_number (between least most) next old ≡ runs (next (record { value = n; at = old.first.at })) new
passes_number least most next n old new is low high rest text =
    rw (is, le-leb least n low, le-leb n most high, rest) (ap (λ ts. running ts (next (record { value = n; at = old.first.at })) (new.first ∷ new.rest)) (sym text))

-- a run goes on over what is left behind a token
pub passed : (st : State) (r next : Reading) → r.rest ≡ next.first ∷ next.rest → next.text ≡ r.text → running r.text st r.rest ≡ runs st next
passed st r next rest text = ap (running r.text st) rest ∙ ap (λ (t : List ℕ). running t st (next.first ∷ next.rest)) (sym text)

-- ---- words that are names elsewhere

-- what a state takes that takes nothing but such words, each at its place
abbrev pub take_word : (ℕ → Option Unreserved → Option State) → Seen → Option State
take_word take (w.Name x at) = take at (unreserved x)
take_word take _ = None

-- where nothing but such a word may stand
abbrev pub at_word : (Option Unreserved → Option State) → Reading → Outcome State
at_word take r = on_step (λ st. running r.text st r.rest) (refused_at None r) (take (word_seen (seen r.text r.first)))

either_way : (b : Bool) (o : Outcome State) → (if b then o else o) ≡ o
either_way false o = refl
either_way true o = refl

takes : (take : ℕ → Option Unreserved → Option State) (go : State → Outcome State) (told : Refusal) (text : List ℕ) (token : What) (at : ℕ) → take at None ≡ None
    → (if free_limit (seen_as text token at) then on_step go told (take_word take (seen_as text token at)) else Stopped told) ≡ on_step go told (take at (word_seen (seen_as text token at)))
takes take go told text (what.Name x) at none = refl
takes take go told text (what.Number n) at none = rw none (either_way (free_limit (w.Number n at)) (Stopped told))
takes take go told text (what.Word kw.Select) at none = rw none refl
takes take go told text (what.Word word) at none = rw none refl
takes take go told text token at none = rw none refl

pub reads_word : (take : ℕ → Option Unreserved → Option State) (r : Reading) → take r.first.at None ≡ None → runs_on (take_word take) r ≡ at_word (take r.first.at) r
reads_word take r none = takes take (λ st. running r.text st r.rest) (refused_at None r) r.text r.first.what r.first.at none

pub passes_word : (take : Option Unreserved → Option State) (word : Option Unreserved) (next : State) (old new : Reading) → word_seen (seen old.text old.first) ≡ word
    → old.rest ≡ new.first ∷ new.rest → new.text ≡ old.text → take word ≡ Some next → at_word take old ≡ runs next new
passes_word take word next old new is rest text goes = rw (is, goes) (passed next old new rest text)

pub refuses_word : (take : Option Unreserved → Option State) (word : Option Unreserved) (r : Reading) → word_seen (seen r.text r.first) ≡ word → take word ≡ None
    → at_word take r ≡ Stopped (refused_at None r)
refuses_word take word r is none = rw (is, none) refl
