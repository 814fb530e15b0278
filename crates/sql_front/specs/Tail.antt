-- What stands behind the selects of a query: numbers in bounds, words that are names elsewhere, and lists that are being read.
use Rattle.std.specs.Prelude.{ℕ, Bool, if◌then◌else◌, List, [], ◌∷◌, Option, Some, None}
use Rattle.sql_front.specs.declared.tree.Key.{Key}
use Rattle.sql_front.specs.declared.tree.QueryOption.{QueryOption}
use Rattle.sql_front.specs.Machine.{State, running, number_limit, KeyK, first_key_k, next_key_k, OptK, first_opt_k, next_opt_k}
use Rattle.sql_front.specs.Reads.{Reading, refused_at}
use Rattle.sql_front.specs.Seen.{Seen, seen}
use Rattle.sql_front.specs.Seen as w
use Rattle.sql_front.specs.Tree.{NumberAt, Group, first_key, Limited, first_option}
use Rattle.sql_front.specs.View.{key_tree, more_keys, opt_tree, more_options}
use Rattle.grammar_laws.specs.Machine.{Outcome, Stopped, on_step}

-- where nothing but a number may stand, and the state behind it
abbrev pub take_number : (NumberAt → State) → Seen → Option State
take_number next (w.Number n at) = Some (next (record { value = n; at = at }))
take_number next _ = None

-- at a number that has to fit
abbrev pub at_number : (ℕ → Bool) → (NumberAt → State) → Reading → Outcome State
at_number fits next r =
    if number_limit fits (seen r.text r.first) then on_step (λ st. running r.text st r.rest) (refused_at None r) (take_number next (seen r.text r.first))
    else Stopped (refused_at None r)

-- what waits for a key behind these, and for an option
abbrev pub key_behind : Group → List Key → KeyK
key_behind g [] = first_key_k g
key_behind g (y ∷ more) = next_key_k (more_keys (first_key g (key_tree y)) more)

abbrev pub option_behind : Limited → List QueryOption → OptK
option_behind l [] = first_opt_k l
option_behind l (o ∷ more) = next_opt_k (more_options (first_option l (opt_tree o)) more)

-- behind the first token, which led to this state
abbrev pub runs_past : (ℕ → State) → Reading → Outcome State
runs_past next r = running r.text (next r.first.at) r.rest
