-- Where a run stands at the items of a select.
use Rattle.std.specs.Prelude.{◌≡◌, ℕ, List, [], ◌∷◌, ◌++◌, true, Option, Some, None, if◌then◌else◌}
use Rattle.std.proofs.Common.{refl, sym, ap, subst, ◌∙◌}
use Rattle.sql_front.specs.declared.tree.Item.{Item}
use Rattle.sql_front.specs.Machine.{State, ItemK, next_item_k, begin_item, want_item, follow_items, free_limit, running}
use Rattle.sql_front.specs.Reads.{Reading, refused_at, runs, runs_on, begin_listed}
use Rattle.sql_front.specs.Seen.{Seen, seen, seen_as}
use Rattle.sql_front.specs.Seen as w
use Rattle.sql_front.specs.Tree.{ItemList, next_item}
use Rattle.sql_front.specs.View.{item_tree, more_items}
use Rattle.grammar_laws.specs.Machine.{Stopped, on_step}
use Rattle.sql_tokens.specs.declared.token.Keyword.TheVariants as kw
use Rattle.sql_tokens.specs.declared.token.Token.{Token}
use Rattle.sql_tokens.specs.declared.token.What.{What}
use Rattle.sql_tokens.specs.declared.token.What.TheVariants as kind

goes_on : (more : Seen → Option State) (st : State) (old : Reading) → more (seen old.text old.first) ≡ Some st → free_limit (seen old.text old.first) ≡ true
    → runs_on more old ≡ running old.text st old.rest
goes_on more st old goes free = rw (free, goes) refl

-- past a token that goes on
pub passes : (more : Seen → Option State) (st : State) (old new : Reading) (token : Token) (what : What)
    → more (seen_as old.text what token.at) ≡ Some st → free_limit (seen_as old.text what token.at) ≡ true
    → token ≡ old.first → token.what ≡ what → old.rest ≡ new.first ∷ new.rest → new.text ≡ old.text → runs_on more old ≡ runs st new
passes more st old new token what goes free here is rest same =
    let a : seen_as old.text what token.at ≡ seen old.text old.first = ap (λ (w : What). seen_as old.text w token.at) (sym is) ∙ ap (seen old.text) here in
    goes_on more st old (subst (λ (t : Seen). more t ≡ Some st) a goes) (subst (λ (t : Seen). free_limit t ≡ true) a free)
    ∙ (ap (running old.text st) rest ∙ ap (λ (text : List ℕ). running text st (new.first ∷ new.rest)) (sym same))

-- where what may follow is the same, a run stands at the same place
pub same_more : (more other : Seen → Option State) (r : Reading) → more (seen r.text r.first) ≡ other (seen r.text r.first) → runs_on more r ≡ runs_on other r
same_more more other r = ap
    (λ (next : Option State). if free_limit (seen r.text r.first) then on_step (λ st. running r.text st r.rest) (refused_at None r) next else Stopped (refused_at None r))

-- behind a comma no `*` stands
no_star : (is : ItemList) (t : Seen) → begin_item (next_item_k is) t ≡ begin_listed (next_item_k is) t
no_star is (w.Star at) = refl
no_star is t = refl

pub behind_comma : (is : ItemList) (old new : Reading) (token : Token) → token ≡ old.first → token.what ≡ kind.Comma → old.rest ≡ new.first ∷ new.rest → new.text ≡ old.text
    → runs_on (follow_items is) old ≡ runs_on (begin_listed (next_item_k is)) new
behind_comma is old new token here comma rest same =
    passes (follow_items is) (want_item (next_item_k is)) old new token kind.Comma refl refl here comma rest same
    ∙ same_more (begin_item (next_item_k is)) (begin_listed (next_item_k is)) new (no_star is (seen new.text new.first))

-- one item more
pub pushes : (before : ItemList) (items : List Item) (i : Item) → more_items before (items ++ i ∷ []) ≡ next_item (more_items before items) (item_tree i)
pushes before [] i = refl
pushes before (first ∷ items) i = pushes (next_item before (item_tree first)) items i

-- where no `*` stands
not_star : (k : ItemK) (text : List ℕ) (what : What) (at : ℕ) → (what ≡ kind.Star → ⊥) → begin_item k (seen_as text what at) ≡ begin_listed k (seen_as text what at)
not_star k text kind.Star at none = absurd (none refl)
not_star k text (kind.Word kw.Select) at none = refl
not_star k text (kind.Word word) at none = refl
not_star k text what at none = refl

pub listed_only : (k : ItemK) (r : Reading) (token : Token) → token ≡ r.first → (token.what ≡ kind.Star → ⊥) → runs_on (begin_item k) r ≡ runs_on (begin_listed k) r
listed_only k r token here none = same_more (begin_item k) (begin_listed k) r (not_star k r.text r.first.what r.first.at (λ star. none (ap (λ (t : Token). t.what) here ∙ star)))
