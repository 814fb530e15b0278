-- What tokens of a column do to a run.
use Rattle.std.specs.Prelude.{◌≡◌, ◌∷◌, Option, None, if◌then◌else◌}
use Rattle.std.proofs.Common.{refl, ap, ◌∙◌}
use Rattle.sql_tokens.specs.declared.token.Name.{Name}
use Rattle.sql_tokens.specs.declared.token.Token.{Token}
use Rattle.sql_tokens.specs.declared.token.What.TheVariants as what
use Rattle.sql_front.proofs.Passing.{passed}
use Rattle.sql_front.specs.Machine.{State, CondK, paren_k, on_k, where_k, left_k, right_k, ColumnK, item_k, fold_k, side_k, group_k, key_k}
use Rattle.sql_front.specs.Machine.{running, after_column, after_dot, give, joined_cond, below, follow_cond, follow_column, step, free_limit}
use Rattle.sql_front.specs.Reads.{Reading, runs, runs_on, refused_at}
use Rattle.sql_front.specs.Seen.{Seen, seen, letters_of}
use Rattle.sql_front.specs.Seen as w
use Rattle.sql_front.specs.Tree.{NameAt, Column, dotted, named, CondTree, compare}
use Rattle.grammar_laws.specs.Machine.{Stopped, on_step}

-- ---- behind a column with its table's name no `.` is taken

cond_no_dot : (k : CondK) (c : CondTree) → follow_cond k c w.Dot ≡ None
cond_no_dot (paren_k k) c = refl
cond_no_dot (on_k f j t) c = refl
cond_no_dot (where_k f) c = refl

no_dot : (k : ColumnK) (c : Column) → follow_column k c w.Dot ≡ None
no_dot (item_k k) c = refl
no_dot (fold_k f at k) c = refl
no_dot (side_k (left_k k)) c = refl
no_dot (side_k (right_k l op at k)) c = let a = give k (compare l op at (named c)) in cond_no_dot (below a.1) (joined_cond a.0 a.1)
no_dot (group_k k) c = refl
no_dot (key_k k) c = refl

dotted_step : (t n : NameAt) (k : ColumnK) (s : Seen) → step (after_column (dotted t n) k) s ≡ follow_column k (dotted t n) s
dotted_step t n k w.Dot = rw (no_dot k (dotted t n)) refl
dotted_step t n k s = refl

dotted_runs : (t n : NameAt) (k : ColumnK) (r : Reading) → runs (after_column (dotted t n) k) r ≡ runs_on (follow_column k (dotted t n)) r
dotted_runs t n k r =
    ap (λ (taken : Option State). if free_limit (seen r.text r.first) then on_step (λ st. running r.text st r.rest) (refused_at None r) taken else Stopped (refused_at None r))
    (dotted_step t n k (seen r.text r.first))

-- ---- tokens

at_name : (t : NameAt) (k : ColumnK) (r : Reading) (token : Token) (name : Name) → token ≡ r.first → token.what ≡ what.Name name
    → runs (after_dot t k) r ≡ running r.text (after_column (dotted t (record { letters = letters_of name; at = token.at })) k) r.rest
at_name t k r token name first is = rw (← first, is) refl

pub column_name : (t : NameAt) (k : ColumnK) (r next : Reading) (token : Token) (name : Name) → token ≡ r.first → token.what ≡ what.Name name → r.rest ≡ next.first ∷ next.rest → next.text ≡ r.text
    → runs (after_dot t k) r ≡ runs_on (follow_column k (dotted t (record { letters = letters_of name; at = token.at }))) next
column_name t k r next token name first is rest text =
    at_name t k r token name first is ∙ (passed (after_column (dotted t (record { letters = letters_of name; at = token.at })) k) r next rest text ∙ dotted_runs t (record { letters = letters_of name; at = token.at }) k next)
