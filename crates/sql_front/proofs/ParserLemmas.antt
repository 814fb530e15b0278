-- Lists of selects, by what is behind the last.
use Rattle.std.specs.Prelude.{◌≡◌, ℕ, List, [], ◌∷◌, ◌++◌, Result}
use Rattle.std.proofs.Common.{refl, subst}
use Rattle.sql_front.specs.Tree as tree
use Rattle.sql_front.specs.Machine.{begin, ended, running}
use Rattle.sql_front.specs.Reads.{Reading, Leads, runs, has_read, parse_tells}
use Rattle.sql_front.specs.View.{more_selects, query_tree, select_tree}
use Rattle.sql_front.specs.declared.fault.ParseFault.{ParseFault}
use Rattle.sql_front.specs.declared.tree.Query.{Query}
use Rattle.sql_tokens.specs.Tokens.{tokens_of}
use Rattle.grammar_laws.specs.Machine.{Parses, Read, outcome}
use Rattle.sql_front.specs.declared.tree.UnionAll.{UnionAll}

pub selects_push : (g : tree.Group) (us : List UnionAll) (u : UnionAll)
    → more_selects g (us ++ u ∷ []) ≡ select_tree (tree.union_all (more_selects g us) u.union u.all) u.select
selects_push g [] u = refl
selects_push g (v ∷ us) u = selects_push (select_tree (tree.union_all g v.union v.all) v.select) us u

-- a run over a whole text
pub parses : (text : List ℕ) (r new : Reading) (result : Result Query ParseFault) → r.text ≡ text → r.first ∷ r.rest ≡ tokens_of text
    → Leads (runs begin) r result (λ q. has_read (query_tree q)) new → Parses parse_tells (running text) begin ended query_tree (tokens_of text) result
parses text r new result same tokens led =
    subst (λ ts. running text begin ts ≡ outcome parse_tells (running text begin ts) result (λ q. Read (ended (query_tree q)))) tokens
    (subst (λ text. running text begin (r.first ∷ r.rest) ≡ outcome parse_tells (running text begin (r.first ∷ r.rest)) result (λ q. Read (ended (query_tree q)))) same led)
