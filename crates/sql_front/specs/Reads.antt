-- What the functions of the parser say: how a run of the machine goes on.
use Rattle.std.specs.Prelude.{◌≡◌, ℕ, zero, suc, if◌then◌else◌, List, ◌∷◌, Option, Some, None, Result}
use Rattle.sql_tokens.specs.declared.token.Keyword.TheVariants as kw
use Rattle.sql_tokens.specs.declared.token.Token.{Token}
use Rattle.sql_tokens.specs.declared.token.What.{What}
use Rattle.sql_front.specs.declared.conditions.Joint.{Joint}
use Rattle.sql_front.specs.declared.conditions.Joint.TheVariants as joint
use Rattle.sql_front.specs.declared.fault.ParseFault.{ParseFault}
use Rattle.sql_front.specs.declared.fault.ParseFault.TheVariants as fault
use Rattle.sql_front.specs.declared.tables.Ahead.{Ahead}
use Rattle.sql_front.specs.declared.tables.Ahead.TheVariants as ahead
use Rattle.sql_front.specs.declared.tables.Link.{Link}
use Rattle.sql_front.specs.declared.tables.Link.TheVariants as link
use Rattle.sql_front.specs.declared.tables.Pair.{Pair}
use Rattle.sql_front.specs.declared.tables.Pair.TheVariants as pair
use Rattle.sql_front.specs.declared.words.Unreserved.{Unreserved}
use Rattle.sql_front.specs.declared.words.Unreserved.TheVariants as u
use Rattle.sql_front.specs.Machine.{State, want_cond, want_table, want_select, order_word, ended, running, free_limit, UnitK, not_k, only_k, or_k, CondK, where_k}
use Rattle.sql_front.specs.Machine.{ItemK, TableK, before_k, join_k, give, follow_conj, follow_table, behind_table, begin_item, more_where, more_order}
use Rattle.sql_front.specs.Seen.{Seen, seen, words}
use Rattle.sql_front.specs.Seen as w
use Rattle.sql_front.specs.Tree.{UnitTree, CondTree, one_conj, or_conj, Items, from, comma, From, FromTable, bare, no_where, Group, no_group, no_order, Query, union_all}
use Rattle.sql_front.specs.View.{and_last, or_last, join_tree}
use Rattle.sql_front.specs.Words.{unreserved}
use Rattle.grammar_laws.specs.Machine.{Outcome, Read, Stopped, on_step, outcome}
use Rattle.grammar_laws.specs.Reading.{Refusal, Syntax, WideLiteral, refusal_at}
use Rattle.sql_tokens.specs.declared.token.What.TheVariants as what
use Rattle.sql_front.specs.declared.words.Comparison.{Comparison}
use Rattle.sql_front.specs.declared.words.Comparison.TheVariants as op

-- the refusal that a fault parse_tells of; want of memory parse_tells of none
abbrev pub parse_tells : ParseFault → Option Refusal
parse_tells (fault.Syntax at) = Some (Syntax at)
parse_tells (fault.WideLiteral at) = Some (WideLiteral at)
parse_tells fault.Memory = None

-- a text that is being read: its first token that is still to come, and those behind it
pub record Reading : Type 0 where
  pub text : List ℕ
  pub first : Token
  pub rest : List Token

-- the refusal of the first token, behind a `-` at this place if there is one
abbrev pub refused_at : Option ℕ → Reading → Refusal
refused_at signed r = refusal_at (words r.text) signed r.first r.rest

-- ---- where a run stands

-- in a state
abbrev pub runs : State → Reading → Outcome State
runs st r = running r.text st (r.first ∷ r.rest)

-- behind a part that has been read, where `more` takes what may follow it
abbrev pub runs_on : (Seen → Option State) → Reading → Outcome State
runs_on more r =
    if free_limit (seen r.text r.first) then on_step (λ st. running r.text st r.rest) (refused_at None r) (more (seen r.text r.first))
    else Stopped (refused_at None r)

-- at the end of a query
abbrev pub has_read : Query → Reading → Outcome State
has_read q r = Read (ended q)

-- From where it stands over the old tokens a run goes as from behind the value over the new ones, or it stops as the fault parse_tells.
abbrev pub Leads : {X : Type 0} → (Reading → Outcome State) → Reading → Result X ParseFault → (X → Reading → Outcome State) → Reading → Type 0
Leads stands old result behind new = stands old ≡ outcome parse_tells (stands old) result (λ x. behind x new)

-- ---- what may follow the parts that functions of the parser read

-- a unit
abbrev pub follow_unit : UnitK → UnitTree → Seen → Option State
follow_unit k u t = let a = give k u in follow_conj a.0 a.1 t

-- an item, but for `*`
abbrev pub begin_listed : ItemK → Seen → Option State
begin_listed k (w.Star at) = None
begin_listed k t = begin_item k t

-- all items
abbrev pub begin_from : Items → Seen → Option State
begin_from i (w.Word kw.From) = Some (want_table (before_k (from i)))
begin_from i t = None

-- a table: one name has no second one behind it
abbrev pub behind_names : FromTable → TableK → Seen → Option State
behind_names (bare n) k t = behind_table (bare n) k t
behind_names names k t = follow_table names k t

-- all tables
abbrev pub begin_where : From → Seen → Option State
begin_where f (w.Word kw.Where) = Some (want_cond (where_k f))
begin_where f t = more_where (no_where f) t

-- all selects
abbrev pub begin_order : Group → Seen → Option State
begin_order g (w.Word kw.Order) = Some (order_word g)
begin_order g t = more_order (no_order g) t

-- the next select, behind UNION at one place and ALL at the other, if these words were read
abbrev pub at_union : Group → Option (ℕ × ℕ) → Reading → Outcome State
at_union g None = runs_on (begin_order g)
at_union g (Some words) = runs (want_select (union_all g words.0 words.1))

-- behind FROM and its tables, where these words were read or not
abbrev pub behind_tables : From → Option (ℕ × ℕ) → Reading → Outcome State
behind_tables f None = runs_on (begin_where f)
behind_tables f words = at_union (no_group (no_where f)) words

-- ---- conditions

-- the operator that a token is
abbrev pub comparison_of : What → Option Comparison
comparison_of what.Equal = Some op.Equal
comparison_of what.Unequal = Some op.Unequal
comparison_of what.Less = Some op.Less
comparison_of what.AtMost = Some op.AtMost
comparison_of what.More = Some op.More
comparison_of what.AtLeast = Some op.AtLeast
comparison_of t = None

-- so many NOTs that were read before a unit
abbrev pub nots_k : ℕ → UnitK → UnitK
nots_k zero k = k
nots_k (suc n) k = not_k (nots_k n k)

-- the word that joins a further unit
abbrev pub joint_of : What → Option Joint
joint_of (what.Word kw.And) = Some joint.And
joint_of (what.Word kw.Or) = Some joint.Or
joint_of t = None

-- a unit behind such a word
abbrev pub joined_last : Joint → CondTree → UnitTree → CondTree
joined_last joint.And c u = and_last c u
joined_last joint.Or c u = or_last c u

-- a condition whose last unit was read
abbrev pub follow_last : CondTree → CondK → Seen → Option State
follow_last (one_conj j) k t = follow_conj j (only_k k) t
follow_last (or_conj c j) k t = follow_conj j (or_k c k) t

-- ---- between tables

-- the word that a token is where such a word may stand
abbrev pub word_seen : Seen → Option Unreserved
word_seen (w.Name x at) = unreserved x
word_seen t = None

-- what two names are together where such words may stand
unfoldable pub pair_of : Option Unreserved → Option Unreserved → Option Pair
pair_of (Some u.Left) (Some u.Semi) = Some pair.LeftJoin
pair_of (Some u.Left) (Some u.Anti) = Some pair.LeftJoin
pair_of (Some u.Union) (Some u.All) = Some pair.UnionAll
pair_of _ _ = None

-- a table behind a comma or JOIN
abbrev pub link_k : From → Link → TableK
link_k f link.Comma = before_k (comma f)
link_k f (link.Join j) = join_k f (join_tree j)

-- behind what was passed behind a table or its condition
abbrev pub at_ahead : From → Ahead → Reading → Outcome State
at_ahead f (ahead.More l) = runs (want_table (link_k f l))
at_ahead f (ahead.End words) = behind_tables f words
