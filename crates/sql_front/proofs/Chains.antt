-- A condition whose units are being read: the state that it stands in, and one unit more.
use Rattle.std.specs.Prelude.{◌≡◌, ◌<◌, ◌≤◌, ◌+◌, ℕ, List, [], ◌∷◌, ◌++◌, length, Some, None}
use Rattle.std.proofs.Common.{sym, ap, arith, ◌∙◌}
use Rattle.sql_tokens.specs.declared.token.Token.{Token}
use Rattle.sql_front.proofs.ConditionTokens.{next_k, joint_passed, next_open, unit_joined, cond_ends, nots_more, nots_open}
use Rattle.sql_front.proofs.Making.{joined_push}
use Rattle.sql_front.specs.declared.conditions.Joint.{Joint}
use Rattle.sql_front.specs.declared.tree.Joined.{Joined}
use Rattle.sql_front.specs.declared.tree.Predicate.{Predicate}
use Rattle.sql_front.specs.Machine.{UnitK, not_k, CondK, want, want_cond, open_unit, open_cond, follow_cond}
use Rattle.sql_front.specs.Reads.{Reading, runs, runs_on, follow_unit, follow_last, nots_k, joint_of, joined_last}
use Rattle.sql_front.specs.Tree.{CondTree}
use Rattle.sql_front.specs.View.{one_cond, predicate_tree, next_unit, more_joined}

fewer : (first : Token) (more rest last : List Token) (n : ℕ) → rest ≡ first ∷ more → length last < length more → length rest < n → length last < n
fewer first more rest last n is below most = omega (arith, ap length is)

-- ---- NOT

-- from `old` to `now`: so many NOTs before a unit
pub record ReadsNots (depth : ℕ) (old : Reading) (n : ℕ) (now : Reading) : Type 0 where
  pub led : (k : UnitK) → open_unit k ≡ depth → runs (want k) old ≡ runs (want (nots_k n k)) now
  pub within : depth + n ≤ 64
  pub shorter : length now.rest ≤ length old.rest

pub not_read : {depth : ℕ} {old : Reading} {n : ℕ} {now : Reading} → ReadsNots depth old n now → (next : Reading)
    → ((k : UnitK) → open_unit k ≡ depth + n → runs (want k) now ≡ runs (want (not_k k)) next) → depth + n < 64 → length next.rest < length now.rest → ReadsNots depth old (n + 1) next
not_read {depth} {old} {n} {now} reads next led within shorter = record {
  led = λ k same. reads.led k same ∙ (led (nots_k n k) (nots_open n depth k same) ∙ ap (λ (k : UnitK). runs (want k) next) (sym (nots_more n k)));
  within = omega (arith, within);
  shorter = omega (arith, shorter, reads.shorter);
}

-- ---- AND and OR

-- a first unit and those behind it
abbrev pub units : Predicate → List Joined → CondTree
units first more = more_joined (one_cond (predicate_tree first)) more

-- from `old` to `now`: a unit and more behind it
pub record ReadsUnits (depth : ℕ) (old : Reading) (first : Predicate) (more : List Joined) (now : Reading) : Type 0 where
  pub led : (k : CondK) → open_cond k ≡ depth → runs (want_cond k) old ≡ runs_on (follow_last (units first more) k) now
  pub shorter : length now.rest < length old.rest

-- at AND and OR the next one is wanted
pub unit_wanted : {depth : ℕ} {old now : Reading} {first : Predicate} {more : List Joined} → ReadsUnits depth old first more now
    → (next : Reading) (token : Token) (j : Joint) → token ≡ now.first → Some j ≡ joint_of token.what → now.rest ≡ next.first ∷ next.rest → next.text ≡ now.text
    → (k : CondK) → open_cond k ≡ depth → runs (want_cond k) old ≡ runs (want (next_k j (units first more) k)) next
unit_wanted {now} {first} {more} reads next token j here is rest text k same = reads.led k same ∙ joint_passed j (units first more) k now next token here is rest text

-- as many parentheses and NOTs stand open around it
pub next_same : {depth : ℕ} {old now : Reading} {first : Predicate} {more : List Joined} → ReadsUnits depth old first more now
    → (j : Joint) (k : CondK) → open_cond k ≡ depth → open_unit (next_k j (units first more) k) ≡ depth
next_same {first} {more} reads j k same = next_open j (units first more) k ∙ same

-- elsewhere the condition has been read whole
pub units_end : {depth : ℕ} {old now : Reading} {first : Predicate} {more : List Joined} → ReadsUnits depth old first more now
    → joint_of now.first.what ≡ None → (k : CondK) → open_cond k ≡ depth → runs (want_cond k) old ≡ runs_on (follow_cond k (units first more)) now
units_end {now} {first} {more} reads none k same = reads.led k same ∙ cond_ends (units first more) k now none

pub unit_read : {depth : ℕ} {old now : Reading} {first : Predicate} {more : List Joined} → ReadsUnits depth old first more now
    → (next new : Reading) (token : Token) (j : Joint) (u : Predicate) (i : Joined) (all : List Joined) → token ≡ now.first → Some j ≡ joint_of token.what → now.rest ≡ next.first ∷ next.rest → next.text ≡ now.text
    → ((k : UnitK) → open_unit k ≡ depth → runs (want k) next ≡ runs_on (follow_unit k (predicate_tree u)) new) → length new.rest < length next.rest
    → ((before : CondTree) → next_unit before i ≡ joined_last j before (predicate_tree u)) → all ≡ more ++ i ∷ [] → ReadsUnits depth old first all new
unit_read {depth} {old} {now} {first} {more} reads next new token j u i all here is rest text led shorter joined pushed = record {
  led = λ k same. unit_wanted reads next token j here is rest text k same ∙ (led (next_k j (units first more) k) (next_same reads j k same)
      ∙ (unit_joined j (units first more) k (predicate_tree u) new
      ∙ ap (λ (c : CondTree). runs_on (follow_last c k) new) (sym (ap (units first) pushed ∙ (joined_push (one_cond (predicate_tree first)) more i ∙ joined (units first more))))));
  shorter = fewer next.first next.rest now.rest new.rest (length old.rest) rest shorter reads.shorter;
}
