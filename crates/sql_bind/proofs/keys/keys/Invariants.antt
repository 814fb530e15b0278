use Rattle.std.proofs.Common.{◌≡◌, ◌++◌, drop, map}
use Rattle.sql_bind.specs.Bound.{bound_key}
use Rattle.sql_bind.specs.Checks.{keys_checks}
use Rattle.grammar_laws.specs.Checks.{first_refusal}
use Rattle.sql_bind.proofs.keys.keys.Given as goal

-- The keys so far refuse nothing, so that the first refusal is that of those that are left, and they are followed by those.
abbrev pub invariant-loop-key : goal.invariant-loop-key
invariant-loop-key l = record {
  checks : first_refusal (keys_checks l.scope l.items l.keys) ≡ first_refusal (keys_checks l.scope l.items (drop l.key-index l.keys));
  bound : map (bound_key l.scope l.items) l.keys ≡ l.bound ++ map (bound_key l.scope l.items) (drop l.key-index l.keys);
}
