use Rattle.std.proofs.Common.{◌≡◌, ◌∷◌, ◌++◌, drop, map}
use Rattle.sql_bind.specs.Bound.{bound_one}
use Rattle.sql_bind.specs.Checks.{items_checks}
use Rattle.grammar_laws.specs.Checks.{first_refusal}
use Rattle.sql_bind.proofs.items.listed.Given as goal

-- The items so far refuse nothing, so that the first refusal is that of those that are left, and they are followed by those.
abbrev pub invariant-loop-item : goal.invariant-loop-item
invariant-loop-item l = record {
  checks : first_refusal (items_checks l.grouping l.scope (l.fn.first ∷ l.more)) ≡ first_refusal (items_checks l.grouping l.scope (drop l.item-index l.more));
  bound : bound_one l.scope l.fn.first ∷ map (bound_one l.scope) l.more ≡ l.items ++ map (bound_one l.scope) (drop l.item-index l.more);
}
