use Rattle.std.proofs.Common.{◌≡◌, drop, map, take}
use Rattle.sql_bind.specs.Bound.{bound_select}
use Rattle.sql_bind.specs.Checks.{selects_checks}
use Rattle.sql_bind.specs.View.{select_view}
use Rattle.grammar_laws.specs.Checks.{first_refusal}
use Rattle.sql_bind.proofs.selects.others.Given as goal

-- the selects so far refuse nothing
abbrev pub invariant-loop-next : goal.invariant-loop-next
invariant-loop-next l = record {
  checked : first_refusal (selects_checks l.names l.more) ≡ first_refusal (selects_checks l.names (drop l.next-index l.more));
  bound : map select_view l.selects ≡ map (λ u. bound_select l.names u.select) (take l.next-index l.more);
}
