use Rattle.std.proofs.Common.{◌≡◌, ◌+◌, ◌++◌, ◌∷◌, [], drop, map}
use Rattle.sql_bind.specs.Bound.{bound_tables, first_table}
use Rattle.sql_bind.specs.Checks.{ons_checks}
use Rattle.sql_bind.specs.Names.{scope_from, scoped}
use Rattle.sql_bind.specs.View.{table_view}
use Rattle.grammar_laws.specs.Checks.{first_refusal}
use Rattle.sql_bind.proofs.from.tables.Given as goal

-- what is left, over the scope so far, gives the rest of all
abbrev pub invariant-loop-place : goal.invariant-loop-place
invariant-loop-place l = record {
  checked : first_refusal (ons_checks l.names 1 (scoped l.names 0 l.first ∷ []) l.more) ≡ first_refusal (ons_checks l.names (l.place + 1) l.scope (drop l.place l.more));
  bound : map table_view l.tables ++ bound_tables l.names (l.place + 1) l.scope (drop l.place l.more)
      ≡ first_table l.names l.first ∷ bound_tables l.names 1 (scoped l.names 0 l.first ∷ []) l.more;
  seen : scope_from l.names (l.place + 1) l.scope (drop l.place l.more) ≡ scope_from l.names 1 (scoped l.names 0 l.first ∷ []) l.more;
}
