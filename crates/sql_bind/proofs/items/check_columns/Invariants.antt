use Rattle.std.proofs.Common.{◌≡◌, drop}
use Rattle.sql_bind.specs.Checks.{columns_checks}
use Rattle.grammar_laws.specs.Checks.{first_refusal}
use Rattle.sql_bind.proofs.items.check_columns.Given as goal

-- the first refusal is that of the columns that are left
abbrev pub invariant-loop-column : goal.invariant-loop-column
invariant-loop-column l = first_refusal (columns_checks l.scope l.columns) ≡ first_refusal (columns_checks l.scope (drop l.column-index l.columns))
