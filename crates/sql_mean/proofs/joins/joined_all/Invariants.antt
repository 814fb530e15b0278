use Rattle.std.proofs.Common.{◌≡◌, [], ◌∷◌, drop, map}
use Rattle.sql_bind.specs.View.{table_view}
use Rattle.sql_mean.specs.Meaning.{joined_all}
use Rattle.sql_mean.proofs.joins.joined_all.Given as goal

abbrev pub invariant-loop-table : goal.invariant-loop-table
invariant-loop-table l = joined_all l.tables (map table_view l.from) ([] ∷ []) ≡ joined_all l.tables (map table_view (drop l.table-index l.from)) l.joined
