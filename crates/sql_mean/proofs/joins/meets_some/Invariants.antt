use Rattle.std.proofs.Common.{◌≡◌, drop}
use Rattle.std.specs.List.{list_any}
use Rattle.sql_bind.specs.View.{conditions_of}
use Rattle.sql_mean.proofs.Joining.{meets}
use Rattle.sql_mean.proofs.joins.meets_some.Given as goal

abbrev pub invariant-loop-row : goal.invariant-loop-row
invariant-loop-row l = list_any (meets (conditions_of l.on) l.env) l.rows ≡ list_any (meets (conditions_of l.on) l.env) (drop l.row-index l.rows)
