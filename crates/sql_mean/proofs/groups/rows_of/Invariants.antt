use Rattle.std.proofs.Common.{◌≡◌, ◌++◌, List, drop, map}
use Rattle.sql_bind.specs.View.{select_view}
use Rattle.sql_mean.specs.Meaning.{Joined, group_row}
use Rattle.sql_mean.specs.Rows.{Row}
use Rattle.sql_mean.proofs.groups.rows_of.Given as goal

-- the rows so far are followed by those of the groups that are left
abbrev pub invariant-loop-group : goal.invariant-loop-group
invariant-loop-group l =
    map (λ (g : Row × List Joined). group_row (select_view l.select) g.0 g.1) l.groups
    ≡ l.rows ++ map (λ (g : Row × List Joined). group_row (select_view l.select) g.0 g.1) (drop l.group-index l.groups)
