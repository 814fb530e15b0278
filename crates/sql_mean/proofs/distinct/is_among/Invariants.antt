use Rattle.std.proofs.Common.{◌≡◌, drop}
use Rattle.std.specs.List.{list_any}
use Rattle.sql_mean.specs.Rows.{Row, same_row}
use Rattle.sql_mean.proofs.distinct.is_among.Given as goal

-- a row that is the same is to be found among those that are left
abbrev pub invariant-loop-other : goal.invariant-loop-other
invariant-loop-other l = list_any (λ (other : Row). same_row other l.row) l.others ≡ list_any (λ (other : Row). same_row other l.row) (drop l.other-index l.others)
