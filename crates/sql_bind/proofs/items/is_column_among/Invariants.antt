use Rattle.std.proofs.Common.{◌≡◌, drop}
use Rattle.sql_bind.specs.Checks.{is_column_among}
use Rattle.sql_bind.proofs.items.is_column_among.Given as goal

-- the column is to be found among those that are left
abbrev pub invariant-loop-other : goal.invariant-loop-other
invariant-loop-other l = is_column_among l.column l.others ≡ is_column_among l.column (drop l.other-index l.others)
