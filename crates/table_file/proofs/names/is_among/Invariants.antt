use Rattle.std.proofs.Common.{◌≡◌, drop}
use Rattle.qsr_value.specs.Names.{is_among}
use Rattle.table_file.specs.Refusals.{column_names}
use Rattle.table_file.proofs.names.is_among.Given as goal

-- the name is to be found among the columns that are left
abbrev pub invariant-loop-column : goal.invariant-loop-column
invariant-loop-column l = is_among l.name (column_names l.columns) ≡ is_among l.name (column_names (drop l.column-index l.columns))
