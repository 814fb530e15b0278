use Rattle.std.proofs.Common.{◌≡◌, drop}
use Rattle.table_file.specs.Refusals.{column_names, repeats}
use Rattle.table_file.proofs.names.repeats_name.Given as goal

-- two columns with one name are to be found among those that are left
abbrev pub invariant-loop-place : goal.invariant-loop-place
invariant-loop-place l = repeats (column_names l.columns) ≡ repeats (column_names (drop l.place l.columns))
