use Rattle.std.proofs.Common.{drop}
use Rattle.std.specs.List.{flat_map}
use Rattle.table_file.specs.CatalogueBytes.{column_bytes}
use Rattle.part_codec.proofs.Putting.{HasPut}
use Rattle.table_file.proofs.entry_bytes.put_columns.Given as goal

abbrev pub invariant-loop-column : goal.invariant-loop-column
invariant-loop-column l = HasPut l.fn.body l.at (flat_map column_bytes l.columns) (flat_map column_bytes (drop l.column-index l.columns)) l.body l.end
