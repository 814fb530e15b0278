use Rattle.std.proofs.Common.{drop}
use Rattle.std.specs.List.{flat_map}
use Rattle.table_file.specs.CatalogueBytes.{table_bytes}
use Rattle.part_codec.proofs.Putting.{HasPut}
use Rattle.table_file.proofs.entry_bytes.put_all_tables.Given as goal

abbrev pub invariant-loop-table : goal.invariant-loop-table
invariant-loop-table l = HasPut l.fn.body l.at (flat_map table_bytes l.tables) (flat_map table_bytes (drop l.table-index l.tables)) l.body l.end
