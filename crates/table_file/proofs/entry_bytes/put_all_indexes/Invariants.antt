use Rattle.std.proofs.Common.{drop}
use Rattle.std.specs.List.{flat_map}
use Rattle.table_file.specs.CatalogueBytes.{index_bytes}
use Rattle.part_codec.proofs.Putting.{HasPut}
use Rattle.table_file.proofs.entry_bytes.put_all_indexes.Given as goal

abbrev pub invariant-loop-index : goal.invariant-loop-index
invariant-loop-index l = HasPut l.fn.body l.at (flat_map index_bytes l.indexes) (flat_map index_bytes (drop l.index-index l.indexes)) l.body l.end
