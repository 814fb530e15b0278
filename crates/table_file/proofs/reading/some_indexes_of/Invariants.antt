use Rattle.std.proofs.Common.{◌≡◌, ◌-◌}
use Rattle.part_codec.specs.Reading.{list_at}
use Rattle.table_file.specs.Reading.{index_at}
use Rattle.part_codec.proofs.Repeats.{with_front}
use Rattle.table_file.proofs.reading.some_indexes_of.Given as goal

abbrev pub invariant-loop : goal.invariant-loop
invariant-loop l = with_front l.indexes (list_at (index_at l.sizes l.tables) (l.count - l.counter) l.rest) ≡ list_at (index_at l.sizes l.tables) l.count l.bytes
