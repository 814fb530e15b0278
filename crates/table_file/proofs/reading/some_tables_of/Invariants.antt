use Rattle.std.proofs.Common.{◌≡◌, ◌-◌}
use Rattle.part_codec.specs.Reading.{list_at}
use Rattle.table_file.specs.Reading.{table_at}
use Rattle.part_codec.proofs.Repeats.{with_front}
use Rattle.table_file.proofs.reading.some_tables_of.Given as goal

abbrev pub invariant-loop : goal.invariant-loop
invariant-loop l = with_front l.tables (list_at (table_at l.sizes) (l.count - l.counter) l.rest) ≡ list_at (table_at l.sizes) l.count l.bytes
