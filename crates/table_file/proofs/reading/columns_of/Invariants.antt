use Rattle.std.proofs.Common.{◌≡◌, ◌-◌}
use Rattle.part_codec.specs.Reading.{list_at}
use Rattle.table_file.specs.Reading.{column_at}
use Rattle.part_codec.proofs.Repeats.{with_front}
use Rattle.table_file.proofs.reading.columns_of.Given as goal

abbrev pub invariant-loop : goal.invariant-loop
invariant-loop l = with_front l.columns (list_at column_at (l.count - l.counter) l.rest) ≡ list_at column_at l.count l.bytes
