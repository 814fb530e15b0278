use Rattle.std.proofs.Common.{arith}
use Rattle.table_file.specs.Reading.{column_at}
use Rattle.part_codec.proofs.Repeats.{repeated_count}
use Rattle.part_codec.proofs.Parts.{byte_most}
use Rattle.table_file.proofs.reading.schema_of.Goals as goal

pub width-requires : goal.width-requires
width-requires c =
    let count = byte_most 1 16 c.args.bytes.now (c.in_ok-count.count, c.in_ok-count.rest.now) c.in_ok-count.ensures.part in
    let long = repeated_count column_at c.in_ok-count.count c.in_ok-count.rest.now (c.in_ok-columns.columns, c.in_ok-columns.rest.now) c.in_ok-columns.ensures in
    omega (arith, count, long)
