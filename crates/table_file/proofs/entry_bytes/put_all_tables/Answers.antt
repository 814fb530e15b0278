use Rattle.std.specs.List.{flat_map}
use Rattle.table_file.specs.CatalogueBytes.{IsTable, table_bytes}
use Rattle.part_codec.proofs.Putting.{each_at, next_part, no_part, puts_all, puts_more, puts_room, starts_putting}
use Rattle.table_file.proofs.entry_bytes.put_all_tables.Goals as goal

pub loop-table-init : goal.loop-table-init
loop-table-init c = starts_putting c.args.body.now c.args.at (flat_map table_bytes c.args.tables.now)

pub put_table-end-requires : goal.put_table-end-requires
put_table-end-requires c =
    let next = next_part table_bytes c.args.tables.now c.loop-table.table-index c.table-item.result c.loop-table-test.true c.table-item.is in
    record {
      table = (c.requires.each.0, each_at (IsTable c.requires.each.0) c.args.tables.now c.loop-table.table-index c.table-item.result c.requires.each.1 c.loop-table-test.true c.table-item.is);
      room = puts_room _ _ c.loop-table.invariant next c.requires.room;
    }

pub loop-table-preserved : goal.loop-table-preserved
loop-table-preserved c =
    let next = next_part table_bytes c.args.tables.now c.loop-table.table-index c.table-item.result c.loop-table-test.true c.table-item.is in
    puts_more _ _ c.loop-table.invariant next c.put_table-end.ensures

pub returns : goal.returns
returns c = puts_all c.loop-table.invariant (no_part table_bytes c.args.tables.now c.loop-table.table-index c.loop-table-test.false)
