use Rattle.std.specs.List.{flat_map}
use Rattle.table_file.specs.CatalogueBytes.{IsColumn, column_bytes}
use Rattle.part_codec.proofs.Putting.{each_at, next_part, no_part, puts_all, puts_more, puts_room, starts_putting}
use Rattle.table_file.proofs.entry_bytes.put_columns.Goals as goal

pub loop-column-init : goal.loop-column-init
loop-column-init c = starts_putting c.args.body.now c.args.at (flat_map column_bytes c.args.columns.now)

pub put_column-end-requires : goal.put_column-end-requires
put_column-end-requires c =
    let next = next_part column_bytes c.args.columns.now c.loop-column.column-index c.column-item.result c.loop-column-test.true c.column-item.is in
    record {
      column = each_at IsColumn c.args.columns.now c.loop-column.column-index c.column-item.result c.requires.each c.loop-column-test.true c.column-item.is;
      room = puts_room _ _ c.loop-column.invariant next c.requires.room;
    }

pub loop-column-preserved : goal.loop-column-preserved
loop-column-preserved c =
    let next = next_part column_bytes c.args.columns.now c.loop-column.column-index c.column-item.result c.loop-column-test.true c.column-item.is in
    puts_more _ _ c.loop-column.invariant next c.put_column-end.ensures

pub returns : goal.returns
returns c = puts_all c.loop-column.invariant (no_part column_bytes c.args.columns.now c.loop-column.column-index c.loop-column-test.false)
