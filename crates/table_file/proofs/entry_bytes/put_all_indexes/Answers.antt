use Rattle.std.specs.List.{flat_map}
use Rattle.std.proofs.Common.{◌+◌, arith, drop, get_or}
use Rattle.table_file.specs.CatalogueBytes.{index_bytes}
use Rattle.table_file.specs.declared.entries.IndexEntry.{IndexEntry}
use Rattle.table_file.proofs.Counts.{index_count}
use Rattle.part_codec.proofs.Putting.{next_at, no_part, puts_all, puts_more, puts_room, starts_putting}
use Rattle.table_file.proofs.entry_bytes.put_all_indexes.Goals as goal

-- what a place behind the last index would give
abbrev nothing : IndexEntry
nothing = record { table = 0; column = 0; area = 0; rows = 0; leaves = 0; pages = 0; height = 0 }

pub loop-index-init : goal.loop-index-init
loop-index-init c = starts_putting c.args.body.now c.args.at (flat_map index_bytes c.args.indexes.now)

pub put_index-end-requires : goal.put_index-end-requires
put_index-end-requires c =
    let next = next_at index_bytes c.args.indexes.now c.loop-index.index-index nothing c.loop-index-test.true in
    let index = get_or c.args.indexes.now c.loop-index.index-index nothing in
    let room = puts_room (index_bytes index) (flat_map index_bytes (drop (c.loop-index.index-index + 1) c.args.indexes.now)) c.loop-index.invariant next c.requires in
    omega (arith, room, index_count index)

pub loop-index-preserved : goal.loop-index-preserved
loop-index-preserved c =
    let next = next_at index_bytes c.args.indexes.now c.loop-index.index-index nothing c.loop-index-test.true in
    puts_more _ _ c.loop-index.invariant next c.put_index-end.ensures

pub returns : goal.returns
returns c = puts_all c.loop-index.invariant (no_part index_bytes c.args.indexes.now c.loop-index.index-index c.loop-index-test.false)
