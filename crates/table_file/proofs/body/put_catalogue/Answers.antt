use Rattle.std.proofs.Common.{arith}
use Rattle.table_file.specs.CatalogueBytes.{catalogue_bytes}
use Rattle.table_file.proofs.Counts.{catalogue_most}
use Rattle.part_codec.proofs.Putting.{then_puts}
use Rattle.table_file.proofs.body.put_catalogue.Goals as goal

pub put_tables-at-requires-clause-room : goal.put_tables-at-requires-clause-room
put_tables-at-requires-clause-room c =
    let most = (catalogue_most c.requires.0 c.args.catalogue.now c.requires.1).0 in
    rw c.as_slice.ensures (omega (arith, most))

pub put_indexes-requires-clause-room : goal.put_indexes-requires-clause-room
put_indexes-requires-clause-room c =
    let most = catalogue_most c.requires.0 c.args.catalogue.now c.requires.1 in
    let tables = most.0 in
    let indexes = most.1 in
    let end = rw c.as_slice.ensures at c.put_tables-at.ensures.end_is in
    let long = c.put_tables-at.ensures.long in
    rw c.as_slice-2.ensures (omega (arith, tables, indexes, end, long))

pub returns-clause-bytes : goal.returns-clause-bytes
unfolding catalogue_bytes
returns-clause-bytes c =
    let both = then_puts c.put_tables-at.ensures c.put_indexes.ensures in
    rw (c.as_slice.ensures, c.as_slice-2.ensures) at both.front

pub returns-clause-most : goal.returns-clause-most
returns-clause-most c =
    let most = catalogue_most c.requires.0 c.args.catalogue.now c.requires.1 in
    let tables = most.0 in
    let indexes = most.1 in
    let end = rw c.as_slice.ensures at c.put_tables-at.ensures.end_is in
    let last = rw c.as_slice-2.ensures at c.put_indexes.ensures.end_is in
    omega (arith, tables, indexes, end, last)
