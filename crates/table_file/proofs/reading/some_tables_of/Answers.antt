use Rattle.std.proofs.lemmas.Result.{err_from_is_err_and}
use Rattle.part_codec.specs.Reading.{list_at}
use Rattle.table_file.specs.Reading.{table_at}
use Rattle.part_codec.proofs.Repeats.{ends, goes_on, is_done}
use Rattle.table_file.proofs.reading.some_tables_of.Goals as goal

pub returns-in_err-table : goal.returns-in_err-table
returns-in_err-table c =
    let p = err_from_is_err_and c.from_residual.result c.from_residual.ensures.1 in
    rw (p.1, p.2) (ends (table_at c.args.sizes.now) c.in_err-table.field-0.0 c.loop.tables c.args.count c.loop.counter c.loop.rest.now (list_at (table_at c.args.sizes.now) c.args.count c.args.bytes.now) c.loop-test.true c.in_err-table.ensures c.loop.invariant)

pub loop-preserved : goal.loop-preserved
loop-preserved c =
    rw c.in_ok-push.ensures.ok (goes_on (table_at c.args.sizes.now) c.loop.tables c.args.count c.loop.counter c.loop.rest.now c.in_ok-table.table c.in_ok-table.after.now (list_at (table_at c.args.sizes.now) c.args.count c.args.bytes.now) c.loop-test.true c.in_ok-table.ensures c.loop.invariant)

pub returns : goal.returns
returns c = is_done (table_at c.args.sizes.now) c.loop.tables c.args.count c.loop.counter c.loop.rest.now (list_at (table_at c.args.sizes.now) c.args.count c.args.bytes.now) c.loop-test.false c.loop.invariant
