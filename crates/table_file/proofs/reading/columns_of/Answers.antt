use Rattle.std.proofs.lemmas.Result.{err_from_is_err_and}
use Rattle.part_codec.specs.Reading.{list_at}
use Rattle.table_file.specs.Reading.{column_at}
use Rattle.part_codec.proofs.Repeats.{ends, goes_on, is_done}
use Rattle.table_file.proofs.reading.columns_of.Goals as goal

pub returns-in_err-column : goal.returns-in_err-column
returns-in_err-column c =
    let p = err_from_is_err_and c.from_residual.result c.from_residual.ensures.1 in
    rw (p.1, p.2) (ends column_at c.in_err-column.field-0.0 c.loop.columns c.args.count c.loop.counter c.loop.rest.now (list_at column_at c.args.count c.args.bytes.now) c.loop-test.true c.in_err-column.ensures c.loop.invariant)

pub loop-preserved : goal.loop-preserved
loop-preserved c =
    rw c.in_ok-push.ensures.ok (goes_on column_at c.loop.columns c.args.count c.loop.counter c.loop.rest.now c.in_ok-column.column c.in_ok-column.after.now (list_at column_at c.args.count c.args.bytes.now) c.loop-test.true c.in_ok-column.ensures c.loop.invariant)

pub returns : goal.returns
returns c = is_done column_at c.loop.columns c.args.count c.loop.counter c.loop.rest.now (list_at column_at c.args.count c.args.bytes.now) c.loop-test.false c.loop.invariant
