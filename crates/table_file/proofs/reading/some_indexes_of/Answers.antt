use Rattle.std.proofs.lemmas.Result.{err_from_is_err_and}
use Rattle.part_codec.specs.Reading.{list_at}
use Rattle.table_file.specs.Reading.{index_at}
use Rattle.part_codec.proofs.Repeats.{ends, goes_on, is_done}
use Rattle.table_file.proofs.reading.some_indexes_of.Goals as goal

pub returns-in_err-index : goal.returns-in_err-index
returns-in_err-index c =
    let p = err_from_is_err_and c.from_residual.result c.from_residual.ensures.1 in
    rw (p.1, p.2) (ends (index_at c.args.sizes.now c.args.tables.now) c.in_err-index.field-0.0 c.loop.indexes c.args.count c.loop.counter c.loop.rest.now (list_at (index_at c.args.sizes.now c.args.tables.now) c.args.count c.args.bytes.now) c.loop-test.true c.in_err-index.ensures c.loop.invariant)

pub loop-preserved : goal.loop-preserved
loop-preserved c =
    rw c.in_ok-push.ensures.ok (goes_on (index_at c.args.sizes.now c.args.tables.now) c.loop.indexes c.args.count c.loop.counter c.loop.rest.now c.in_ok-index.index c.in_ok-index.after.now (list_at (index_at c.args.sizes.now c.args.tables.now) c.args.count c.args.bytes.now) c.loop-test.true c.in_ok-index.ensures c.loop.invariant)

pub returns : goal.returns
returns c = is_done (index_at c.args.sizes.now c.args.tables.now) c.loop.indexes c.args.count c.loop.counter c.loop.rest.now (list_at (index_at c.args.sizes.now c.args.tables.now) c.args.count c.args.bytes.now) c.loop-test.false c.loop.invariant
