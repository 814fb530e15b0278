use Rattle.std.proofs.Common.{rules}
use Rattle.sql_mean.proofs.Bags.{next_fits}
use Rattle.sql_mean.proofs.answer.with_others.Goals as goal

pub returns-in_err-more-clause-fits : goal.returns-in_err-more-clause-fits
returns-in_err-more-clause-fits c = λ fit.
    let memory = c.in_err-more.ensures.fits (next_fits c.args.tables.now c.args.others.now c.loop-select.select-index c.select-item.result c.loop-select-test.true c.select-item.is fit) in
    search (rules, memory)
