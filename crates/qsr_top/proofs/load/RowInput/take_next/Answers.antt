use Rattle.std.proofs.Common.{◌+◌}
use Rattle.qsr_top.proofs.RowsReadLemmas.{IsUnread-none, ReadsRows-last}
use Rattle.qsr_top.proofs.load.RowInput.take_next.Goals as goal

pub returns-in-Ok-take_last-clause-row : goal.returns-in-Ok-take_last-clause-row
returns-in-Ok-take_last-clause-row c left next =
    let input = c.args.self.now in
    rw c.in-Ok-take_last.ensures.served (ReadsRows-last c.args.schema.now (input.served + 1) input.lines c.take_last.new.self.lines left c.in-Ok-take_last.row
    c.in-Ok-take_last.ensures.lines c.in-Ok-take_last.ensures.row (rw c.in-Unended.is at next))

pub returns-in-End-clause-none : goal.returns-in-End-clause-none
returns-in-End-clause-none c left next =
    IsUnread-none c.args.schema.now (c.args.self.now.served + 1) c.args.self.now.lines left (rw c.in-End.is at next)
