use Rattle.std.proofs.Common.{sym}
use Rattle.sql_mean.proofs.RowSteps.{of_two_lengths}
use Rattle.sql_mean.proofs.distinct.same_row.Goals as goal

pub returns-then-a-b : goal.returns-then-a-b
returns-then-a-b c = sym (of_two_lengths c.args.a.now c.args.b.now c.if-a-b.true)
