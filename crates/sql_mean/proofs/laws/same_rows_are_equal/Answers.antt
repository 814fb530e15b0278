use Rattle.sql_mean.proofs.Equal.{rows_are_equal}
use Rattle.sql_mean.proofs.laws.same_rows_are_equal.Goals as goal

pub returns : goal.returns
returns c = rows_are_equal
