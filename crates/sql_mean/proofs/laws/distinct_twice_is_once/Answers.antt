use Rattle.qsr_lists.proofs.Firsts.{firsts_of_firsts}
use Rattle.sql_mean.specs.Rows.{same_row}
use Rattle.sql_mean.proofs.laws.distinct_twice_is_once.Goals as goal

pub returns : goal.returns
returns c = firsts_of_firsts same_row
