use Rattle.qsr_lists.proofs.Sorting.{ties_stay}
use Rattle.sql_mean.specs.Meaning.{is_before}
use Rattle.sql_mean.proofs.OrderLaws.{rows_rank}
use Rattle.sql_mean.proofs.laws.ties_stay_in_order.Goals as goal

pub returns : goal.returns
returns c = λ keys rows. ties_stay (is_before keys) rows (rows_rank keys)
