use Rattle.sql_mean.proofs.SelectLaws.{on_in_where}
use Rattle.sql_mean.proofs.laws.on_of_the_last_table_may_stand_in_where.Goals as goal

pub returns : goal.returns
returns c = on_in_where
