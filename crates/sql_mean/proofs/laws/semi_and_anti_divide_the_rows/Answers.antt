use Rattle.sql_mean.proofs.SelectLaws.{divided}
use Rattle.sql_mean.proofs.laws.semi_and_anti_divide_the_rows.Goals as goal

pub returns : goal.returns
returns c = divided
