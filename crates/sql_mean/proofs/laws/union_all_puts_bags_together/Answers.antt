use Rattle.sql_mean.proofs.SelectLaws.{bags_together}
use Rattle.sql_mean.proofs.laws.union_all_puts_bags_together.Goals as goal

pub returns : goal.returns
returns c = bags_together
