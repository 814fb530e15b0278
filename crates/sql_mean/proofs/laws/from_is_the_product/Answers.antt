use Rattle.sql_mean.proofs.JoinLaws.{from_is_the_product}
use Rattle.sql_mean.proofs.laws.from_is_the_product.Goals as goal

pub returns : goal.returns
returns c = from_is_the_product
