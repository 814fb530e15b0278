use Rattle.qsr_lists.proofs.Products.{length-product}
use Rattle.qsr_lists.proofs.laws.product_size.Goals as goal

pub returns : goal.returns
returns g c = length-product
