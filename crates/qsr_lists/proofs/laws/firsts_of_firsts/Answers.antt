use Rattle.qsr_lists.proofs.Firsts.{firsts_of_firsts}
use Rattle.qsr_lists.proofs.laws.firsts_of_firsts.Goals as goal

pub returns : goal.returns
returns g c = firsts_of_firsts
