use Rattle.qsr_lists.proofs.Sorting.{ties_stay}
use Rattle.qsr_lists.proofs.laws.ties_stay.Goals as goal

pub returns : goal.returns
returns g c = ties_stay
