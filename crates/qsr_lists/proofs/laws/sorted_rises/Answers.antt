use Rattle.qsr_lists.proofs.Sorting.{sorted_rises}
use Rattle.qsr_lists.proofs.laws.sorted_rises.Goals as goal

pub returns : goal.returns
returns g c = sorted_rises
