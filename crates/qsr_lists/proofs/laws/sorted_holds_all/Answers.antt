use Rattle.qsr_lists.proofs.Sorting.{sorted_holds_all}
use Rattle.qsr_lists.proofs.laws.sorted_holds_all.Goals as goal

pub returns : goal.returns
returns g c = sorted_holds_all
