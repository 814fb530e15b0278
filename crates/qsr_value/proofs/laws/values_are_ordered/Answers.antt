use Rattle.qsr_value.proofs.ValueOrder.{ties_are_equal, values_total}
use Rattle.qsr_value.proofs.laws.values_are_ordered.Goals as goal

pub returns : goal.returns
returns c = record { order = values_total; ties = ties_are_equal }
