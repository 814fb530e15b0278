use Rattle.qsr_value.proofs.Uniqueness.{one_row, row_width}
use Rattle.qsr_value.proofs.laws.encodings_are_exact.Goals as goal

pub returns : goal.returns
returns c = record { width = row_width; one = one_row }
