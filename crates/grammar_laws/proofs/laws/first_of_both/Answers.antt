use Rattle.grammar_laws.proofs.Checking.{first_of_both}
use Rattle.grammar_laws.proofs.laws.first_of_both.Goals as goal

pub returns : goal.returns
returns g c = first_of_both
