use Rattle.grammar_laws.proofs.Reading.{one_refusal}
use Rattle.grammar_laws.proofs.laws.one_refusal.Goals as goal

pub returns : goal.returns
returns g c = λ m. one_refusal m.laws
