use Rattle.grammar_laws.proofs.Reading.{one_text}
use Rattle.grammar_laws.proofs.laws.one_text.Goals as goal

pub returns : goal.returns
returns g c = λ m. one_text m.laws
