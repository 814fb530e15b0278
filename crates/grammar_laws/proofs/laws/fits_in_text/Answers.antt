use Rattle.grammar_laws.proofs.Reading.{literals_fit}
use Rattle.grammar_laws.proofs.laws.fits_in_text.Goals as goal

pub returns : goal.returns
returns g c = λ m. literals_fit m.laws
