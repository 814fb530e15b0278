use Rattle.grammar_laws.proofs.Reading.{read_text, text_read}
use Rattle.grammar_laws.proofs.laws.reads_exactly.Goals as goal

pub returns : goal.returns
returns g c = λ m tree ts. (read_text m.laws tree ts, text_read m.laws tree ts)
