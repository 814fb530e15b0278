use Rattle.grammar_laws.proofs.Reading.{goes_not_refused, goes_or_refused}
use Rattle.grammar_laws.proofs.laws.goes_or_refused.Goals as goal

pub returns-clause-one : goal.returns-clause-one
returns-clause-one g c = λ m. goes_or_refused m.laws

pub returns-clause-not_both : goal.returns-clause-not_both
returns-clause-not_both g c = λ m. goes_not_refused m.laws
