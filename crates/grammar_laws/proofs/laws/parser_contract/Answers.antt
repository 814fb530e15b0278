use Rattle.grammar_laws.proofs.Reading.{found_of, only_of, only_refused_of, refused_of}
use Rattle.grammar_laws.proofs.laws.parser_contract.Goals as goal

pub returns : goal.returns
returns g c = λ m tree_of tells ts result is. (
  found_of m.laws tree_of tells ts result is,
  only_of m.laws tree_of tells ts result is,
  refused_of m.laws tree_of tells ts result is,
  only_refused_of m.laws tree_of tells ts result is,
)
