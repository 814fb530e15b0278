use Rattle.std.proofs.Common.{refl}
use Rattle.sql_mean.specs.Meaning.{stable_answer}
use Rattle.sql_mean.proofs.AnswerLemmas.{stable_is_answer}
use Rattle.sql_mean.proofs.laws.a_stable_answer_is_an_answer.Goals as goal

pub returns : goal.returns
returns c = λ tables q. stable_is_answer tables q (stable_answer tables q) refl
