use Rattle.std.proofs.Common.{rules}
use Rattle.sql_bind.specs.View.{bound_view}
use Rattle.sql_mean.proofs.AnswerLemmas.{stable_is_answer}
use Rattle.sql_mean.proofs.answer.answer_slowly.Goals as goal

pub returns-clause-answer : goal.returns-clause-answer
returns-clause-answer c = stable_is_answer c.args.tables.now (bound_view c.args.query.now) c.in_ok-ordered.field-0 (search rules)
