use Rattle.sql_front.specs.Reads.{parse_tells}
use Rattle.qsr_top.proofs.ExplainLemmas.{answer_misread, answer_query, if_ok}
use Rattle.qsr_top.proofs.query_answer.answer_to.Goals as goal

pub returns-in-Ok : goal.returns-in-Ok
returns-in-Ok c =
    if_ok c.answer_to_query.result
    (λ answer. answer_query c.args.tables.now c.args.text.now c.in-Ok.query answer c.in-Ok.ensures.found c.in-Ok.ensures.only c.in-Ok.ensures.only_refused)
    c.answer_to_query.ensures

pub returns-in-Err : goal.returns-in-Err
returns-in-Err c =
    if_ok c.answer_to_misread.result
    (λ answer. answer_misread c.args.tables.now c.args.text.now (parse_tells c.in-Err.fault) answer c.in-Err.ensures.refused c.in-Err.ensures.only c.in-Err.ensures.only_refused)
    c.answer_to_misread.ensures
