use Rattle.std.proofs.Common.{◌∙◌, sym}
use Rattle.std.proofs.lemmas.Result.{IfErr-weaker, on_ok_weaker}
use Rattle.row_script.proofs.StepLemmas.{Breaks-between, whole_next, bad_whole, bad_long, bad_unended}
use Rattle.row_script.proofs.script.Script.serve_next.Goals as goal

pub returns-in-Some-clause-ok : goal.returns-in-Some-clause-ok
returns-in-Some-clause-ok g c =
    on_ok_weaker c.take_line.result
    (λ serves left next. serves left (whole_next c.in-Whole.len c.args.self.now.input left (rw c.in-Whole.is at next)) (sym c.read_line.ensures.says ∙ c.in-Some.is))
    c.take_line.ensures.ok

pub returns-in-Some-clause-err : goal.returns-in-Some-clause-err
returns-in-Some-clause-err g c =
    IfErr-weaker c.take_line.result _ _
    (λ end breaks left next. breaks left (whole_next c.in-Whole.len c.args.self.now.input left (rw c.in-Whole.is at next)) (sym c.read_line.ensures.says ∙ c.in-Some.is))
    c.take_line.ensures.err

pub returns-in-None-clause-err : goal.returns-in-None-clause-err
returns-in-None-clause-err g c left next =
    let script = c.args.self.now in
    Breaks-between (c.refuse_line.ensures.ends left (g.K.Sink.given c.args.sink.now)
    (bad_whole script.served c.in-Whole.len script.input left (rw c.in-Whole.is at next) (sym c.read_line.ensures.says ∙ c.in-None.is)))

pub returns-in-TooLong-clause-err : goal.returns-in-TooLong-clause-err
returns-in-TooLong-clause-err g c left next =
    let script = c.args.self.now in
    Breaks-between (c.refuse_line-in-TooLong.ensures.ends left (g.K.Sink.given c.args.sink.now) (bad_long script.served script.input left (rw c.in-TooLong.is at next)))

pub returns-in-Unended-clause-err : goal.returns-in-Unended-clause-err
returns-in-Unended-clause-err g c left next =
    let script = c.args.self.now in
    Breaks-between (c.refuse_line-in-Unended.ensures.ends left (g.K.Sink.given c.args.sink.now) (bad_unended script.served script.input left (rw c.in-Unended.is at next)))
