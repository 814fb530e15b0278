use Rattle.std.proofs.lemmas.Result.{IfErr-weaker, on_ok_weaker}
use Rattle.row_script.proofs.StepLemmas.{Advances-behind, Breaks-behind, Breaks-between}
use Rattle.row_script.proofs.script.Script.step.Goals as goal

pub returns-in-Ok-clause-ok : goal.returns-in-Ok-clause-ok
returns-in-Ok-clause-ok g c =
    let goes = rw (c.in-Ok.ensures.same.1, c.in-Ok.ensures.same.2) at c.in-Ok.ensures.ok in
    let serves = rw (c.in-Ok.ensures.same.0, c.in-Ok.ensures.same.1, c.in-Ok.ensures.same.2) at c.serve_next.ensures.ok in
    on_ok_weaker c.serve_next.result (λ serves. Advances-behind goes (serves (g.S.Source.left c.await_line.new.source) c.in-Ok.ensures.found)) serves

pub returns-in-Ok-clause-err : goal.returns-in-Ok-clause-err
returns-in-Ok-clause-err g c =
    let goes = rw (c.in-Ok.ensures.same.1, c.in-Ok.ensures.same.2) at c.in-Ok.ensures.ok in
    let ends = rw (c.in-Ok.ensures.same.0, c.in-Ok.ensures.same.1, c.in-Ok.ensures.same.2) at c.serve_next.ensures.err in
    IfErr-weaker c.serve_next.result _ _ (λ end ends. Breaks-behind goes (ends (g.S.Source.left c.await_line.new.source) c.in-Ok.ensures.found)) ends

pub returns-in-Err-clause-err : goal.returns-in-Err-clause-err
returns-in-Err-clause-err g c = Breaks-between c.in-Err.ensures.err
