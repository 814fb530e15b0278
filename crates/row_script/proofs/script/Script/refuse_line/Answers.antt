use Rattle.row_script.proofs.StepLemmas.{EndsBy-bad}
use Rattle.row_script.proofs.script.Script.refuse_line.Goals as goal

pub returns-in-Ok-clause-ends : goal.returns-in-Ok-clause-ends
returns-in-Ok-clause-ends c left given begins =
    let script = c.args.self.now in
    rw (c.in-Ok.ensures.ok, c.from-number.ensures) (EndsBy-bad script.size script.input left given script.replies script.served script.numbers begins)
