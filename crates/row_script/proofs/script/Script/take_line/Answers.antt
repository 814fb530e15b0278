use Rattle.row_script.proofs.StepLemmas.{Advances-line, Breaks-line}
use Rattle.row_script.proofs.script.Script.take_line.Goals as goal

pub returns-in-Ok-clause-ok : goal.returns-in-Ok-clause-ok
returns-in-Ok-clause-ok g c left begins says =
    let script = c.args.self.now in
    let writes = rw c.in-Ok.ensures.numbers at c.in-Ok.ensures.writes in
    rw (c.consume.ensures, c.in-Ok.ensures.numbers, c.serve.ensures.same.1, c.serve.ensures.same.2)
    (Advances-line c.in-Ok.ensures.ok script.input left script.served c.args.len begins says c.in-Ok.ensures.reads writes)

pub returns-in-Err-clause-err : goal.returns-in-Err-clause-err
returns-in-Err-clause-err g c left begins says =
    let script = c.args.self.now in
    Breaks-line c.in-Err.ensures.err script.input left script.served c.args.len begins says c.in-Err.ensures.cut_reads c.in-Err.ensures.cut_writes
