use Rattle.std.proofs.Common.{inl, refl, subst, sym}
use Rattle.row_script.specs.Answers.{Tells}
use Rattle.row_script.specs.Progress.{CutsOff}
use Rattle.row_script.specs.declared.script_line.ScriptLine.{ScriptLine}
use Rattle.row_script.proofs.AnswerLemmas.{CutsOff-reply, CutsOff-turn}
use Rattle.row_script.specs.declared.end.End.TheVariants.{NoMemory}
use Rattle.row_script.proofs.script.Script.serve.Goals as goal

pub returns-in-Err-clause-err : goal.returns-in-Err-clause-err
returns-in-Err-clause-err g c =
    let script = c.args.self.now in
    CutsOff-reply _ script.size script.numbers c.args.line NoMemory (g.K.Sink.given c.args.sink.now) script.replies c.add_row.new.self.replies tt (inl refl) c.in-Err.ensures.err

pub returns-in-Err-take_turn-clause-err : goal.returns-in-Err-take_turn-clause-err
returns-in-Err-take_turn-clause-err g c =
    let script = c.args.self.now in
    subst (λ (line : ScriptLine). CutsOff (Tells (g.D.Disk.view c.args.disk.now) script.numbers) script.size script.numbers line c.in-Err-take_turn.end
    (g.K.Sink.given c.args.sink.now) (g.K.Sink.given c.args.sink.now) script.replies c.take_turn.new.self.replies) (sym c.in-Turn.is)
    (CutsOff-turn (Tells (g.D.Disk.view c.args.disk.now) script.numbers) script.size script.numbers c.in-Turn.count c.in-Err-take_turn.end (g.K.Sink.given c.args.sink.now) script.replies c.take_turn.new.self.replies _ _
    c.in-Err-take_turn.ensures.cause c.in-Err-take_turn.ensures.err)
