use Rattle.std.specs.Io.KnownBytes.{prepend_known}
use Rattle.row_script.proofs.StepLemmas.{EndsBy-sink, EndsBy-source, GoesOn-read}
use Rattle.row_script.proofs.script.Script.read_on.Goals as goal

pub returns-in_default-clause-err : goal.returns-in_default-clause-err
returns-in_default-clause-err g c =
    let script = c.args.self.now in
    EndsBy-sink script.size script.input (g.S.Source.left c.args.source.now) (g.K.Sink.given c.args.sink.now) (g.K.Sink.given c.send.new.sink)
    script.replies c.send.new.self script.served script.numbers c.in_default.ensures.failed

pub returns-in-Ok-read_on-clause-ok : goal.returns-in-Ok-read_on-clause-ok
returns-in-Ok-read_on-clause-ok g c =
    let script = c.args.self.now in
    GoesOn-read script.size (prepend_known script.input (g.S.Source.left c.args.source.now)) (prepend_known c.read_on.new.self (g.S.Source.left c.read_on.new.source))
    (g.K.Sink.given c.args.sink.now) (g.K.Sink.given c.send.new.sink) script.replies c.send.new.self script.served script.numbers
    c.read_on.ensures.same c.in-Ok.ensures.ok c.in-Ok.ensures.empty

pub returns-in-Err-clause-err : goal.returns-in-Err-clause-err
returns-in-Err-clause-err g c =
    let script = c.args.self.now in
    EndsBy-source script.size (prepend_known script.input (g.S.Source.left c.args.source.now)) c.read_on.new.self (g.S.Source.left c.read_on.new.source)
    (g.K.Sink.given c.args.sink.now) (g.K.Sink.given c.send.new.sink) script.replies c.send.new.self script.served script.numbers
    c.read_on.ensures.same c.in-Ok.ensures.ok c.in-Ok.ensures.empty c.in-Err.ensures.err.open_ended
