use Rattle.row_script.proofs.RunLemmas.{Ran-at_once, Ran-closed, Ran-cut_at_once}
use Rattle.row_script.proofs.script.run.Goals as goal

pub returns-in-Ok-clause-ran : goal.returns-in-Ok-clause-ran
returns-in-Ok-clause-ran g c =
    let ended = rw (c.in-Ok.ensures.size, c.size.ensures) at c.serve_all-end.ensures.ends in
    Ran-closed ended (c.close.ensures.closed (g.S.Source.left c.args.source.now) (g.S.Source.left c.serve_all-end.new.source)
    (g.K.Sink.given c.args.sink.now) ended.done ended.cut _ ended.closes)

pub returns-in-Ok-put_all-clause-ran : goal.returns-in-Ok-put_all-clause-ran
returns-in-Ok-put_all-clause-ran g c =
    let says = rw (c.as_bytes.ensures.value, c.text.ensures) at c.in-Ok-put_all.ensures.ok in
    Ran-at_once (g.D.Disk.size_of c.args.disk.now) (g.S.Source.left c.args.source.now) (g.K.Sink.given c.args.sink.now) (g.K.Sink.given c.put_all.new.sink)
    (g.D.Disk.view c.args.disk.now) (g.D.Disk.reads_of c.args.disk.now) (g.D.Disk.writes_of c.args.disk.now) says

pub returns-in-Err-put_all-clause-ran : goal.returns-in-Err-put_all-clause-ran
returns-in-Err-put_all-clause-ran g c =
    let cut = rw (c.as_bytes.ensures.value, c.text.ensures) at c.in-Err-put_all.ensures.failed in
    Ran-cut_at_once (g.D.Disk.size_of c.args.disk.now) (g.S.Source.left c.args.source.now) (g.K.Sink.given c.args.sink.now) (g.K.Sink.given c.put_all.new.sink)
    (g.D.Disk.view c.args.disk.now) (g.D.Disk.reads_of c.args.disk.now) (g.D.Disk.writes_of c.args.disk.now) cut
