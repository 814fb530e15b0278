use Rattle.qsr_top.proofs.CauseLemmas.{status_caused}
use Rattle.qsr_top.proofs.create.run.Goals as goal

pub returns-in-Ok-clause-cause : goal.returns-in-Ok-clause-cause
returns-in-Ok-clause-cause g c =
    status_caused c.args.name.now c.create.result c.tell.result (g.K.Sink.given c.args.sink.now) (g.K.Sink.given c.tell.new.sink)
    (g.D.Disk.faults_of c.args.disk.now) (g.D.Disk.faults_of c.create.new.disk) 0 0 (g.K.Sink.faults_of c.args.sink.now) (g.K.Sink.faults_of c.tell.new.sink)
    (c.create.ensures.comes.cause 0) c.tell.ensures
