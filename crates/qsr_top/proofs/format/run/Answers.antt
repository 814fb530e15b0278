use Rattle.std.specs.String.{string_bytes}
use Rattle.qsr_top.proofs.FormatLemmas.{Formatted-done, Formatted-small, is_empty}
use Rattle.qsr_top.proofs.format.run.Goals as goal

pub returns-in-Err-TooSmall-clause-ran : goal.returns-in-Err-TooSmall-clause-ran
returns-in-Err-TooSmall-clause-ran g c =
    let fault = rw c.in-Err-TooSmall.field-0-is at c.in-Err-TooSmall.ensures.fault in
    let faults = rw c.in-Err-TooSmall.field-0-is at c.in-Err-TooSmall.ensures.faults in
    Formatted-small string_bytes c.too_small.result c.args.sizes (g.D.Disk.size_of c.args.disk.now) c.in-Err-TooSmall.need c.in-Err-TooSmall.have c.say-in-Err-TooSmall.result
    (g.K.Sink.given c.args.sink.now) (g.K.Sink.given c.say-in-Err-TooSmall.new.sink) (g.D.Disk.view c.format.new.disk)
    (g.D.Disk.faults_of c.args.disk.now) (g.D.Disk.faults_of c.format.new.disk) (g.K.Sink.faults_of c.args.sink.now) (g.K.Sink.faults_of c.say-in-Err-TooSmall.new.sink)
    fault.0 fault.1 fault.2 faults c.too_small.ensures c.say-in-Err-TooSmall.ensures.ok c.say-in-Err-TooSmall.ensures.err

pub returns-in-Ok-clause-ran : goal.returns-in-Ok-clause-ran
returns-in-Ok-clause-ran g c =
    Formatted-done string_bytes c.formatted.result c.args.sizes (g.D.Disk.size_of c.args.disk.now) c.in-Ok.pages c.say.result
    (g.K.Sink.given c.args.sink.now) (g.K.Sink.given c.say.new.sink) (g.D.Disk.view c.format.new.disk)
    (g.D.Disk.faults_of c.args.disk.now) (g.D.Disk.faults_of c.format.new.disk) (g.K.Sink.faults_of c.args.sink.now) (g.K.Sink.faults_of c.say.new.sink)
    c.in-Ok.ensures.fits (is_empty (g.D.Disk.size_of c.args.disk.now) c.args.sizes (g.D.Disk.view c.format.new.disk) c.in-Ok.ensures.formatted c.in-Ok.ensures.empty) c.in-Ok.ensures.pages c.in-Ok.ensures.faults
    c.formatted.ensures c.say.ensures.ok c.say.ensures.err
