use Rattle.std.proofs.Common.{◌∙◌, arith, refl}
use Rattle.std.specs.Io.KnownBytes.{prepend_known}
use Rattle.row_script.proofs.CrashLemmas.{RunSoFar-start, RunSoFar-line, RunEnded-line}
use Rattle.row_script.proofs.script.Script.serve_all.Goals as goal

pub lines-init : goal.lines-init
lines-init g c =
    let size = c.requires.size in
    record {
      run = rw (c.requires.fresh.0, c.requires.fresh.1, c.requires.fresh.2, c.requires.numbers)
          (RunSoFar-start c.args.self.now.size (g.S.Source.left c.args.source.now) (g.K.Sink.given c.args.sink.now) (g.D.Disk.view c.args.disk.now) (g.D.Disk.reads_of c.args.disk.now) (g.D.Disk.writes_of c.args.disk.now));
      disk = refl;
      source = refl;
      sink = refl;
      size = refl;
      fits = size;
    }

pub returns-in-Err-clause-ends : goal.returns-in-Err-clause-ends
returns-in-Err-clause-ends g c =
    let ends = rw c.lines.invariant.size at c.in-Err.ensures.err in
    RunEnded-line c.lines.invariant.run (g.D.Disk.view c.step.new.disk) (g.S.Source.left c.step.new.source) (g.K.Sink.given c.step.new.sink)
    c.step.new.self.replies c.in-Err.end (g.D.Disk.reads_of c.step.new.disk) (g.D.Disk.writes_of c.step.new.disk) ends c.step.ensures.crash

pub lines-preserved : goal.lines-preserved
lines-preserved g c =
    let advances = rw c.lines.invariant.size at c.in-Ok.ensures.ok in
    record {
      run = RunSoFar-line c.lines.invariant.run (g.D.Disk.view c.step.new.disk) (prepend_known c.step.new.self.input (g.S.Source.left c.step.new.source))
          (g.K.Sink.given c.step.new.sink) c.step.new.self.replies c.step.new.self.served c.step.new.self.numbers
          (g.D.Disk.reads_of c.step.new.disk) (g.D.Disk.writes_of c.step.new.disk) advances
          c.step.ensures.crash c.in-Ok.ensures.last;
      disk = c.in-Ok.ensures.unfailed.0 ∙ c.lines.invariant.disk;
      source = c.in-Ok.ensures.unfailed.1 ∙ c.lines.invariant.source;
      sink = c.in-Ok.ensures.unfailed.2 ∙ c.lines.invariant.sink;
      size = c.step.ensures.same ∙ c.lines.invariant.size;
      fits = let before = c.lines.invariant.fits in let same = c.step.ensures.same in let size = c.step.ensures.size in omega (arith, before, same, size);
    }
