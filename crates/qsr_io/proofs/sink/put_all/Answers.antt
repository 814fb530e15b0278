use Rattle.std.proofs.Common.{◌-◌, ◌≤◌, length, take, drop, arith, length-drop, ◌∙◌}
use Rattle.std.proofs.KnownBytes.{Appends-trans}
use Rattle.std.proofs.Math.Seq.{take-add}
use Rattle.std.specs.Io.KnownBytes.{Appends}
use Rattle.qsr_value.proofs.Lists.{slice_to_end}
use Rattle.qsr_io.proofs.sink.put_all.Goals as goal

pub loop-at-preserved : goal.loop-at-preserved
loop-at-preserved g c =
    let rest = slice_to_end c.args.bytes.now c.loop-at.at in
    let bound : c.in_ok-at.field-0 ≤ length (drop c.loop-at.at c.args.bytes.now) = rw rest at c.in_ok-at.ensures.bound in
    let more : Appends (g.K.Sink.given c.loop-at.sink) (g.K.Sink.given c.write.new.self) (take c.in_ok-at.field-0 (drop c.loop-at.at c.args.bytes.now)) = rw rest at c.in_ok-at.ensures.bytes in
    record {
      within = omega (arith, length-drop c.loop-at.at c.args.bytes.now);
      given = rw (take-add c.loop-at.at c.in_ok-at.field-0 c.args.bytes.now)
          (Appends-trans (g.K.Sink.given c.args.sink.now) (g.K.Sink.given c.loop-at.sink) (g.K.Sink.given c.write.new.self)
          (take c.loop-at.at c.args.bytes.now) (take c.in_ok-at.field-0 (drop c.loop-at.at c.args.bytes.now))
          c.loop-at.invariant.given more);
      faults = c.in_ok-at.ensures.cause ∙ c.loop-at.invariant.faults;
    }
