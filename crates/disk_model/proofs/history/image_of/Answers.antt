use Rattle.std.proofs.Common.{arith, length, ap, ◌∙◌}
use Rattle.disk_model.proofs.MemFields.{refill, before_taken}
use Rattle.disk_model.proofs.history.image_of.Goals as goal

pub returns-clause-image : goal.returns-clause-image
returns-clause-image c =
    let whole = refill c.in_ok-bytes.bytes.len c.leave.new.bytes c.in_ok-bytes.bytes.items (omega (arith, c.leave.ensures.size, ap length c.deref_mut.ensures.value)) in
    let base = c.deref_mut.ensures.value ∙ c.in_ok-bytes.ensures.items in
    rw (whole, before_taken c.args.log.now c.args.calls c.stop_of-stop.result c.stop_of-stop.ensures.count) (rw base at c.leave.ensures.image)
