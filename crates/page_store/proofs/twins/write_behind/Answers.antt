use Rattle.std.proofs.Common.{◌∙◌, ap, length, arith}
use Rattle.std.proofs.lemmas.Result.{on_ok_weaker}
use Rattle.qsr_value.specs.Causes.{next_count}
use Rattle.page_store.proofs.Counts.{most_behind, most_front}
use Rattle.page_store.proofs.SlotBytes.{written_whole}
use Rattle.page_store.proofs.twins.write_behind.Goals as goal

pub returns-clause-bytes : goal.returns-clause-bytes
returns-clause-bytes g c =
    on_ok_weaker c.write.result
    (λ more honest.
    let later = c.write_front.ensures.steps.time.honest.1 honest in
    let count = c.min-front.ensures in
    let less = c.if-front-body.false in
    written_whole (g.D.Disk.view c.write_front.new.disk).seen (g.D.Disk.view c.write.new.self).seen c.args.stale.now.slot c.args.stale.now.sequence c.min-front.result _ c.args.body.now
    (omega (arith, count, less)) (omega (arith, count)) (c.write.ensures.steps.seen later) (c.in_ok-write_front.ensures.bytes honest) (more later))
    c.write.ensures.bytes

pub returns-in_err-write_front-clause-writes_most : goal.returns-in_err-write_front-clause-writes_most
returns-in_err-write_front-clause-writes_most g c = most_front (length c.args.body.now) c.write_front.ensures.writes

pub returns-then-front-body-clause-writes_most : goal.returns-then-front-body-clause-writes_most
returns-then-front-body-clause-writes_most g c = most_front (length c.args.body.now) c.write_front.ensures.writes

pub returns-clause-writes_most : goal.returns-clause-writes_most
returns-clause-writes_most g c =
    let count = c.min-front.ensures in
    let less = c.if-front-body.false in
    most_behind (length c.args.body.now) (omega (arith, count, less)) (c.write.ensures.writes ∙ ap next_count c.write_front.ensures.writes)
