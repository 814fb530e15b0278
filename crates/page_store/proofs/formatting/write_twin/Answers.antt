use Rattle.std.proofs.Common.{◌*◌, subst}
use Rattle.std.proofs.lemmas.Result.{on_ok_weaker}
use Rattle.disk_model.specs.Image.{Holds}
use Rattle.page_store.proofs.Images.{twin_written}
use Rattle.page_store.proofs.formatting.write_twin.Goals as goal

pub returns-clause-twin : goal.returns-clause-twin
returns-clause-twin g c =
    on_ok_weaker c.write-2.result
    (λ closed honest.
    let later = c.write.ensures.steps.time.honest.1 honest in
    twin_written (g.D.Disk.view c.write.new.self).seen (g.D.Disk.view c.write-2.new.self).seen c.args.first c.args.second c.args.body.now c.requires.order c.requires.long
    (subst (Holds (g.D.Disk.view c.write.new.self).seen (4096 * c.args.first)) c.slot_page-page.ensures.slot (c.in_ok-write.ensures.bytes honest))
    (c.write-2.ensures.steps.seen later) (closed later))
    c.write-2.ensures.bytes
