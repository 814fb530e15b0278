use Rattle.std.proofs.Common.{◌≡◌, length, rules}
use Rattle.page_store.specs.Store.{store_view}
use Rattle.table_file.proofs.Writing.{ended_stands}
use Rattle.table_file.proofs.writer.TableWriter.next_page.Goals as goal

pub returns-clause-stands : goal.returns-clause-stands
returns-clause-stands g c = λ columns rows before honest_after.
    let w = c.args.self.now in
    let honest = c.write_up_to.ensures.grows.time.honest.0 honest_after in
    let long : length w.bytes ≡ 4096 = search rules in
    ended_stands columns rows _ c.end_page-end.new.page c.end_page-end.result w (store_view c.args.store.now).seen (store_view c.write_up_to.new.store).seen (search rules) (search rules) long
    c.end_page-end.ensures.end c.end_page-end.ensures.bytes (c.write_up_to.ensures.grows.seen honest) (c.in_ok-write_up_to.ensures.stands honest) (before honest)
