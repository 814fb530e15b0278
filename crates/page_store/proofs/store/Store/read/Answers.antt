use Rattle.std.proofs.Common.{◌+◌, ◌*◌, arith}
use Rattle.std.proofs.lemmas.Result.{on_ok_weaker}
use Rattle.page_store.specs.PageOrder.{part_of}
use Rattle.page_store.specs.Store.{contents_of, contents_view, twin_at, twin_span}
use Rattle.page_store.proofs.AreaLaws.{area_within, get-area}
use Rattle.disk_model.proofs.LiftedRuns.{lifted_stays}
use Rattle.page_store.proofs.StoreCommits.{is_area}
use Rattle.page_store.proofs.StoreContents.{area_holds, ready_stays}
use Rattle.page_store.proofs.store.Store.read.Goals as goal

pub read-requires-clause-within : goal.read-requires-clause-within
read-requires-clause-within g c =
    let page = c.requires.page in
    let fits = c.args.self.now.fits in
    omega (arith, c.first_page.ensures, page, fits, area_within c.args.self.now.sizes c.args.area c.requires.area)

pub returns-clause-bytes : goal.returns-clause-bytes
unfolding contents_view
returns-clause-bytes g c =
    let page = c.requires.page in
    on_ok_weaker c.read.result
    (λ holds honest. area_holds c.args.self.now.sizes (part_of c.args.area) (4096 * c.args.page) (4096 * (c.first_page.result + c.args.page)) c.read.new.out
    (g.D.Disk.view c.args.self.now.disk.now).seen (is_area c.args.area c.requires.area)
    (omega (arith, page, get-area c.args.self.now.sizes c.args.area c.requires.area)) (omega (arith, c.first_page.ensures)) (holds honest))
    c.read.ensures.bytes

pub returns-clause-stays : goal.returns-clause-stays
unfolding contents_view
returns-clause-stays g c = lifted_stays (contents_of c.args.self.now.sizes) c.read.ensures.stays

pub returns-clause-ready : goal.returns-clause-ready
returns-clause-ready g c = λ ready k some. ready_stays (twin_span k) (twin_at c.args.self.now.sizes k) c.read.ensures.stays (ready k some)
