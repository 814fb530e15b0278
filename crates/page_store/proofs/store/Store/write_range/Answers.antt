use Rattle.std.proofs.Common.{◌≡◌, ◌⊎◌, ℕ, ◌+◌, ◌*◌, ◌≤◌, length, subst, arith}
use Rattle.std.proofs.lemmas.Result.{on_ok_weaker}
use Rattle.disk_model.specs.Image.{Image, SameOutside}
use Rattle.page_store.specs.PageOrder.{part_of, parts, start_of}
use Rattle.page_store.specs.Store.{AreaWritten, contents_of, contents_view, twin_at, twin_span}
use Rattle.page_store.proofs.AreaLaws.{area_within, get-area}
use Rattle.disk_model.proofs.LiftedRuns.{lifted_steps}
use Rattle.page_store.proofs.StoreCommits.{is_area}
use Rattle.page_store.proofs.StoreContents.{area_holds, area_written, ready_apart, span_some, write_apart}
use Rattle.page_store.proofs.TwinRuns.{keeps_step}
use Rattle.page_store.proofs.store.Store.write_range.Goals as goal

pub write-requires-clause-within : goal.write-requires-clause-within
write-requires-clause-within g c =
    let page = c.requires.page in
    let within = c.requires.within in
    let fits = c.args.self.now.fits in
    omega (arith, c.first_page.ensures, page, within, fits, area_within c.args.self.now.sizes c.args.area c.requires.area)

pub returns-clause-bytes : goal.returns-clause-bytes
unfolding contents_view
returns-clause-bytes g c =
    let page = c.requires.page in
    let within = c.requires.within in
    on_ok_weaker c.write.result
    (λ holds honest. area_holds c.args.self.now.sizes (part_of c.args.area) (4096 * c.args.page + c.args.from) (4096 * (c.first_page.result + c.args.page) + c.args.from) c.args.bytes.now
    (g.D.Disk.view c.write.new.self).seen (is_area c.args.area c.requires.area)
    (omega (arith, page, within, get-area c.args.self.now.sizes c.args.area c.requires.area)) (omega (arith, c.first_page.ensures)) (holds honest))
    c.write.ensures.bytes

pub returns-clause-steps : goal.returns-clause-steps
unfolding contents_view
returns-clause-steps g c =
    let page = c.requires.page in
    let within = c.requires.within in
    let sizes = c.args.self.now.sizes in
    let part = part_of c.args.area in
    let at = 4096 * c.args.page + c.args.from in
    let n = length c.args.bytes.now in
    let start : 4096 * (c.first_page.result + c.args.page) + c.args.from ≡ 4096 * start_of (parts sizes) part + at = omega (arith, c.first_page.ensures) in
    lifted_steps (contents_of sizes) (AreaWritten part at n) c.write.ensures.steps
    (λ (d e : Image) same. area_written sizes part at n (is_area c.args.area c.requires.area)
    (omega (arith, page, within, get-area sizes c.args.area c.requires.area)) d e (subst (λ (k : ℕ). SameOutside k n d e) start same))

pub returns-clause-ready : goal.returns-clause-ready
returns-clause-ready g c = λ ready k some.
    let page = c.requires.page in
    let within = c.requires.within in
    let sizes = c.args.self.now.sizes in
    let part = part_of c.args.area in
    let at = 4096 * c.args.page + c.args.from in
    let n = length c.args.bytes.now in
    let lo = 4096 * (c.first_page.result + c.args.page) + c.args.from in
    let start : 4096 * start_of (parts sizes) part + at ≡ lo = omega (arith, c.first_page.ensures) in
    ready_apart lo n (twin_span k) (twin_at sizes k) (span_some k)
    (subst (λ (s : ℕ). (s + n ≤ twin_at sizes k) ⊎ (twin_at sizes k + 2 * twin_span k ≤ s)) start
    (write_apart sizes part at n k (is_area c.args.area c.requires.area) (omega (arith, page, within, get-area sizes c.args.area c.requires.area)) some))
    (keeps_step lo n c.write.ensures.steps) (ready k some)
