use Rattle.std.proofs.Common.{refl, subst, inl, inr, ◌∙◌}
use Rattle.disk_model.specs.Image.{Image}
use Rattle.page_store.specs.Opening.{AreWhole, HasNoHead, IsDamaged, IsDamagedTwin}
use Rattle.page_store.specs.Store.{contents_of}
use Rattle.page_store.proofs.StoreCommits.{none_by_head, none_by_twin}
use Rattle.page_store.proofs.StoreContents.{head_is}
use Rattle.page_store.proofs.opening.find_store.Goals as goal

pub returns-in-Ok-None-clause-refused : goal.returns-in-Ok-None-clause-refused
returns-in-Ok-None-clause-refused g c = λ honest.
    let size = g.D.Disk.size_of c.args.disk.now in
    let seen = (g.D.Disk.view c.args.disk.now).seen in
    let head = rw c.in-Ok-None.field-0-is at c.in-Ok-None.ensures.head in
    let none : HasNoHead size seen = head honest in
    (inl (refl, none), none_by_head size seen none)

pub returns-in-Ok-None-first_damaged-clause-store : goal.returns-in-Ok-None-first_damaged-clause-store
returns-in-Ok-None-first_damaged-clause-store g c = λ honest.
    let sizes = c.in-Ok-Some.sizes in
    let stays = c.read_store_head.ensures.stays in
    let head = rw c.in-Ok-Some.field-0-is at c.in-Ok-Some.ensures.head in
    let fits = rw c.in-Ok-Some.field-0-is at c.in-Ok-Some.ensures.fits in
    let whole = rw c.in-Ok-None-first_damaged.field-0-is at c.in-Ok-None-first_damaged.ensures.found in
    record {
      head = head_is sizes (g.D.Disk.view c.args.disk.now).seen ∙ head honest;
      fits = fits;
      twins = subst (λ (s : Image). AreWhole 9 (contents_of sizes s)) stays.seen (whole (stays.time.honest.1 honest));
    }

pub returns-in-Ok-Some-first_damaged-clause-refused : goal.returns-in-Ok-Some-first_damaged-clause-refused
returns-in-Ok-Some-first_damaged-clause-refused g c = λ honest.
    let size = g.D.Disk.size_of c.args.disk.now in
    let seen = (g.D.Disk.view c.args.disk.now).seen in
    let sizes = c.in-Ok-Some.sizes in
    let page = c.in-Ok-Some-first_damaged.page in
    let stays = c.read_store_head.ensures.stays in
    let head = rw c.in-Ok-Some.field-0-is at c.in-Ok-Some.ensures.head in
    let fits = rw c.in-Ok-Some.field-0-is at c.in-Ok-Some.ensures.fits in
    let found = rw c.in-Ok-Some-first_damaged.field-0-is at c.in-Ok-Some-first_damaged.ensures.found in
    let damaged : IsDamaged size page seen = record {
      sizes = sizes;
      head = head honest;
      fits = fits;
      damaged = subst (λ (s : Image). IsDamagedTwin sizes page (contents_of sizes s)) stays.seen (found (stays.time.honest.1 honest));
    } in
    (inr damaged, none_by_twin size page seen damaged)
