use Rattle.std.proofs.Common.{◌⊎◌, inl, refl, subst, sym}
use Rattle.disk_model.specs.View.{EachImage, LeavesOnly}
use Rattle.disk_model.proofs.Runs.{and_then, weaker_run}
use Rattle.page_store.specs.Store.{store_view}
use Rattle.page_store.specs.declared.pages.Sizes.{Sizes}
use Rattle.table_file.specs.Tables.{AreTables}
use Rattle.qsr_top.specs.Load.{Loads, StandsLoaded}
use Rattle.qsr_top.specs.Stored.{Stands}
use Rattle.qsr_top.proofs.LoadedLemmas.{each_sizes, table_found, table_none}
use Rattle.qsr_top.proofs.load.load_in.Goals as goal

pub returns-in-Some-clause-loads : goal.returns-in-Some-clause-loads
returns-in-Some-clause-loads g c ready size s are each honest =
    let store = c.args.store.now in
    let mid = c.load.new.store in
    let stays = c.load.ensures.stays in
    let sizes = c.load.ensures.sizes in
    let says = c.in-Ok.ensures.tables s are (λ honest. (each (store_view store).seen ((store_view store).seen_may_stay honest)).tables) honest in
    let found = table_found c.in-Ok.catalogue s c.args.name.now c.in-Some.table says c.in-Some.ensures.place c.in-Some.ensures.within in
    let there = subst (λ (sizes : Sizes). EachImage (store_view mid) (Stands size sizes s)) (sym sizes) (λ m now. each m (stays.crash m now)) in
    subst (λ (sizes : Sizes). Loads size sizes s c.args.name.now (g.S.Source.left c.args.source.now) (g.S.Source.left c.load_table.new.source) (g.D.Disk.view c.load_table.new.store.disk.now) c.load_table.result)
    sizes (c.load_table.ensures.loads (c.load.ensures.ready ready) size s (subst (λ (sizes : Sizes). AreTables sizes s) (sym sizes) are) says there (stays.time.honest.1 honest)
    c.args.name.now found.0 found.1)

pub returns-in-Some-clause-any_moment : goal.returns-in-Some-clause-any_moment
returns-in-Some-clause-any_moment g c ready size s are each honest =
    let store = c.args.store.now in
    let mid = c.load.new.store in
    let stays = c.load.ensures.stays in
    let sizes = c.load.ensures.sizes in
    let says = c.in-Ok.ensures.tables s are (λ honest. (each (store_view store).seen ((store_view store).seen_may_stay honest)).tables) honest in
    let found = table_found c.in-Ok.catalogue s c.args.name.now c.in-Some.table says c.in-Some.ensures.place c.in-Some.ensures.within in
    let there = subst (λ (sizes : Sizes). EachImage (store_view mid) (Stands size sizes s)) (sym sizes) (λ m now. each m (stays.crash m now)) in
    let moment = subst (λ (sizes : Sizes). LeavesOnly (store_view mid) (store_view c.load_table.new.store) (λ m. Stands size sizes s m ⊎ StandsLoaded size sizes s c.args.name.now (g.S.Source.left c.args.source.now) m))
    sizes (c.load_table.ensures.any_moment (c.load.ensures.ready ready) size s (subst (λ (sizes : Sizes). AreTables sizes s) (sym sizes) are) says there (stays.time.honest.1 honest)
    c.args.name.now found.0 found.1) in
    and_then (weaker_run stays.time (λ m now. inl (each m now))) moment (λ m either. either)

pub returns-clause-loads : goal.returns-clause-loads
returns-clause-loads g c ready size s are each honest =
    let store = c.args.store.now in
    let mid = c.load.new.store in
    let says = c.in-Ok.ensures.tables s are (λ honest. (each (store_view store).seen ((store_view store).seen_may_stay honest)).tables) honest in (
      table_none c.in-Ok.catalogue s c.args.name.now says c.in-None.ensures.place,
      refl,
      each_sizes store.sizes mid.sizes (g.D.Disk.view mid.disk.now) c.load.ensures.sizes (λ m now. each m (c.load.ensures.stays.crash m now)),
    )
