use Rattle.std.proofs.Common.{◌∙◌, ⊎_elim, sym}
use Rattle.disk_model.specs.View.{EachImage}
use Rattle.page_store.specs.Store.{store_view}
use Rattle.table_file.specs.Tables.{with_table}
use Rattle.qsr_top.specs.Stored.{Stands}
use Rattle.qsr_top.proofs.CreateLemmas.{are_created, behind_read, changed_run, create_refused, refusal_agrees, stands_each, stood}
use Rattle.qsr_top.proofs.create.create_in.Goals as goal

pub returns-in-Ok-create-clause-any_moment : goal.returns-in-Ok-create-clause-any_moment
returns-in-Ok-create-clause-any_moment g c ready s are stands honest =
    let size = g.D.Disk.size_of c.args.store.now.disk.now in
    let sizes = c.args.store.now.sizes in
    let view = store_view c.args.store.now in
    let stays = c.in-Ok.ensures.stays in
    let each = stood stands stays in
    let is = c.in-Ok.ensures.tables s are (λ honest. (stands view.seen (view.seen_may_stay honest)).tables) honest in
    let run = c.in-Ok-create.ensures.any_moment (c.in-Ok.ensures.ready ready) s is (λ m now. (each m now).tables) in
    behind_read size sizes s stands stays (changed_run size sizes s (with_table s c.args.name.now c.args.schema) each run c.in-Ok-create.ensures.others)

pub returns-in-Ok-create-clause-creates : goal.returns-in-Ok-create-clause-creates
returns-in-Ok-create-clause-creates g c ready s are stands honest =
    let size = g.D.Disk.size_of c.args.store.now.disk.now in
    let sizes = c.args.store.now.sizes in
    let view = store_view c.args.store.now in
    let stays = c.in-Ok.ensures.stays in
    let each = stood stands stays in
    let is = c.in-Ok.ensures.tables s are (λ honest. (stands view.seen (view.seen_may_stay honest)).tables) honest in
    let s' = with_table s c.args.name.now c.args.schema in
    let tables = c.in-Ok-create.ensures.committed (c.in-Ok.ensures.ready ready) s is (λ m now. (each m now).tables) in
    let all = stands_each size sizes s s' each tables c.in-Ok-create.ensures.others in
    let same = c.in-Ok-create.ensures.sizes ∙ c.in-Ok.ensures.sizes in
    record {
      accepted = sym (refusal_agrees s c.in-Ok.catalogue c.args.name.now c.args.schema is) ∙ c.in-Ok-create.ensures.accepted;
      are = are_created sizes s c.args.name.now c.args.schema c.create.new.self are (c.in-Ok-create.ensures.created s is) (rw same at c.in-Ok-create.ensures.form);
      stands = rw same at all;
    }

pub returns-clause-any_moment : goal.returns-clause-any_moment
returns-clause-any_moment g c ready s are stands honest =
    let size = g.D.Disk.size_of c.args.store.now.disk.now in
    let sizes = c.args.store.now.sizes in
    let view = store_view c.args.store.now in
    let stays = c.in-Ok.ensures.stays in
    let each = stood stands stays in
    let is = c.in-Ok.ensures.tables s are (λ honest. (stands view.seen (view.seen_may_stay honest)).tables) honest in
    let run = c.in-Err-create.ensures.any_moment (c.in-Ok.ensures.ready ready) s is (λ m now. (each m now).tables) in
    behind_read size sizes s stands stays (changed_run size sizes s (with_table s c.args.name.now c.args.schema) each run c.in-Err-create.ensures.others)

pub returns-clause-creates : goal.returns-clause-creates
returns-clause-creates g c ready s are stands honest =
    let size = g.D.Disk.size_of c.args.store.now.disk.now in
    let sizes = c.args.store.now.sizes in
    let view = store_view c.args.store.now in
    let stays = c.in-Ok.ensures.stays in
    let each = stood stands stays in
    let is = c.in-Ok.ensures.tables s are (λ honest. (stands view.seen (view.seen_may_stay honest)).tables) honest in
    let refusal = refusal_agrees s c.in-Ok.catalogue c.args.name.now c.args.schema is in
    let refused = rw refusal at c.in-Err-create.ensures.refused in
    let told = create_refused size sizes s c.args.name.now c.args.schema (g.D.Disk.view c.create.new.store.disk.now) c.in-Err-create.fault refused
    (λ other. ⊎_elim (λ failed. absurd (other failed))
    (λ kept. let now : EachImage (store_view c.create.new.store) (Stands size sizes s) = rw kept each in rw (c.in-Err-create.ensures.sizes ∙ c.in-Ok.ensures.sizes) at now)
    c.in-Err-create.ensures.untouched) in
    rw (sym c.told_of_fault-in-Err-create.ensures) at told
