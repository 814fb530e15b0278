use Rattle.std.proofs.Common.{◌≡◌, ◌<◌, List, length, None, sym, ap, subst, arith, rules}
use Rattle.std.proofs.lemmas.List.{length-map}
use Rattle.page_store.specs.Store.{store_view}
use Rattle.page_store.specs.declared.pages.Sizes.{Sizes}
use Rattle.table_file.specs.CatalogueBytes.{IsCatalogue}
use Rattle.table_file.specs.Refusals.{create_refusal, table_names}
use Rattle.table_file.specs.Tables.{catalogue_of, with_table}
use Rattle.table_file.proofs.Committing.{created_each, created_run, only_commit}
use Rattle.table_file.proofs.Growth.{catalogue_with, created_is, created_is_form, new_table}
use Rattle.table_file.proofs.Lists.{popped}
use Rattle.table_file.proofs.Refusing.{accepted}
use Rattle.table_file.specs.declared.entries.TableEntry.{TableEntry}
use Rattle.table_file.proofs.catalogue.Catalogue.create.Goals as goal

pub commit_body-requires : goal.commit_body-requires
commit_body-requires g c =
    let old = c.args.self.now in
    let name = c.args.name.now in
    let columns = c.args.schema in
    let sizes = c.args.store.now.sizes in
    let none : create_refusal (table_names old) name columns ≡ None = search rules in
    let fits = accepted (table_names old) name columns none in
    let table = new_table sizes name columns c.requires.name c.requires.columns.0 c.requires.columns.1 c.requires.columns.2 fits.width in
    let few : length old.tables < 16 = omega (arith, fits.few, length-map old.tables (λ entry. entry.name)) in
    let form : IsCatalogue sizes (catalogue_with c.push.new.self old.indexes) =
    created_is_form sizes old name c.in_ok-from_str.field-0 columns c.push.new.self c.requires.form c.in_ok-from_str.ensures c.in-Ok.ensures.ok table few in
    (sizes, form)

pub returns-in-Ok-commit_body-clause-created : goal.returns-in-Ok-commit_body-clause-created
returns-in-Ok-commit_body-clause-created g c = λ s told.
    let old = c.args.self.now in
    let new : catalogue_with c.push.new.self old.indexes ≡ catalogue_of (with_table s c.args.name.now c.args.schema) =
    created_is s old c.args.name.now c.in_ok-from_str.field-0 c.args.schema c.push.new.self told c.in_ok-from_str.ensures c.in-Ok.ensures.ok in
    new

pub returns-in-Ok-commit_body-clause-form : goal.returns-in-Ok-commit_body-clause-form
returns-in-Ok-commit_body-clause-form g c =
    let old = c.args.self.now in
    let name = c.args.name.now in
    let columns = c.args.schema in
    let sizes = c.args.store.now.sizes in
    let none : create_refusal (table_names old) name columns ≡ None = search rules in
    let fits = accepted (table_names old) name columns none in
    let table = new_table sizes name columns c.requires.name c.requires.columns.0 c.requires.columns.1 c.requires.columns.2 fits.width in
    let few : length old.tables < 16 = omega (arith, fits.few, length-map old.tables (λ entry. entry.name)) in
    let form : IsCatalogue sizes (catalogue_with c.push.new.self old.indexes) =
    created_is_form sizes old name c.in_ok-from_str.field-0 columns c.push.new.self c.requires.form c.in_ok-from_str.ensures c.in-Ok.ensures.ok table few in
    subst (λ (told : Sizes). IsCatalogue told (catalogue_with c.push.new.self old.indexes)) (sym c.commit_body.ensures.sizes) form

pub returns-in-Ok-commit_body-clause-any_moment : goal.returns-in-Ok-commit_body-clause-any_moment
returns-in-Ok-commit_body-clause-any_moment g c = λ ready s told each.
    let old = c.args.self.now in
    let new : catalogue_with c.push.new.self old.indexes ≡ catalogue_of (with_table s c.args.name.now c.args.schema) =
    created_is s old c.args.name.now c.in_ok-from_str.field-0 c.args.schema c.push.new.self told c.in_ok-from_str.ensures c.in-Ok.ensures.ok in
    created_run s c.args.name.now c.args.schema (catalogue_with c.push.new.self old.indexes) new each (c.commit_body.ensures.any_moment ready)

pub returns-in-Ok-commit_body-clause-committed : goal.returns-in-Ok-commit_body-clause-committed
returns-in-Ok-commit_body-clause-committed g c = λ ready s told each.
    let old = c.args.self.now in
    let new : catalogue_with c.push.new.self old.indexes ≡ catalogue_of (with_table s c.args.name.now c.args.schema) =
    created_is s old c.args.name.now c.in_ok-from_str.field-0 c.args.schema c.push.new.self told c.in_ok-from_str.ensures c.in-Ok.ensures.ok in
    created_each (store_view c.args.store.now) (store_view c.commit_body.new.store) s c.args.name.now c.args.schema (catalogue_with c.push.new.self old.indexes) new each (c.in-Ok-commit_body.ensures.committed ready)

pub returns-in-Ok-commit_body-clause-others : goal.returns-in-Ok-commit_body-clause-others
returns-in-Ok-commit_body-clause-others g c = only_commit c.commit_body.ensures.within

pub returns-in-Err-clause-any_moment : goal.returns-in-Err-clause-any_moment
returns-in-Err-clause-any_moment g c = λ ready s told each.
    let old = c.args.self.now in
    let new : catalogue_with c.push.new.self old.indexes ≡ catalogue_of (with_table s c.args.name.now c.args.schema) =
    created_is s old c.args.name.now c.in_ok-from_str.field-0 c.args.schema c.push.new.self told c.in_ok-from_str.ensures c.in-Ok.ensures.ok in
    created_run s c.args.name.now c.args.schema (catalogue_with c.push.new.self old.indexes) new each (c.commit_body.ensures.any_moment ready)

pub returns-in-Err-clause-others : goal.returns-in-Err-clause-others
returns-in-Err-clause-others g c = only_commit c.commit_body.ensures.within

pub returns-in-Err-clause-kept : goal.returns-in-Err-clause-kept
returns-in-Err-clause-kept g c =
    ap (λ (tables : List TableEntry). catalogue_with tables c.args.self.now.indexes)
    (popped c.args.self.now.tables c.push.new.self c.pop.new.self _ c.pop.result c.in-Ok.ensures.ok c.pop.ensures)

pub returns-in-Err-clause-form : goal.returns-in-Err-clause-form
returns-in-Err-clause-form g c =
    let old = c.args.self.now in
    let left : catalogue_with c.pop.new.self old.indexes ≡ old =
    ap (λ (tables : List TableEntry). catalogue_with tables old.indexes)
    (popped old.tables c.push.new.self c.pop.new.self _ c.pop.result c.in-Ok.ensures.ok c.pop.ensures) in
    rw (left, c.commit_body.ensures.sizes) c.requires.form
