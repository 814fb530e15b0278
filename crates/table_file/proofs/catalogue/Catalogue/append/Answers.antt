use Rattle.std.proofs.Common.{◌≡◌, ◌≤◌, ◌++◌, List, slice_get, true, Some, None, inl, inr, sym, ap, ◌∙◌, subst, ℕ}
use Rattle.std.specs.List.{AllByRecursion}
use Rattle.disk_model.proofs.Runs.{each_now, weaker_run}
use Rattle.page_store.specs.Store.{store_view}
use Rattle.page_store.specs.declared.pages.Sizes.{Sizes}
use Rattle.qsr_value.specs.Columns.{width_of}
use Rattle.qsr_value.specs.Values.{Fits}
use Rattle.qsr_value.specs.declared.schema.Column.{Column}
use Rattle.table_file.specs.Appending.{HasAdded, HasCounted}
use Rattle.table_file.specs.CatalogueBytes.{IsCatalogue, IsTable}
use Rattle.table_file.specs.Refusals.{IsAppendFault, exceeds}
use Rattle.table_file.specs.Tables.{catalogue_of, with_rows}
use Rattle.table_file.proofs.Appends.{appended_each, appended_run, columns_told, not_exceeds, place_told, schema_at, table_of}
use Rattle.table_file.proofs.Committing.{only_then}
use Rattle.table_file.proofs.Growth.{entry_there}
use Rattle.table_file.proofs.Lists.{all_at}
use Rattle.table_file.proofs.catalogue.Catalogue.append.Goals as goal

pub returns-in_default-clause-refused : goal.returns-in_default-clause-refused
returns-in_default-clause-refused g c = λ s told. place_told s c.args.self.now c.args.name.now None told c.in_default.ensures.place

pub push_rows-requires-clause-rows : goal.push_rows-requires-clause-rows
push_rows-requires-clause-rows g c =
    let at = schema_at c.args.self.now.tables c.in-Some.table c.schema-schema.result.now c.schema-schema.ensures in
    subst (λ (l : List Column). AllByRecursion (Fits l) c.args.rows.now) at.2 (c.requires.rows c.in-Some.table at.0 (sym c.in-Some.ensures.place) at.1)

pub push_rows-requires-clause-width : goal.push_rows-requires-clause-width
push_rows-requires-clause-width g c =
    let at = schema_at c.args.self.now.tables c.in-Some.table c.schema-schema.result.now c.schema-schema.ensures in
    subst (λ (l : List Column). width_of l ≤ 1000) at.2
    (all_at (IsTable c.args.store.now.sizes) c.args.self.now.tables c.in-Some.table at.0 at.1 c.requires.form.tables).schema.width

pub returns-in-Err-clause-refused : goal.returns-in-Err-clause-refused
returns-in-Err-clause-refused g c = λ s told.
    let old = c.args.self.now in
    let number = c.in-Some.table in
    let of = table_of s old c.args.name.now number told c.in-Some.ensures.place c.in-Some.ensures.within in
    let t = of.0 in
    let columns = columns_told s old number t c.schema-schema.result.now told of.1.there c.schema-schema.ensures in
    let w = c.writer-writer.result in
    let entry = entry_there s old number t told of.1.there in
    let counted : HasCounted c.schema-schema.result.now t.rows w = subst (λ (l : List Column). HasCounted l t.rows w) (sym columns) (c.writer-writer.ensures.counted t entry) in
    elim c.in-Err.ensures.fault [
      | inl failed ↦ subst (IsAppendFault c.args.store.now.sizes s c.args.name.now c.args.rows.now) (sym failed) (number, of.1.place)
      | inr full ↦
          subst (IsAppendFault c.args.store.now.sizes s c.args.name.now c.args.rows.now) (sym full.0)
          (number, t, of.1, subst (λ (l : List Column). exceeds c.args.store.now.sizes l (t.rows ++ c.args.rows.now) ≡ true) columns (full.1 t.rows counted))
    ]

pub returns-in-Err-clause-any_moment : goal.returns-in-Err-clause-any_moment
returns-in-Err-clause-any_moment g c = λ ready s told each.
    weaker_run (c.push_rows.ensures.keeps s (c.writer-writer.ensures.behind s told) each) (λ m has. inl has)

pub returns-in-Ok-commit_rows-clause-catalogue : goal.returns-in-Ok-commit_rows-clause-catalogue
returns-in-Ok-commit_rows-clause-catalogue g c = λ s told.
    let old = c.args.self.now in
    let number = c.in-Some.table in
    let of = table_of s old c.args.name.now number told c.in-Some.ensures.place c.in-Some.ensures.within in
    let t = of.0 in
    let columns = columns_told s old number t c.schema-schema.result.now told of.1.there c.schema-schema.ensures in
    let w = c.writer-writer.result in
    let entry = entry_there s old number t told of.1.there in
    let counted : HasCounted c.schema-schema.result.now t.rows w = subst (λ (l : List Column). HasCounted l t.rows w) (sym columns) (c.writer-writer.ensures.counted t entry) in
    let pushed = c.push_rows.new.writer in
    let table : pushed.table ≡ number = c.push_rows.ensures.table ∙ c.writer-writer.ensures.table in
    let there = subst (λ (n : ℕ). slice_get s.tables n ≡ Some t) (sym table) of.1.there in
    let rows = c.args.rows.now in
    let all : HasCounted t.columns (t.rows ++ rows) pushed = subst (λ (l : List Column). HasCounted l (t.rows ++ rows) pushed) columns (c.in-Ok.ensures.counted t.rows counted) in
    let new : c.commit_rows.new.self ≡ catalogue_of (with_rows s number t rows) =
    c.in-Ok-commit_rows.ensures.catalogue s t rows told there all ∙ ap (λ (n : ℕ). catalogue_of (with_rows s n t rows)) table in
    let form = subst (λ (sizes : Sizes). IsCatalogue sizes c.commit_rows.new.self) (c.commit_rows.ensures.sizes ∙ c.push_rows.ensures.sizes) c.commit_rows.ensures.form in
    (number, t, of.1, c.in-Ok-commit_rows.ensures.rows ∙ all.count, not_exceeds c.args.store.now.sizes s number t rows c.commit_rows.new.self new form of.1.there, new)

pub returns-in-Ok-commit_rows-clause-any_moment : goal.returns-in-Ok-commit_rows-clause-any_moment
returns-in-Ok-commit_rows-clause-any_moment g c = λ ready s told each.
    let old = c.args.self.now in
    let number = c.in-Some.table in
    let of = table_of s old c.args.name.now number told c.in-Some.ensures.place c.in-Some.ensures.within in
    let t = of.0 in
    let columns = columns_told s old number t c.schema-schema.result.now told of.1.there c.schema-schema.ensures in
    let w = c.writer-writer.result in
    let entry = entry_there s old number t told of.1.there in
    let counted : HasCounted c.schema-schema.result.now t.rows w = subst (λ (l : List Column). HasCounted l t.rows w) (sym columns) (c.writer-writer.ensures.counted t entry) in
    let pushed = c.push_rows.new.writer in
    let table : pushed.table ≡ number = c.push_rows.ensures.table ∙ c.writer-writer.ensures.table in
    let there = subst (λ (n : ℕ). slice_get s.tables n ≡ Some t) (sym table) of.1.there in
    let a = store_view c.args.store.now in
    let b = store_view c.push_rows.new.store in
    let behind = c.writer-writer.ensures.behind s told in
    let first = c.push_rows.ensures.keeps s behind each in
    let added : b.honest → HasAdded t.columns (t.rows ++ c.args.rows.now) pushed b.seen =
    λ after. subst (λ (l : List Column). HasAdded l (t.rows ++ c.args.rows.now) pushed b.seen) columns
    (c.in-Ok.ensures.added t.rows
    (λ before. subst (λ (l : List Column). HasAdded l t.rows w a.seen) (sym columns)
    (c.writer-writer.ensures.has t a.seen entry ((each a.seen (a.seen_may_stay before)).rows number t of.1.there)))
    after) in
    appended_run s c.args.name.now c.args.rows.now number pushed.table t of.1 table first
    (c.commit_rows.ensures.any_moment (c.push_rows.ensures.ready ready) s t c.args.rows.now told there (c.push_rows.ensures.behind s behind) (each_now first) added)

pub returns-in-Ok-commit_rows-clause-committed : goal.returns-in-Ok-commit_rows-clause-committed
returns-in-Ok-commit_rows-clause-committed g c = λ ready s told each.
    let old = c.args.self.now in
    let number = c.in-Some.table in
    let of = table_of s old c.args.name.now number told c.in-Some.ensures.place c.in-Some.ensures.within in
    let t = of.0 in
    let columns = columns_told s old number t c.schema-schema.result.now told of.1.there c.schema-schema.ensures in
    let w = c.writer-writer.result in
    let entry = entry_there s old number t told of.1.there in
    let counted : HasCounted c.schema-schema.result.now t.rows w = subst (λ (l : List Column). HasCounted l t.rows w) (sym columns) (c.writer-writer.ensures.counted t entry) in
    let pushed = c.push_rows.new.writer in
    let table : pushed.table ≡ number = c.push_rows.ensures.table ∙ c.writer-writer.ensures.table in
    let there = subst (λ (n : ℕ). slice_get s.tables n ≡ Some t) (sym table) of.1.there in
    let a = store_view c.args.store.now in
    let b = store_view c.push_rows.new.store in
    let behind = c.writer-writer.ensures.behind s told in
    let first = c.push_rows.ensures.keeps s behind each in
    let added : b.honest → HasAdded t.columns (t.rows ++ c.args.rows.now) pushed b.seen =
    λ after. subst (λ (l : List Column). HasAdded l (t.rows ++ c.args.rows.now) pushed b.seen) columns
    (c.in-Ok.ensures.added t.rows
    (λ before. subst (λ (l : List Column). HasAdded l t.rows w a.seen) (sym columns)
    (c.writer-writer.ensures.has t a.seen entry ((each a.seen (a.seen_may_stay before)).rows number t of.1.there)))
    after) in
    appended_each (store_view c.commit_rows.new.store) s c.args.name.now c.args.rows.now number pushed.table t of.1 table
    (c.in-Ok-commit_rows.ensures.committed (c.push_rows.ensures.ready ready) s t c.args.rows.now told there (c.push_rows.ensures.behind s behind) (each_now first) added)

pub returns-in-Ok-commit_rows-clause-others : goal.returns-in-Ok-commit_rows-clause-others
returns-in-Ok-commit_rows-clause-others g c = only_then c.push_rows.ensures.others c.commit_rows.ensures.others

pub returns-in-Ok-commit_rows-clause-ready_behind : goal.returns-in-Ok-commit_rows-clause-ready_behind
returns-in-Ok-commit_rows-clause-ready_behind g c = λ ready. c.in-Ok-commit_rows.ensures.ready (c.push_rows.ensures.ready ready)

pub returns-in-Err-commit_rows-clause-refused : goal.returns-in-Err-commit_rows-clause-refused
returns-in-Err-commit_rows-clause-refused g c = λ s told.
    (c.in-Some.table, place_told s c.args.self.now c.args.name.now (Some c.in-Some.table) told c.in-Some.ensures.place)

pub returns-in-Err-commit_rows-clause-any_moment : goal.returns-in-Err-commit_rows-clause-any_moment
returns-in-Err-commit_rows-clause-any_moment g c = λ ready s told each.
    let old = c.args.self.now in
    let number = c.in-Some.table in
    let of = table_of s old c.args.name.now number told c.in-Some.ensures.place c.in-Some.ensures.within in
    let t = of.0 in
    let columns = columns_told s old number t c.schema-schema.result.now told of.1.there c.schema-schema.ensures in
    let w = c.writer-writer.result in
    let entry = entry_there s old number t told of.1.there in
    let counted : HasCounted c.schema-schema.result.now t.rows w = subst (λ (l : List Column). HasCounted l t.rows w) (sym columns) (c.writer-writer.ensures.counted t entry) in
    let pushed = c.push_rows.new.writer in
    let table : pushed.table ≡ number = c.push_rows.ensures.table ∙ c.writer-writer.ensures.table in
    let there = subst (λ (n : ℕ). slice_get s.tables n ≡ Some t) (sym table) of.1.there in
    let a = store_view c.args.store.now in
    let b = store_view c.push_rows.new.store in
    let behind = c.writer-writer.ensures.behind s told in
    let first = c.push_rows.ensures.keeps s behind each in
    let added : b.honest → HasAdded t.columns (t.rows ++ c.args.rows.now) pushed b.seen =
    λ after. subst (λ (l : List Column). HasAdded l (t.rows ++ c.args.rows.now) pushed b.seen) columns
    (c.in-Ok.ensures.added t.rows
    (λ before. subst (λ (l : List Column). HasAdded l t.rows w a.seen) (sym columns)
    (c.writer-writer.ensures.has t a.seen entry ((each a.seen (a.seen_may_stay before)).rows number t of.1.there)))
    after) in
    appended_run s c.args.name.now c.args.rows.now number pushed.table t of.1 table first
    (c.commit_rows.ensures.any_moment (c.push_rows.ensures.ready ready) s t c.args.rows.now told there (c.push_rows.ensures.behind s behind) (each_now first) added)

pub returns-in-Err-commit_rows-clause-others : goal.returns-in-Err-commit_rows-clause-others
returns-in-Err-commit_rows-clause-others g c = only_then c.push_rows.ensures.others c.commit_rows.ensures.others
