use Rattle.std.proofs.Common.{ℕ, ◌++◌, inl, sym, ◌∙◌, subst, arith, rules}
use Rattle.disk_model.proofs.Runs.{weaker_run}
use Rattle.page_store.specs.Store.{store_view}
use Rattle.page_store.specs.declared.pages.Sizes.{Sizes}
use Rattle.table_file.specs.Appending.{HasCounted}
use Rattle.table_file.specs.CatalogueBytes.{IsCatalogue}
use Rattle.table_file.proofs.Committing.{grown_each, grown_run, only_commit, only_growth, only_then}
use Rattle.table_file.proofs.Growth.{IsGrown, counted_same, grown_by_form, grown_told}
use Rattle.table_file.proofs.catalogue.Catalogue.commit_rows.Goals as goal

pub returns-in_err-flush-clause-any_moment : goal.returns-in_err-flush-clause-any_moment
returns-in_err-flush-clause-any_moment g c = λ ready s t rows same there behind each added. weaker_run (c.flush.ensures.keeps s behind each) (λ m has. inl has)

pub returns-in_err-flush-clause-others : goal.returns-in_err-flush-clause-others
returns-in_err-flush-clause-others g c = only_growth c.args.writer.now.table _ (search rules) c.flush.ensures.grows

pub commit_body-requires : goal.commit_body-requires
commit_body-requires g c =
    let old = c.args.self.now in
    let w = c.args.writer.now in
    let other = c.flush.new.self in
    let number = w.table in
    let setup = c.flush.ensures.setup in
    let grown : IsGrown other.table other old c.grow.new.self = record { tables = c.grow.ensures.tables; indexes = c.grow.ensures.indexes } in
    let is : IsGrown number other old c.grow.new.self = subst (λ (n : ℕ). IsGrown n other old c.grow.new.self) setup.0 grown in
    let form : IsCatalogue c.args.store.now.sizes c.grow.new.self =
    grown_by_form c.args.store.now.sizes number other old c.grow.new.self is c.requires.form c.requires.table (search rules) (search rules) (omega (arith, setup.2, c.requires.page)) in
    (c.args.store.now.sizes, form)

pub returns-in_err-commit_body-clause-form : goal.returns-in_err-commit_body-clause-form
returns-in_err-commit_body-clause-form g c =
    let old = c.args.self.now in
    let w = c.args.writer.now in
    let other = c.flush.new.self in
    let number = w.table in
    let setup = c.flush.ensures.setup in
    let grown : IsGrown other.table other old c.grow.new.self = record { tables = c.grow.ensures.tables; indexes = c.grow.ensures.indexes } in
    let is : IsGrown number other old c.grow.new.self = subst (λ (n : ℕ). IsGrown n other old c.grow.new.self) setup.0 grown in
    let form : IsCatalogue c.args.store.now.sizes c.grow.new.self =
    grown_by_form c.args.store.now.sizes number other old c.grow.new.self is c.requires.form c.requires.table (search rules) (search rules) (omega (arith, setup.2, c.requires.page)) in
    subst (λ (sizes : Sizes). IsCatalogue sizes c.grow.new.self) (sym (c.commit_body.ensures.sizes ∙ c.flush.ensures.sizes)) form

pub returns-in_err-commit_body-clause-any_moment : goal.returns-in_err-commit_body-clause-any_moment
returns-in_err-commit_body-clause-any_moment g c = λ ready s t rows same there behind each added.
    let old = c.args.self.now in
    let w = c.args.writer.now in
    let other = c.flush.new.self in
    let number = w.table in
    let setup = c.flush.ensures.setup in
    let grown : IsGrown other.table other old c.grow.new.self = record { tables = c.grow.ensures.tables; indexes = c.grow.ensures.indexes } in
    let is : IsGrown number other old c.grow.new.self = subst (λ (n : ℕ). IsGrown n other old c.grow.new.self) setup.0 grown in
    let told = λ (counted : HasCounted t.columns (t.rows ++ rows) w). grown_told s t rows number other old c.grow.new.self is same there (counted_same t.columns (t.rows ++ rows) w other setup.1 setup.2 setup.3 counted) in
    grown_run s number t rows c.grow.new.self (λ honest. told (added honest).counted) (c.flush.ensures.keeps s behind each)
    (c.in_ok-flush.ensures.stand t.columns (t.rows ++ rows) added) (c.commit_body.ensures.any_moment (c.flush.ensures.ready ready))

pub returns-in_err-commit_body-clause-others : goal.returns-in_err-commit_body-clause-others
returns-in_err-commit_body-clause-others g c =
    only_then (only_growth c.args.writer.now.table _ (search rules) c.flush.ensures.grows) (only_commit c.commit_body.ensures.within)

pub returns-clause-catalogue : goal.returns-clause-catalogue
returns-clause-catalogue g c = λ s t rows same there counted.
    let old = c.args.self.now in
    let w = c.args.writer.now in
    let other = c.flush.new.self in
    let number = w.table in
    let setup = c.flush.ensures.setup in
    let grown : IsGrown other.table other old c.grow.new.self = record { tables = c.grow.ensures.tables; indexes = c.grow.ensures.indexes } in
    let is : IsGrown number other old c.grow.new.self = subst (λ (n : ℕ). IsGrown n other old c.grow.new.self) setup.0 grown in
    let told = λ (counted : HasCounted t.columns (t.rows ++ rows) w). grown_told s t rows number other old c.grow.new.self is same there (counted_same t.columns (t.rows ++ rows) w other setup.1 setup.2 setup.3 counted) in
    told counted

pub returns-clause-form : goal.returns-clause-form
returns-clause-form g c =
    let old = c.args.self.now in
    let w = c.args.writer.now in
    let other = c.flush.new.self in
    let number = w.table in
    let setup = c.flush.ensures.setup in
    let grown : IsGrown other.table other old c.grow.new.self = record { tables = c.grow.ensures.tables; indexes = c.grow.ensures.indexes } in
    let is : IsGrown number other old c.grow.new.self = subst (λ (n : ℕ). IsGrown n other old c.grow.new.self) setup.0 grown in
    let form : IsCatalogue c.args.store.now.sizes c.grow.new.self =
    grown_by_form c.args.store.now.sizes number other old c.grow.new.self is c.requires.form c.requires.table (search rules) (search rules) (omega (arith, setup.2, c.requires.page)) in
    subst (λ (sizes : Sizes). IsCatalogue sizes c.grow.new.self) (sym (c.commit_body.ensures.sizes ∙ c.flush.ensures.sizes)) form

pub returns-clause-any_moment : goal.returns-clause-any_moment
returns-clause-any_moment g c = λ ready s t rows same there behind each added.
    let old = c.args.self.now in
    let w = c.args.writer.now in
    let other = c.flush.new.self in
    let number = w.table in
    let setup = c.flush.ensures.setup in
    let grown : IsGrown other.table other old c.grow.new.self = record { tables = c.grow.ensures.tables; indexes = c.grow.ensures.indexes } in
    let is : IsGrown number other old c.grow.new.self = subst (λ (n : ℕ). IsGrown n other old c.grow.new.self) setup.0 grown in
    let told = λ (counted : HasCounted t.columns (t.rows ++ rows) w). grown_told s t rows number other old c.grow.new.self is same there (counted_same t.columns (t.rows ++ rows) w other setup.1 setup.2 setup.3 counted) in
    grown_run s number t rows c.grow.new.self (λ honest. told (added honest).counted) (c.flush.ensures.keeps s behind each)
    (c.in_ok-flush.ensures.stand t.columns (t.rows ++ rows) added) (c.commit_body.ensures.any_moment (c.flush.ensures.ready ready))

pub returns-clause-committed : goal.returns-clause-committed
returns-clause-committed g c = λ ready s t rows same there behind each added.
    let old = c.args.self.now in
    let w = c.args.writer.now in
    let other = c.flush.new.self in
    let number = w.table in
    let setup = c.flush.ensures.setup in
    let grown : IsGrown other.table other old c.grow.new.self = record { tables = c.grow.ensures.tables; indexes = c.grow.ensures.indexes } in
    let is : IsGrown number other old c.grow.new.self = subst (λ (n : ℕ). IsGrown n other old c.grow.new.self) setup.0 grown in
    let told = λ (counted : HasCounted t.columns (t.rows ++ rows) w). grown_told s t rows number other old c.grow.new.self is same there (counted_same t.columns (t.rows ++ rows) w other setup.1 setup.2 setup.3 counted) in
    grown_each (store_view c.args.store.now) (store_view c.flush.new.store) (store_view c.commit_body.new.store) s number t rows c.grow.new.self (λ honest. told (added honest).counted)
    (c.flush.ensures.keeps s behind each) (c.in_ok-flush.ensures.stand t.columns (t.rows ++ rows) added) (c.in_ok-commit_body.ensures.committed (c.flush.ensures.ready ready))

pub returns-clause-others : goal.returns-clause-others
returns-clause-others g c =
    only_then (only_growth c.args.writer.now.table _ (search rules) c.flush.ensures.grows) (only_commit c.commit_body.ensures.within)

pub returns-clause-ready : goal.returns-clause-ready
returns-clause-ready g c = λ ready. c.in_ok-commit_body.ensures.ready (c.flush.ensures.ready ready)
