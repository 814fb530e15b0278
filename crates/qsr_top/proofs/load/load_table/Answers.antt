use Rattle.std.proofs.Common.{◌∙◌, inl, refl}
use Rattle.disk_model.proofs.Runs.{each_now, weaker_run}
use Rattle.page_store.specs.Store.{store_view}
use Rattle.table_file.specs.Tables.{with_rows}
use Rattle.table_file.proofs.Committing.{only_then}
use Rattle.qsr_top.proofs.CreateLemmas.{stands_each}
use Rattle.qsr_top.proofs.LoadedLemmas.{HasLoaded-all, IsTableOf-same, Loads-fault, each_sizes, entry_at, loads_moment, rows_seen, stands_kept}
use Rattle.qsr_top.proofs.load.load_table.Goals as goal

pub returns-in-Err-clause-loads : goal.returns-in-Err-clause-loads
returns-in-Err-clause-loads g c ready size s are says each honest name t is =
    let store = c.args.store.now in
    let new = c.read_table.new.store in
    let there = entry_at c.args.catalogue.now s c.args.table t says is.there in
    let fault = c.in-Err.ensures.fault t there (rows_seen size store.sizes s (store_view store) name c.args.table t each is) in
    let keeps = c.read_table.ensures.keeps s says (λ m now. (each m now).tables) in
    Loads-fault size store.sizes s name (g.S.Source.left c.args.source.now) (g.S.Source.left c.read_table.new.source) (g.D.Disk.view new.disk.now) c.args.table t c.in-Err.told is
    (each_sizes store.sizes new.sizes (g.D.Disk.view new.disk.now) c.read_table.ensures.sizes (stands_each size store.sizes s s each (each_now keeps) c.read_table.ensures.others)) fault

pub returns-in-Err-clause-any_moment : goal.returns-in-Err-clause-any_moment
returns-in-Err-clause-any_moment g c ready size s are says each honest name t is =
    let keeps = c.read_table.ensures.keeps s says (λ m now. (each m now).tables) in
    weaker_run (stands_kept size c.args.store.now.sizes s each keeps c.read_table.ensures.others) (λ m stands. inl stands)

pub returns-in-Ok-commit_rows-clause-loads : goal.returns-in-Ok-commit_rows-clause-loads
returns-in-Ok-commit_rows-clause-loads g c ready size s are says each honest name t is =
    let store = c.args.store.now in
    let mid = c.read_table.new.store in
    let new = c.commit_rows.new.store in
    let writer = c.in-Ok.writer in
    let left = g.S.Source.left c.args.source.now in
    let left' = g.S.Source.left c.read_table.new.source in
    let there = entry_at c.args.catalogue.now s c.args.table t says is.there in
    let read = c.in-Ok.ensures.read t there (rows_seen size store.sizes s (store_view store) name c.args.table t each is) in
    let own = IsTableOf-same s name c.args.table writer.table t c.in-Ok.ensures.table is in
    let keeps = c.read_table.ensures.keeps s says (λ m now. (each m now).tables) in
    let committed = c.in-Ok-commit_rows.ensures.committed (c.read_table.ensures.ready ready) s t read.rows says own.there (c.in-Ok.ensures.behind s says) (each_now keeps) (read.loading.added refl) in
    let others = only_then c.read_table.ensures.others c.commit_rows.ensures.others in
    let grown = with_rows s writer.table t read.rows in
    let stands = stands_each size store.sizes s grown each committed others in
    HasLoaded-all size store.sizes new.sizes s name left left' (g.D.Disk.view new.disk.now) t writer (store_view mid) c.commit_rows.new.self c.in-Ok-commit_rows.rows own read are
    c.in-Ok-commit_rows.ensures.rows (c.in-Ok-commit_rows.ensures.catalogue s t read.rows says own.there (read.loading.counted refl)) (c.commit_rows.ensures.sizes ∙ c.read_table.ensures.sizes)
    c.commit_rows.ensures.form (each_sizes store.sizes new.sizes (g.D.Disk.view new.disk.now) (c.commit_rows.ensures.sizes ∙ c.read_table.ensures.sizes) stands)

pub returns-in-Ok-commit_rows-clause-any_moment : goal.returns-in-Ok-commit_rows-clause-any_moment
returns-in-Ok-commit_rows-clause-any_moment g c ready size s are says each honest name t is =
    let store = c.args.store.now in
    let writer = c.in-Ok.writer in
    let left = g.S.Source.left c.args.source.now in
    let left' = g.S.Source.left c.read_table.new.source in
    let there = entry_at c.args.catalogue.now s c.args.table t says is.there in
    let read = c.in-Ok.ensures.read t there (rows_seen size store.sizes s (store_view store) name c.args.table t each is) in
    let own = IsTableOf-same s name c.args.table writer.table t c.in-Ok.ensures.table is in
    let keeps = c.read_table.ensures.keeps s says (λ m now. (each m now).tables) in
    let commits = c.commit_rows.ensures.any_moment (c.read_table.ensures.ready ready) s t read.rows says own.there (c.in-Ok.ensures.behind s says) (each_now keeps) (read.loading.added refl) in
    loads_moment size store.sizes s name left left' t writer each own read keeps commits (only_then c.read_table.ensures.others c.commit_rows.ensures.others)

pub returns-in-Ok-commit_rows-clause-others : goal.returns-in-Ok-commit_rows-clause-others
returns-in-Ok-commit_rows-clause-others g c = only_then c.read_table.ensures.others c.commit_rows.ensures.others

pub returns-in-Err-commit_rows-clause-any_moment : goal.returns-in-Err-commit_rows-clause-any_moment
returns-in-Err-commit_rows-clause-any_moment g c ready size s are says each honest name t is =
    let store = c.args.store.now in
    let writer = c.in-Ok.writer in
    let left = g.S.Source.left c.args.source.now in
    let left' = g.S.Source.left c.read_table.new.source in
    let there = entry_at c.args.catalogue.now s c.args.table t says is.there in
    let read = c.in-Ok.ensures.read t there (rows_seen size store.sizes s (store_view store) name c.args.table t each is) in
    let own = IsTableOf-same s name c.args.table writer.table t c.in-Ok.ensures.table is in
    let keeps = c.read_table.ensures.keeps s says (λ m now. (each m now).tables) in
    let commits = c.commit_rows.ensures.any_moment (c.read_table.ensures.ready ready) s t read.rows says own.there (c.in-Ok.ensures.behind s says) (each_now keeps) (read.loading.added refl) in
    loads_moment size store.sizes s name left left' t writer each own read keeps commits (only_then c.read_table.ensures.others c.commit_rows.ensures.others)

pub returns-in-Err-commit_rows-clause-others : goal.returns-in-Err-commit_rows-clause-others
returns-in-Err-commit_rows-clause-others g c = only_then c.read_table.ensures.others c.commit_rows.ensures.others
