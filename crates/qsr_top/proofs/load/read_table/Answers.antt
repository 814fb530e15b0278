use Rattle.std.proofs.Common.{◌+◌, Err, ap, false, true}
use Rattle.std.specs.Io.KnownBytes.{prepend_known}
use Rattle.page_store.specs.Store.{store_view}
use Rattle.qsr_top.proofs.LoadedLemmas.{IsLoading-start, IsRead-all, IsReadFull-all, IsUnread-first, LoadsAll-first, prepend-none, schema_at, schema_is}
use Rattle.qsr_top.proofs.RowsReadLemmas.{IsReadFault-weaker}
use Rattle.qsr_top.proofs.load.read_table.Goals as goal

pub read_rows-requires-clause-columns : goal.read_rows-requires-clause-columns
read_rows-requires-clause-columns g c =
    (schema_at c.args.store.now.sizes c.args.catalogue.now.tables c.args.table c.schema.result.now c.requires.form.tables c.schema.ensures).most

pub read_rows-requires-clause-width : goal.read_rows-requires-clause-width
read_rows-requires-clause-width g c =
    (schema_at c.args.store.now.sizes c.args.catalogue.now.tables c.args.table c.schema.result.now c.requires.form.tables c.schema.ensures).width

pub returns-in-Ok-true-clause-fault : goal.returns-in-Ok-true-clause-fault
returns-in-Ok-true-clause-fault g c t there stand =
    let store = c.args.store.now in
    let catalogue = c.args.catalogue.now in
    let left = g.S.Source.left c.args.source.now in
    let left' = g.S.Source.left c.read_rows.new.source in
    let writer = c.writer-writer.result in
    let schema = schema_is catalogue.tables c.args.table t c.schema.result.now there c.schema.ensures in
    let all = LoadsAll-first store.sizes t.columns c.schema.result.now (c.in_ok-input.input.served + 1) (prepend_known c.in_ok-input.input.lines left) left left' true writer c.read_rows.new.writer
    (store_view store) (store_view c.read_rows.new.store) schema (ap (λ n. n + 1) c.in_ok-input.ensures.1) (prepend-none c.in_ok-input.input.lines left c.in_ok-input.ensures.0) (rw c.in-Ok-true.field-0-test at c.in-Ok-true.ensures.all) in
    IsReadFull-all (IsRead-all store.sizes t left left' true writer c.read_rows.new.writer (store_view store) (store_view c.read_rows.new.store) all
    (IsLoading-start store.sizes catalogue c.args.table t writer (store_view store) c.requires.form there (c.writer-writer.ensures.counted t there)
    (λ honest. c.writer-writer.ensures.has t (store_view store).seen there (stand honest))))

pub returns-in-Ok-true-clause-keeps : goal.returns-in-Ok-true-clause-keeps
returns-in-Ok-true-clause-keeps g c s is each = c.read_rows.ensures.behind.keeps s (c.writer-writer.ensures.behind s is) each

pub returns-in-Ok-false-clause-read : goal.returns-in-Ok-false-clause-read
returns-in-Ok-false-clause-read g c t there stand =
    let store = c.args.store.now in
    let catalogue = c.args.catalogue.now in
    let left = g.S.Source.left c.args.source.now in
    let left' = g.S.Source.left c.read_rows.new.source in
    let writer = c.writer-writer.result in
    let schema = schema_is catalogue.tables c.args.table t c.schema.result.now there c.schema.ensures in
    let all = LoadsAll-first store.sizes t.columns c.schema.result.now (c.in_ok-input.input.served + 1) (prepend_known c.in_ok-input.input.lines left) left left' false writer c.read_rows.new.writer
    (store_view store) (store_view c.read_rows.new.store) schema (ap (λ n. n + 1) c.in_ok-input.ensures.1) (prepend-none c.in_ok-input.input.lines left c.in_ok-input.ensures.0) (rw c.in-Ok-false.field-0-test at c.in-Ok-false.ensures.all) in
    IsRead-all store.sizes t left left' false writer c.read_rows.new.writer (store_view store) (store_view c.read_rows.new.store) all
    (IsLoading-start store.sizes catalogue c.args.table t writer (store_view store) c.requires.form there (c.writer-writer.ensures.counted t there)
    (λ honest. c.writer-writer.ensures.has t (store_view store).seen there (stand honest)))

pub returns-in-Ok-false-clause-keeps : goal.returns-in-Ok-false-clause-keeps
returns-in-Ok-false-clause-keeps g c s is each = c.read_rows.ensures.behind.keeps s (c.writer-writer.ensures.behind s is) each

pub returns-clause-fault : goal.returns-clause-fault
returns-clause-fault g c t there stand =
    let left = g.S.Source.left c.args.source.now in
    let schema = schema_is c.args.catalogue.now.tables c.args.table t c.schema.result.now there c.schema.ensures in
    IsReadFault-weaker c.in-Err.told
    (λ told unread. IsUnread-first t.columns c.schema.result.now (c.in_ok-input.input.served + 1) (prepend_known c.in_ok-input.input.lines left) left (Err told) schema
    (ap (λ n. n + 1) c.in_ok-input.ensures.1) (prepend-none c.in_ok-input.input.lines left c.in_ok-input.ensures.0) unread)
    (λ none. absurd none) c.in-Err.ensures.fault

pub returns-clause-keeps : goal.returns-clause-keeps
returns-clause-keeps g c s is each = c.read_rows.ensures.behind.keeps s (c.writer-writer.ensures.behind s is) each
