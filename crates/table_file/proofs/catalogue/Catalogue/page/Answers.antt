use Rattle.std.proofs.Common.{◌≡◌, ◌+◌, ◌<◌, ◌≤◌, length, take, ap, ◌∙◌, arith, rules}
use Rattle.table_file.specs.CatalogueBytes.{IsTable}
use Rattle.table_file.specs.Tables.{entry_of}
use Rattle.table_file.specs.declared.entries.TableEntry.{TableEntry}
use Rattle.table_file.proofs.Growth.{page_within}
use Rattle.table_file.proofs.Lists.{all_at, item_is}
use Rattle.table_file.proofs.PageRows.{full_rows, last_rows, only_fits, schema_of}
use Rattle.table_file.proofs.catalogue.Catalogue.page.Goals as goal

pub read-requires-clause-page : goal.read-requires-clause-page
read-requires-clause-page g c = page_within c.args.store.now.sizes c.args.self.now c.args.table c.args.page c.requires.form c.requires.table c.requires.page

pub overflow_add-page : goal.overflow_add-page
overflow_add-page g c =
    let low = page_within c.args.store.now.sizes c.args.self.now c.args.table c.args.page c.requires.form c.requires.table c.requires.page in
    let most : c.args.store.now.sizes.table ≤ 65536 = search rules in
    omega (arith, low, most)

pub returns-then-page-entry-clause-rows : goal.returns-then-page-entry-clause-rows
returns-then-page-entry-clause-rows g c = λ t there honest stand all.
    let entry = c.index-as_slice-table.result in
    let is = item_is c.args.self.now.tables c.as_slice.result.now c.args.table entry (entry_of t) c.index-as_slice-table.is c.as_slice.ensures there in
    let table = all_at (IsTable c.args.store.now.sizes) c.args.self.now.tables c.args.table (entry_of t) there c.requires.form.tables in
    let count : c.args.page + 1 ≡ (entry_of t).pages = c.if-page-entry.true ∙ ap (λ (e : TableEntry). e.pages) is in
    let long : length c.read.new.buf ≡ 4096 = search rules in
    ap (λ (e : TableEntry). take e.end c.read.new.buf) is
    ∙ last_rows t c.args.table c.args.page c.read.new.buf _ count table.end long (c.in_ok-read.ensures.bytes honest) stand

pub returns-then-page-entry-clause-last : goal.returns-then-page-entry-clause-last
returns-then-page-entry-clause-last g c = λ other there count.
    let entry = c.index-as_slice-table.result in
    ap (λ (e : TableEntry). e.end) (item_is c.args.self.now.tables c.as_slice.result.now c.args.table entry other c.index-as_slice-table.is c.as_slice.ensures there)

pub returns-clause-rows : goal.returns-clause-rows
returns-clause-rows g c = λ t there honest stand all.
    let entry = c.index-as_slice-table.result in
    let is = item_is c.args.self.now.tables c.as_slice.result.now c.args.table entry (entry_of t) c.index-as_slice-table.is c.as_slice.ensures there in
    let table = all_at (IsTable c.args.store.now.sizes) c.args.self.now.tables c.args.table (entry_of t) there c.requires.form.tables in
    let low : c.args.page < (entry_of t).pages = c.requires.page (entry_of t) there in
    let pages : entry.pages ≡ (entry_of t).pages = ap (λ (e : TableEntry). e.pages) is in
    let more : c.args.page + 1 < (entry_of t).pages = omega (arith, low, pages, c.if-page-entry.false) in
    let long : length c.read.new.buf ≡ 4096 = search rules in
    full_rows t c.args.table c.args.page c.rows_end.result c.read.new.buf _ more (schema_of c.args.store.now.sizes t table) (only_fits t.columns t.rows all)
    (c.encodings_are_exact.ensures.width t.columns) long (c.in_ok-read.ensures.bytes honest) stand c.rows_end.ensures.rows

pub returns-clause-last : goal.returns-clause-last
returns-clause-last g c = λ other there count.
    let entry = c.index-as_slice-table.result in
    let pages : entry.pages ≡ other.pages = ap (λ (e : TableEntry). e.pages) (item_is c.args.self.now.tables c.as_slice.result.now c.args.table entry other c.index-as_slice-table.is c.as_slice.ensures there) in
    absurd (omega (arith, pages, count, c.if-page-entry.false))
