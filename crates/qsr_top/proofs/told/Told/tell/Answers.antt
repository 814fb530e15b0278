use Rattle.std.specs.String.{string_bytes}
use Rattle.qsr_top.specs.declared.told.Told.TheVariants.{RowTooWide, CatalogueFull, TableFull, NotStore}
use Rattle.qsr_top.proofs.ToldLemmas.{told_or, told_plainly}
use Rattle.qsr_top.proofs.told.Told.tell.Goals as goal

pub returns-in-RowTooWide : goal.returns-in-RowTooWide
returns-in-RowTooWide g c =
    told_or string_bytes c.row_too_wide.result c.args.name.now c.args.self (RowTooWide c.in-RowTooWide.bytes) c.say-in-RowTooWide.result
    (g.K.Sink.given c.args.sink.now) (g.K.Sink.given c.say-in-RowTooWide.new.sink) (g.K.Sink.faults_of c.args.sink.now) (g.K.Sink.faults_of c.say-in-RowTooWide.new.sink)
    c.in-RowTooWide.is (record {}) c.row_too_wide.ensures c.say-in-RowTooWide.ensures.ok c.say-in-RowTooWide.ensures.err

pub returns-in-CatalogueFull : goal.returns-in-CatalogueFull
returns-in-CatalogueFull g c =
    told_plainly c.args.name.now c.args.self CatalogueFull c.tell-in-CatalogueFull.result
    (g.K.Sink.given c.args.sink.now) (g.K.Sink.given c.tell-in-CatalogueFull.new.sink) (g.K.Sink.faults_of c.args.sink.now) (g.K.Sink.faults_of c.tell-in-CatalogueFull.new.sink)
    c.in-CatalogueFull.is c.tell-in-CatalogueFull.ensures

pub returns-in-TableFull : goal.returns-in-TableFull
returns-in-TableFull g c =
    told_plainly c.args.name.now c.args.self TableFull c.tell-in-TableFull.result
    (g.K.Sink.given c.args.sink.now) (g.K.Sink.given c.tell-in-TableFull.new.sink) (g.K.Sink.faults_of c.args.sink.now) (g.K.Sink.faults_of c.tell-in-TableFull.new.sink)
    c.in-TableFull.is c.tell-in-TableFull.ensures

pub returns-in-NotStore : goal.returns-in-NotStore
returns-in-NotStore g c =
    told_or string_bytes c.not_store.result c.args.name.now c.args.self (NotStore c.in-NotStore.page) c.say-in-NotStore.result
    (g.K.Sink.given c.args.sink.now) (g.K.Sink.given c.say-in-NotStore.new.sink) (g.K.Sink.faults_of c.args.sink.now) (g.K.Sink.faults_of c.say-in-NotStore.new.sink)
    c.in-NotStore.is (record {}) c.not_store.ensures c.say-in-NotStore.ensures.ok c.say-in-NotStore.ensures.err
