use Rattle.std.proofs.Common.{◌+◌, ◌∙◌, [], ◌∷◌, ◌++◌, false, refl}
use Rattle.std.specs.Io.KnownBytes.{prepend_known}
use Rattle.page_store.specs.Store.{store_view}
use Rattle.qsr_value.specs.Values.{AreTexts, Fits}
use Rattle.qsr_top.proofs.LoadLemmas.{LoadsRows-sizes, LoadsRows-start, LoadsRows-then, WritesBehind-start, WritesBehind-then, all_more}
use Rattle.qsr_top.proofs.RowsReadLemmas.{ReadsRows-start, ReadsRows-then}
use Rattle.qsr_top.proofs.load.RowInput.read_rows.Goals as goal

pub rows-init : goal.rows-init
rows-init g c = record {
  rows = [];
  are = tt;
  reads = ReadsRows-start c.args.schema.now (c.args.self.now.served + 1) (prepend_known c.args.self.now.lines (g.S.Source.left c.args.source.now));
  loads = LoadsRows-start c.args.store.now.sizes c.args.schema.now false c.args.writer.now (store_view c.args.store.now);
  behind = WritesBehind-start (store_view c.args.store.now) c.args.writer.now;
  page = c.requires.page;
  ready = λ ready. ready;
  sizes = refl;
  same = refl;
  disk = refl;
  source = refl;
}

pub returns-in-Err-clause-behind : goal.returns-in-Err-clause-behind
returns-in-Err-clause-behind g c = WritesBehind-then c.rows.invariant.behind c.add.ensures.behind

pub returns-in-Err-clause-ready : goal.returns-in-Err-clause-ready
returns-in-Err-clause-ready g c ready = c.add.ensures.ready (c.rows.invariant.ready ready)

pub rows-preserved : goal.rows-preserved
rows-preserved g c =
    let so_far = c.rows.invariant in
    let schema = c.args.schema.now in
    let row = c.in-Some.row in
    let fits = rw c.in-Some.is at c.in_ok-row.ensures.fits in
    let reads = rw c.in-Some.is at c.in_ok-row.ensures.row in
    let loads = LoadsRows-sizes c.args.store.now.sizes c.rows.store.sizes schema (row ∷ []) c.rows.full c.in-Ok.now c.rows.writer c.add.new.writer
    (store_view c.rows.store) (store_view c.add.new.store) so_far.sizes c.in-Ok.ensures.loads in
    record {
      rows = so_far.rows ++ row ∷ [];
      are = all_more (λ row. Fits schema row × AreTexts row) so_far.rows row so_far.are fits;
      reads = ReadsRows-then schema (c.args.self.now.served + 1) (c.rows.self.served + 1) (c.next_row.new.self.served + 1)
          (prepend_known c.args.self.now.lines (g.S.Source.left c.args.source.now)) (prepend_known c.rows.self.lines (g.S.Source.left c.rows.source))
          (prepend_known c.next_row.new.self.lines (g.S.Source.left c.next_row.new.source)) so_far.rows (row ∷ []) so_far.reads reads;
      loads = LoadsRows-then c.args.store.now.sizes schema so_far.rows (row ∷ []) false c.rows.full c.in-Ok.now c.args.writer.now c.rows.writer c.add.new.writer
          (store_view c.args.store.now) (store_view c.rows.store) (store_view c.add.new.store) so_far.loads loads;
      behind = WritesBehind-then so_far.behind c.add.ensures.behind;
      page = c.add.ensures.page;
      ready = λ ready. c.add.ensures.ready (so_far.ready ready);
      sizes = c.add.ensures.sizes ∙ so_far.sizes;
      same = c.add.ensures.same ∙ so_far.same;
      disk = c.in-Ok.ensures.faults ∙ so_far.disk;
      source = c.in_ok-row.ensures.cause ∙ so_far.source;
    }
