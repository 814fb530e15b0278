use Rattle.std.proofs.Common.{◌≡◌, ◌+◌, ◌-◌, ◌<◌, List, false}
use Rattle.std.specs.Io.KnownBytes.{prepend_known}
use Rattle.page_store.specs.Store.{IsReady, store_view}
use Rattle.qsr_value.specs.declared.row.Value.{Value}
use Rattle.table_file.specs.Tables.{AreRows}
use Rattle.qsr_top.specs.RowsRead.{LoadsRows, ReadsRows, WritesBehind}
use Rattle.qsr_value.specs.declared.limits.TheConstants.{MAX_LINES}
use Rattle.qsr_top.proofs.load.RowInput.read_rows.Given as goal

-- these rows were read, and added as long as there was room, and no call failed
abbrev pub invariant-rows : goal.invariant-rows
invariant-rows g l = record {
  rows : List (List Value);
  are : AreRows l.schema rows;
  reads : ReadsRows l.schema (l.fn.self.served + 1) (prepend_known l.fn.self.lines (g.S.Source.left l.fn.source))
      (l.self.served + 1) (prepend_known l.self.lines (g.S.Source.left l.source)) rows;
  loads : LoadsRows l.fn.store.sizes l.schema rows false l.fn.writer (store_view l.fn.store) l.full l.writer (store_view l.store);
  behind : WritesBehind (store_view l.fn.store) (store_view l.store) l.fn.writer l.writer;
  page : l.writer.page < l.store.sizes.table;
  ready : IsReady l.fn.store → IsReady l.store;
  sizes : l.store.sizes ≡ l.fn.store.sizes;
  same : l.store.disk.ghost_name ≡ l.fn.store.disk.ghost_name;
  disk : g.D.Disk.faults_of l.store.disk.now ≡ g.D.Disk.faults_of l.fn.store.disk.now;
  source : g.S.Source.faults_of l.source ≡ g.S.Source.faults_of l.fn.source;
}

abbrev pub decreases-rows : goal.decreases-rows
decreases-rows g l = MAX_LINES + 1 - l.self.served
