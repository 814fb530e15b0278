use Rattle.std.proofs.Common.{◌≡◌, ◌<◌, take}
use Rattle.page_store.specs.Store.{IsReady, store_view}
use Rattle.table_file.proofs.Pushes.{HasPushed, IsAdding}
use Rattle.table_file.proofs.catalogue.Catalogue.push_rows.Given as goal

-- the rows so far are added
abbrev pub invariant-loop-row : goal.invariant-loop-row
invariant-loop-row g l =
    IsAdding (store_view l.initial.store) (store_view l.store) l.initial.writer l.writer
    × HasPushed l.schema (take l.row-index l.rows) (store_view l.initial.store) (store_view l.store) l.initial.writer l.writer
    × (l.writer.page < l.store.sizes.table)
    × (l.store.sizes ≡ l.initial.store.sizes)
    × (IsReady l.initial.store → IsReady l.store)
    × (l.store.disk.ghost_name ≡ l.initial.store.disk.ghost_name)
    × (g.D.Disk.faults_of l.store.disk.now ≡ g.D.Disk.faults_of l.initial.store.disk.now)
