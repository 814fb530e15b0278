use Rattle.std.proofs.Common.{◌≡◌, ◌+◌, ◌-◌, ◌*◌, ◌≤◌}
use Rattle.page_store.specs.Store.{store_view}
use Rattle.out_file.specs.Reading.{HasPage, OnlyRead, out_area}
use Rattle.out_file.proofs.ListingSteps.{HasCome}
use Rattle.out_file.proofs.listing.rows_from.Given as goal

-- the listing has come to `at`, `number` rows behind the start; only pages were read, and no call failed
abbrev pub invariant-loop-listing : goal.invariant-loop-listing
invariant-loop-listing g l = record {
  job : l.listing.window.job ≡ l.job;
  end : l.listing.end ≡ l.head.end;
  behind : 4096 * l.listing.window.next ≤ l.listing.at + 4095;
  few : 2 * l.number ≤ l.listing.at;
  came : HasCome l.schema l.from ((store_view l.fn.store).honest) (out_area l.job (store_view l.fn.store).seen) l.listing.at l.number (g.R.RowSink.pushed l.fn.out) (g.R.RowSink.pushed l.out);
  page : (store_view l.fn.store).honest → HasPage l.listing.window (store_view l.fn.store).seen;
  read : OnlyRead l.fn.store l.store;
  faults : g.D.Disk.faults_of l.store.disk.now ≡ g.D.Disk.faults_of l.fn.store.disk.now;
  reads : g.D.Disk.reads_of l.store.disk.now ≤ g.D.Disk.reads_of l.fn.store.disk.now + l.listing.window.next;
  follows : g.R.Outside.follows l.fn.out l.out;
  calls : g.R.Outside.calls l.out ≡ g.R.Outside.calls l.fn.out;
  unbounded : g.R.RowSink.unbounded l.out;
  row_faults : g.R.RowSink.row_faults_of l.out ≡ g.R.RowSink.row_faults_of l.fn.out;
}

abbrev pub decreases-loop-listing : goal.decreases-loop-listing
decreases-loop-listing g l = l.head.end - l.listing.at
