use Rattle.std.proofs.Common.{◌≡◌, ◌+◌, ◌-◌, ◌*◌, ◌≤◌, length, take}
use Rattle.page_store.specs.Store.{Contents, store_view}
use Rattle.page_store.specs.Twin.{bytes_at}
use Rattle.out_file.specs.Reading.{HasPage, OnlyRead, out_area}
use Rattle.out_file.proofs.window.Window.fill.Given as goal

-- `done` bytes were copied, and only pages were read
abbrev pub invariant-loop-done : goal.invariant-loop-done
invariant-loop-done g l = record {
  within : l.done ≤ length l.out;
  job : l.self.job ≡ l.fn.self.job;
  behind : 4096 * l.self.next ≤ l.at + l.done + 4095;
  read : OnlyRead l.fn.store l.store;
  faults : g.D.Disk.faults_of l.store.disk.now ≡ g.D.Disk.faults_of l.fn.store.disk.now;
  reads : g.D.Disk.reads_of l.store.disk.now + l.fn.self.next ≤ g.D.Disk.reads_of l.fn.store.disk.now + l.self.next;
  bytes : (m : Contents) → (store_view l.fn.store).seen ≡ m → (store_view l.fn.store).honest → HasPage l.fn.self m
      → HasPage l.self m × (take l.done l.out ≡ bytes_at (out_area l.fn.self.job m) l.at l.done);
}

abbrev pub decreases-loop-done : goal.decreases-loop-done
decreases-loop-done g l = length l.initial.out - l.done
