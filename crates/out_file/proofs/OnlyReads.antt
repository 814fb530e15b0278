-- Runs that only read pages.
use Rattle.std.proofs.Common.{◌∙◌, refl}
use Rattle.disk_model.specs.View.{Stays, View}
use Rattle.disk_model.specs.declared.disk.Disk.{Ghosts}
use Rattle.disk_model.proofs.Runs.{no_call, stays_twice}
use Rattle.page_store.specs.Store.{store_view}
use Rattle.page_store.specs.declared.store.Store.{Store}
use Rattle.out_file.specs.Reading.{OnlyRead}

no_change : {I : Type 0} (v : View I) → Stays v v
no_change v = record { seen = refl; crash = λ c now. now; time = no_call v (λ c now. now) }

pub none_read : {D : Type 0} {g : Ghosts D} (s : Store D g) → OnlyRead s s
none_read s = record {
  stays = no_change (store_view s);
  ready = λ ready. ready;
  sizes = refl;
  same = refl;
  writes = refl;
  syncs = refl;
}

pub read_twice : {D : Type 0} {g : Ghosts D} {a b c : Store D g} → OnlyRead a b → OnlyRead b c → OnlyRead a c
read_twice first second = record {
  stays = stays_twice first.stays second.stays;
  ready = λ ready. second.ready (first.ready ready);
  sizes = second.sizes ∙ first.sizes;
  same = second.same ∙ first.same;
  writes = second.writes ∙ first.writes;
  syncs = second.syncs ∙ first.syncs;
}
