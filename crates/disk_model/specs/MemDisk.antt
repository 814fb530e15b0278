-- What contracts see of a disk in memory, and what it shows as a disk.
use Rattle.std.specs.Prelude.{◌≡◌, ℕ, ◌-◌, ◌^◌, ◌<◌, ◌≤◌, ⊤, nat_le, if◌then◌else◌, List, [], ◌∷◌, ◌++◌, All, length, take, slice_index}
use Rattle.std.proofs.Common.{arith, inl, refl}
use Rattle.std.proofs.lemmas.List.{take_all}
use Rattle.disk_model.specs.Image.{Image}
use Rattle.disk_model.specs.View.{View}
use Rattle.disk_model.specs.Replay.{Deed, Event, ReplayState, at_rest, replay, IsImage, seen_is_image, events_of, FitsIn}
use Rattle.disk_model.specs.declared.history.Record.{Record}

pub record DiskState : Type 0 where
  -- the bytes that stood on it at the start
  pub base : List ℕ
  -- the writes and syncs since then
  pub log : List Event
  -- how many writes and syncs it can record
  pub room : ℕ
  -- the numbers of the calls that fail, counted from 0
  pub failing : List ℕ
  -- how many calls came, how many of them failed, were reads, were writes, and were syncs
  pub calls : ℕ
  pub faults : ℕ
  pub reads : ℕ
  pub writes : ℕ
  pub syncs : ℕ

-- a disk that was not called yet
abbrev pub fresh : List ℕ → ℕ → List ℕ → DiskState
fresh base room failing = record {
  base = base;
  log = [];
  room = room;
  failing = failing;
  calls = 0;
  faults = 0;
  reads = 0;
  writes = 0;
  syncs = 0;
}

abbrev pub IsFull : DiskState → Type 0
IsFull d = d.room ≤ length d.log

-- the log with one deed more, where there is room for it
abbrev pub recorded : DiskState → Deed → List Event
recorded d deed = if nat_le d.room (length d.log) then d.log else d.log ++ record { call = d.calls; deed = deed } ∷ []

-- what it began with, its room, and which calls fail
pub record SameSetup (old new : DiskState) : Type 0 where
  pub base : new.base ≡ old.base
  pub room : new.room ≡ old.room
  pub failing : new.failing ≡ old.failing

-- what is on it after the deeds of a log
abbrev pub replayed : List ℕ → List Event → ReplayState
replayed base log = replay (at_rest (slice_index base)) log

-- at some moment from this length of the log on a crash might have left it
abbrev pub WasImage : List ℕ → List Event → ℕ → Image → Type 0
WasImage base log t c = (k : ℕ) × (t ≤ k) × (k ≤ length log) × IsImage (replayed base (take k log)) c

pub was_now : (base : List ℕ) (log : List Event) (t : ℕ) (c : Image) → t ≤ length log → IsImage (replayed base log) c → WasImage base log t c
was_now base log t c le now = (length log, le, omega arith, rw (take_all (length log) log (omega arith)) now)

pub is_now : (base : List ℕ) (log : List Event) (c : Image) → WasImage base log (length log) c → IsImage (replayed base log) c
is_now base log c was = rw (take_all was.0 log was.1) at was.3

-- honest at all times; its clock is the length of its log
unfoldable pub memory_view : List ℕ → List Event → View Image
memory_view base log = record {
  honest = ⊤;
  seen = (replayed base log).seen;
  clock = length log;
  now = IsImage (replayed base log);
  since = WasImage base log;
  counts_now = was_now base log;
  only_now = is_now base log;
  seen_may_stay = λ _. seen_is_image (at_rest (slice_index base)) log (λ i. inl refl);
  honest_if_left = λ c left. tt;
}

abbrev pub view_of : DiskState → View Image
view_of d = memory_view d.base d.log

-- how the fields of a disk in memory belong together
pub record IsSound (base bytes : List ℕ) (log : List Record) (room capacity calls : ℕ) : Type 0 where
  pub shown : slice_index bytes ≡ (replayed base (events_of log)).seen
  pub size : length bytes ≡ length base
  pub fits : All (λ r. FitsIn (length base) r.what) log
  -- the calls that are recorded came before the next one, unless the count stands still
  pub counted : calls < 2 ^ 64 - 1 → All (λ r. r.number < calls) log
  pub within : length log ≤ room
  pub reserved : room ≤ capacity
