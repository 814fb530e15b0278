-- What a disk in memory records of its writes and syncs, and what it holds after them.
use Rattle.std.specs.Prelude.{◌≡◌, ◌⊎◌, ◌≤◌, ⊤, ℕ, ◌+◌, ◌-◌, Bool, true, false, cond, ◌&&◌, ◌||◌, nat_le, nat_lt, if◌then◌else◌, List, [], ◌∷◌, length, take, drop, map, slice_index}
use Rattle.std.proofs.Common.{refl, inl, inr, ◌∙◌}
use Rattle.std.specs.List.{take_while}
use Rattle.disk_model.specs.Image.{Image}
use Rattle.disk_model.specs.declared.history.Pick.{Pick}
use Rattle.disk_model.specs.declared.history.Pick.TheVariants.{Old, New, Fill}
use Rattle.disk_model.specs.declared.history.What.{What}
use Rattle.disk_model.specs.declared.history.What.TheVariants.{Write, Sync, FailedSync}
use Rattle.disk_model.specs.declared.history.Record.{Record}

-- These bytes were written at this offset · all that was written is synced · a sync failed.
pub data Deed : Type 0 where
  Wrote : (at : ℕ) (bytes : List ℕ) → Deed
  Synced : Deed
  SyncFailed : Deed

-- what a call did, and the number of the call
pub record Event : Type 0 where
  pub call : ℕ
  pub deed : Deed

-- What is on a disk: what reads give, what was synced, and which bytes were written since.
pub record ReplayState : Type 0 where
  pub seen : Image
  pub synced : Image
  pub unsynced : ℕ → Bool

abbrev pub is_within : ℕ → ℕ → ℕ → Bool
is_within at n i = nat_le at i && nat_lt i (at + n)

-- these bytes at this offset, over an image
abbrev pub written : ℕ → List ℕ → Image → Image
written at bytes c i = if is_within at (length bytes) i then slice_index bytes (i - at) else c i

-- n bytes b at this offset, over an image
abbrev pub filled : ℕ → ℕ → ℕ → Image → Image
filled at n b c i = if is_within at n i then b else c i

-- all is synced, and this is what stands there
abbrev pub at_rest : Image → ReplayState
at_rest c = record { seen = c; synced = c; unsynced = λ _. false }

abbrev pub after : Deed → ReplayState → ReplayState
after (Wrote at bytes) s = record {
  seen = written at bytes s.seen;
  synced = s.synced;
  unsynced = λ i. s.unsynced i || is_within at (length bytes) i;
}
after Synced s = at_rest s.seen
after SyncFailed s = s

abbrev pub replay : ReplayState → List Event → ReplayState
replay s [] = s
replay s (e ∷ es) = replay (after e.deed s) es

-- what a crash may leave: each byte is as it was synced, or was written since
abbrev pub IsImage : ReplayState → Image → Type 0
IsImage s c = (i : ℕ) → (c i ≡ s.synced i) ⊎ (s.unsynced i ≡ true)

-- the image that a pick leaves: what was written since is as it was synced, as it was written, or b in each byte
abbrev pub picked : Pick → ReplayState → Image
picked Old s = s.synced
picked New s = s.seen
picked (Fill b) s = λ i. if s.unsynced i then b else s.synced i

-- what was recorded of the first so many calls
abbrev pub before : ℕ → List Event → List Event
before calls log = take_while (λ e. nat_lt e.call calls) log

-- what a deed leaves of an image, where a pick is made of what it writes
abbrev pub put_by : Pick → Deed → Image → Image
put_by Old d c = c
put_by New (Wrote at bytes) c = written at bytes c
put_by New Synced c = c
put_by New SyncFailed c = c
put_by (Fill b) (Wrote at bytes) c = filled at (length bytes) b c
put_by (Fill b) Synced c = c
put_by (Fill b) SyncFailed c = c

abbrev pub played : Pick → List Event → Image → Image
played pick [] c = c
played pick (e ∷ es) c = played pick es (put_by pick e.deed c)

-- A pick leaves the same if the first n events are done again, and the rest are put as the pick has them.
abbrev pub SplitsAt : ℕ → List Event → Type 0
SplitsAt n es = (pick : Pick) (c : Image) → picked pick (replay (at_rest c) es) ≡ played pick (drop n es) (played New (take n es) c)

-- what a record in memory stands for
abbrev pub deed_of : What → Deed
deed_of (Write at len bytes) = Wrote at (take len bytes)
deed_of Sync = Synced
deed_of FailedSync = SyncFailed

abbrev pub event_of : Record → Event
event_of r = record { call = r.number; deed = deed_of r.what }

abbrev pub events_of : List Record → List Event
events_of records = map event_of records

-- a write takes a page at most, and lies within a disk of this size
abbrev pub FitsIn : ℕ → What → Type 0
FitsIn size (Write at len bytes) = (len ≤ 4096) × (at + len ≤ size)
FitsIn size Sync = ⊤
FitsIn size FailedSync = ⊤

or_true : (x : Bool) → (x || true) ≡ true
or_true true = refl
or_true false = refl

or_false : (x : Bool) → (x || false) ≡ x
or_false true = refl
or_false false = refl

seen_by_place : (within unsynced : Bool) (new old synced : ℕ) → (old ≡ synced) ⊎ (unsynced ≡ true) → (cond within new old ≡ synced) ⊎ ((unsynced || within) ≡ true)
seen_by_place true unsynced new old synced image = inr (or_true unsynced)
seen_by_place false unsynced new old synced (inl same) = inl same
seen_by_place false unsynced new old synced (inr since) = inr (or_false unsynced ∙ since)

seen_stays : (d : Deed) (s : ReplayState) → IsImage s s.seen → IsImage (after d s) (after d s).seen
seen_stays (Wrote at bytes) s image = λ i. seen_by_place (is_within at (length bytes) i) (s.unsynced i) (slice_index bytes (i - at)) (s.seen i) (s.synced i) (image i)
seen_stays Synced s image = λ i. inl refl
seen_stays SyncFailed s image = image

-- what reads give is one of the images
pub seen_is_image : (s : ReplayState) (es : List Event) → IsImage s s.seen → IsImage (replay s es) (replay s es).seen
seen_is_image s [] image = image
seen_is_image s (e ∷ es) image = seen_is_image (after e.deed s) es (seen_stays e.deed s image)
