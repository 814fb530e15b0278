-- How the fields of a disk in memory stay together, and what they show.
use Rattle.std.proofs.Common.{◌≡◌, ℕ, ◌+◌, ◌-◌, ◌^◌, ◌<◌, ◌≤◌, List, [], ◌∷◌, ◌++◌, length, take, drop, slice_index, nat_lt, arith, sym, ◌∙◌, refl, ap, ◌⊎◌, inl, inr, cond, Bool, true, false}
use Rattle.std.specs.List.{prefix_len, All, AllByRecursion}
use Rattle.std.proofs.lemmas.Bool.Decides.{nat_tests}
use Rattle.qsr_value.specs.Causes.{next_count}
use Rattle.std.proofs.lemmas.List.{length_push, map_push, take-map, take_at}
use Rattle.std.proofs.lemmas.List.Elements.{All-push, All-weaker, recursion_from_All}
use Rattle.std.proofs.lemmas.List.Sums.{prefix_len-le-length, take_while-cons}
use Rattle.disk_model.specs.Image.{Image}
use Rattle.disk_model.specs.View.{IsSynced}
use Rattle.disk_model.specs.Replay.{Event, ReplayState, Wrote, written, at_rest, after, IsImage, seen_is_image, picked, before, event_of, events_of, FitsIn}
use Rattle.disk_model.specs.MemDisk.{replayed, memory_view, IsSound}
use Rattle.disk_model.specs.declared.history.Pick.{Pick}
use Rattle.disk_model.specs.declared.history.Pick.TheVariants.{Old, New, Fill}
use Rattle.disk_model.specs.declared.history.Record.{Record}
use Rattle.disk_model.proofs.Splits.{replay-push}
use Rattle.disk_model.proofs.MemRuns.{rest_image}

pub record_log : (old new : List Record) (r : Record) (e : Event) → new ≡ old ++ r ∷ [] → event_of r ≡ e → events_of new ≡ events_of old ++ e ∷ []
record_log old new r e pushed event = ap events_of pushed ∙ map_push event_of old r ∙ ap (λ last. events_of old ++ last ∷ []) event

-- a vector whose items are written over
pub refill : (n : ℕ) (ws xs : List ℕ) → length ws ≡ n → take n (ws ++ drop (length ws) xs) ≡ ws
refill n ws xs same = take_at ws (drop (length ws) xs) n same

numbers_later : (log : List Record) (calls later : ℕ) → later ≡ next_count calls → (calls < 2 ^ 64 - 1 → All (λ r. r.number < calls) log)
    → later < 2 ^ 64 - 1 → All (λ r. r.number < later) log
numbers_later log calls later counts counted less =
    All-weaker (λ (r : Record). r.number < calls) (λ (r : Record). r.number < later) (λ r before. omega (arith, counts, before, less)) log (counted (omega (arith, counts, less)))

pub IsSound-push : (base bytes : List ℕ) (old : List Record) (room had calls : ℕ) → IsSound base bytes old room had calls
    → (written : List ℕ) (new : List Record) (has later : ℕ) (r : Record) (e : Event) → e.call ≡ calls → later ≡ next_count calls → new ≡ old ++ r ∷ [] → has ≡ had → event_of r ≡ e → FitsIn (length base) r.what → length old < room
    → length written ≡ length bytes → slice_index written ≡ (after e.deed (replayed base (events_of old))).seen → IsSound base written new room has later
IsSound-push base bytes old room had calls sound written new has later r e number counts pushed same event fits below size shown =
    record {
      shown = rw (record_log old new r e pushed event, replay-push (at_rest (slice_index base)) (events_of old) e) shown;
      size = size ∙ sound.size;
      fits = rw pushed (All-push (λ (one : Record). FitsIn (length base) one.what) old r sound.fits fits);
      counted = λ less. rw pushed (All-push (λ (one : Record). one.number < later) old r (numbers_later old calls later counts sound.counted less) (omega (arith, ap (λ (one : Event). one.call) event, number, counts, less)));
      within = omega (arith, ap length pushed, length_push old r, below);
      reserved = omega (arith, same, sound.reserved);
    }

-- a call that records nothing
pub IsSound-call : (base bytes : List ℕ) (log : List Record) (room capacity calls later : ℕ) → later ≡ next_count calls → IsSound base bytes log room capacity calls → IsSound base bytes log room capacity later
IsSound-call base bytes log room capacity calls later counts sound = record {
  shown = sound.shown;
  size = sound.size;
  fits = sound.fits;
  counted = numbers_later log calls later counts sound.counted;
  within = sound.within;
  reserved = sound.reserved;
}

-- a write over the bytes, with its record
pub IsSound-write : (base bytes : List ℕ) (old : List Record) (room had calls : ℕ) → IsSound base bytes old room had calls
    → (len at has later : ℕ) (with over : List ℕ) (new : List Record) (r : Record) → later ≡ next_count calls → new ≡ old ++ r ∷ [] → has ≡ had → length old < room
    → event_of r ≡ record { call = calls; deed = Wrote at with } → ((size : ℕ) → at + length with ≤ size → FitsIn size r.what) → at + length with ≤ length base
    → len ≡ length bytes → length over ≡ length bytes → slice_index over ≡ written at with (slice_index bytes)
    → IsSound base (take len (over ++ drop (length over) bytes)) new room has later
IsSound-write base bytes old room had calls sound len at has later with over new r counts pushed same below event fits within long size image =
    rw (refill len over bytes (size ∙ sym long))
    (IsSound-push base bytes old room had calls sound over new has later r (record { call = calls; deed = Wrote at with }) refl counts pushed same event (fits (length base) within) below size
    (image ∙ ap (written at with) sound.shown))

pub view_seen : (base : List ℕ) (log : List Event) → (memory_view base log).seen ≡ (replayed base log).seen
unfolding memory_view
view_seen base log = refl

pub fresh_seen : (base : List ℕ) → (memory_view base []).seen ≡ slice_index base
unfolding memory_view
fresh_seen base = refl

pub fresh_synced : (base : List ℕ) → IsSynced (memory_view base [])
unfolding memory_view
fresh_synced base = rest_image (slice_index base)

by_place : (since : Bool) (b synced : ℕ) → (cond since b synced ≡ synced) ⊎ (since ≡ true)
by_place true b synced = inr refl
by_place false b synced = inl refl

picked_image : (pick : Pick) (s : ReplayState) → IsImage s s.seen → IsImage s (picked pick s)
picked_image Old s image = λ i. inl refl
picked_image New s image = image
picked_image (Fill b) s image = λ i. by_place (s.unsynced i) b (s.synced i)

-- what a pick leaves could be left
pub picked_possible : (base : List ℕ) (log : List Event) (calls : ℕ) (pick : Pick) (c : Image) → c ≡ picked pick (replayed base (before calls log)) → (memory_view base log).since 0 c
unfolding memory_view
picked_possible base log calls pick c same =
    let k = prefix_len (λ (e : Event). nat_lt e.call calls) log in (
      k,
      omega arith,
      prefix_len-le-length (λ (e : Event). nat_lt e.call calls) log,
      rw same (picked_image pick (replayed base (take k log)) (seen_is_image (at_rest (slice_index base)) (take k log) (λ i. inl refl))),
    )

-- the records of the first so many calls
pub before_taken : (records : List Record) (calls n : ℕ) → n ≡ prefix_len (λ e. nat_lt e.call calls) (events_of records) → before calls (events_of records) ≡ events_of (take n records)
before_taken records calls n same = ap (λ k. take k (events_of records)) (sym same) ∙ take-map event_of n records

is_before : (a b : ℕ) → a < b → nat_lt a b ≡ true
is_before a b less = grind (arith, nat_tests)

before_all_by : (records : List Record) (calls : ℕ) → AllByRecursion (λ (r : Record). r.number < calls) records → before calls (events_of records) ≡ events_of records
before_all_by [] calls all = refl
before_all_by (r ∷ records) calls all =
    let test : nat_lt r.number calls ≡ true = is_before r.number calls all.0 in
    take_while-cons (λ (e : Event). nat_lt e.call calls) (event_of r) (events_of records) ∙ rw test (ap (λ rest. event_of r ∷ rest) (before_all_by records calls all.1))

-- all that is recorded is of the calls so far
pub before_all : (records : List Record) (now calls : ℕ) → (now < 2 ^ 64 - 1 → All (λ r. r.number < now) records) → now ≤ calls → now < 2 ^ 64 - 1 → before calls (events_of records) ≡ events_of records
before_all records now calls counted some less =
    before_all_by records calls (recursion_from_All _ records (All-weaker (λ (r : Record). r.number < now) (λ (r : Record). r.number < calls) (λ r early. omega (arith, early, some)) records (counted less)))

-- where all is synced the old bytes are the new ones
pub picked_synced : (base : List ℕ) (log : List Event) (pick : Pick) → (pick ≡ Old) ⊎ (pick ≡ New) → IsSynced (memory_view base log) → picked pick (replayed base log) ≡ (memory_view base log).seen
unfolding memory_view
picked_synced base log pick (inl old) synced = rw old (synced (replayed base log).synced (λ i. inl refl))
picked_synced base log pick (inr new) synced = rw new
