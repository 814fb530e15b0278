-- What a call on a disk in memory does to what it shows as a disk.
use Rattle.std.proofs.Common.{◌≡◌, ◌⊎◌, ℕ, ◌+◌, ◌-◌, Bool, true, false, cond, ◌||◌, List, [], ◌∷◌, ◌++◌, length, slice_index, arith, sym, refl, inl, inr, ⊎_elim, subst}
use Rattle.std.proofs.lemmas.Bool.Decides.{leb_tells}
use Rattle.std.proofs.lemmas.List.{length_push, take_all, take-append-le}
use Rattle.disk_model.specs.Image.{Image, Holds, SameOutside}
use Rattle.disk_model.specs.View.{View, LeavesOnly, Stays, Steps, IsSynced}
use Rattle.disk_model.specs.Replay.{Event, ReplayState, Wrote, Synced, SyncFailed, is_within, written, at_rest, after, IsImage, seen_is_image}
use Rattle.disk_model.specs.MemDisk.{replayed, WasImage, is_now, memory_view}
use Rattle.disk_model.proofs.Images.{within_is, below_is, above_is}
use Rattle.disk_model.proofs.Runs.{no_call}
use Rattle.disk_model.proofs.Splits.{replay-push}

split_was : (base : List ℕ) (log : List Event) (e : Event) (t : ℕ) (c : Image) → WasImage base (log ++ e ∷ []) t c → WasImage base log t c ⊎ IsImage (after e.deed (replayed base log)) c
split_was base log e t c was = elim (leb_tells was.0 (length log)) [
  | inl early ↦ inl (was.0, was.1, early.1, rw (take-append-le was.0 log (e ∷ []) early.1) at was.3)
  | inr late ↦ inr (rw (take_all was.0 (log ++ e ∷ []) (omega (arith, length_push log e, late.1)), replay-push (at_rest (slice_index base)) log e) at was.3)
]

keep_was : (base : List ℕ) (log : List Event) (e : Event) (t : ℕ) (c : Image) → WasImage base log t c → WasImage base (log ++ e ∷ []) t c
keep_was base log e t c was = (was.0, was.1, omega (arith, length_push log e, was.2), rw (take-append-le was.0 log (e ∷ []) was.2) was.3)

-- one deed more leaves what could be left before, or what can be left after it
push_run : (base : List ℕ) (log : List Event) (e : Event) (P : Image → Type 0) → ((c : Image) → IsImage (replayed base log) c → P c)
    → ((c : Image) → IsImage (after e.deed (replayed base log)) c → P c) → LeavesOnly (memory_view base log) (memory_view base (log ++ e ∷ [])) P
unfolding memory_view
push_run base log e P old new = record {
  later = omega (arith, length_push log e);
  each = λ c was. ⊎_elim (λ early. old c (is_now base log c early)) (new c) (split_was base log e (length log) c was);
  before = λ t c le was. ⊎_elim (λ early. inl early) (λ late. inr (new c late)) (split_was base log e t c was);
  keeps = λ t c le was. keep_was base log e t c was;
  honest = (λ h. h, λ h. h);
}

or_keeps : (x y : Bool) → x ≡ true → (x || y) ≡ true
or_keeps x y since = rw since

-- before a write, an image of it was the same outside its range
unwritten : (at n : ℕ) → (ℕ → ℕ) → Image → Image
unwritten at n synced c i = cond (is_within at n i) (synced i) (c i)

unwritten_place : (within unsynced : Bool) (m synced : ℕ) → (m ≡ synced) ⊎ ((unsynced || within) ≡ true) → (cond within synced m ≡ synced) ⊎ (unsynced ≡ true)
unwritten_place true unsynced m synced image = inl refl
unwritten_place false unsynced m synced (inl same) = inl same
unwritten_place false true m synced (inr since) = inr refl
unwritten_place false false m synced (inr since) = inr since

pub written_holds : (at : ℕ) (bytes : List ℕ) (c : Image) → Holds (written at bytes c) at bytes
written_holds at bytes c i within =
    let place : at + i - at ≡ i = omega arith in
    rw (within_is at (length bytes) (at + i) (omega arith) (omega (arith, within)), place)

pub written_outside : (at : ℕ) (bytes : List ℕ) (c : Image) → SameOutside at (length bytes) c (written at bytes c)
written_outside at bytes c = record {
  below = λ i less. rw (below_is at (length bytes) i less);
  above = λ i more. rw (above_is at (length bytes) i more);
}

unwritten_outside : (at n : ℕ) (synced : ℕ → ℕ) (c : Image) → SameOutside at n (unwritten at n synced c) c
unfolding unwritten
unwritten_outside at n synced c = record {
  below = λ i less. rw (below_is at n i less);
  above = λ i more. rw (above_is at n i more);
}

unwritten_image : (at : ℕ) (bytes : List ℕ) (s : ReplayState) (c : Image) → IsImage (after (Wrote at bytes) s) c → IsImage s (unwritten at (length bytes) s.synced c)
unfolding unwritten
unwritten_image at bytes s c image i = unwritten_place (is_within at (length bytes) i) (s.unsynced i) (c i) (s.synced i) (image i)

image_grows : (at : ℕ) (bytes : List ℕ) (s : ReplayState) (c : Image) → IsImage s c → IsImage (after (Wrote at bytes) s) c
image_grows at bytes s c image i = ⊎_elim (λ same. inl same) (λ since. inr (or_keeps (s.unsynced i) (is_within at (length bytes) i) since)) (image i)

pub write_steps : (base : List ℕ) (log : List Event) (call at : ℕ) (bytes : List ℕ)
    → Steps (SameOutside at (length bytes)) (memory_view base log) (memory_view base (log ++ record { call = call; deed = Wrote at bytes } ∷ []))
unfolding memory_view
write_steps base log call at bytes =
    let s = replayed base log in
    let e : Event = record { call = call; deed = Wrote at bytes } in
    let pushed : replayed base (log ++ e ∷ []) ≡ after (Wrote at bytes) s = replay-push (at_rest (slice_index base)) log e in
    record {
      seen = λ h. rw pushed (written_outside at bytes s.seen);
      crash = λ c now. (unwritten at (length bytes) s.synced c, unwritten_image at bytes s c (rw pushed at now), unwritten_outside at (length bytes) s.synced c);
      time = push_run base log e (IsImage (replayed base (log ++ e ∷ []))) (λ c old. rw pushed (image_grows at bytes s c old)) (λ c new. rw pushed new);
    }

pub write_holds : (base : List ℕ) (log : List Event) (call at : ℕ) (bytes : List ℕ)
    → Holds (memory_view base (log ++ record { call = call; deed = Wrote at bytes } ∷ [])).seen at bytes
unfolding memory_view
write_holds base log call at bytes = rw (replay-push (at_rest (slice_index base)) log (record { call = call; deed = Wrote at bytes })) (written_holds at bytes (replayed base log).seen)

seen_image : (base : List ℕ) (log : List Event) → IsImage (replayed base log) (replayed base log).seen
seen_image base log = seen_is_image (at_rest (slice_index base)) log (λ i. inl refl)

pub rest_image : (seen c : Image) → IsImage (at_rest seen) c → c ≡ seen
rest_image seen c image = λ i k. (⊎_elim (λ (same : c k ≡ seen k). same) (λ (never : false ≡ true). cc) (image k)) i

pub sync_stays : (base : List ℕ) (log : List Event) (call : ℕ) → Stays (memory_view base log) (memory_view base (log ++ record { call = call; deed = Synced } ∷ []))
unfolding memory_view
sync_stays base log call =
    let s = replayed base log in
    let e : Event = record { call = call; deed = Synced } in
    let pushed : replayed base (log ++ e ∷ []) ≡ at_rest s.seen = replay-push (at_rest (slice_index base)) log e in
    let back : (c : Image) → IsImage (at_rest s.seen) c → IsImage s c = λ c image. subst (IsImage s) (sym (rest_image s.seen c image)) (seen_image base log) in
    record {
      seen = rw pushed;
      crash = λ c now. back c (rw pushed at now);
      time = push_run base log e (IsImage s) (λ c old. old) back;
    }

pub sync_synced : (base : List ℕ) (log : List Event) (call : ℕ) → IsSynced (memory_view base (log ++ record { call = call; deed = Synced } ∷ []))
unfolding memory_view
sync_synced base log call = rw (replay-push (at_rest (slice_index base)) log (record { call = call; deed = Synced })) (rest_image (replayed base log).seen)

pub failed_stays : (base : List ℕ) (log : List Event) (call : ℕ) → Stays (memory_view base log) (memory_view base (log ++ record { call = call; deed = SyncFailed } ∷ []))
unfolding memory_view
failed_stays base log call =
    let s = replayed base log in
    let e : Event = record { call = call; deed = SyncFailed } in
    let pushed : replayed base (log ++ e ∷ []) ≡ s = replay-push (at_rest (slice_index base)) log e in
    record {
      seen = rw pushed;
      crash = λ c now. rw pushed at now;
      time = push_run base log e (IsImage s) (λ c old. old) (λ c new. new);
    }

pub same_stays : (v : View Image) → Stays v v
same_stays v = record {
  seen = refl;
  crash = λ c now. now;
  time = no_call v (λ c now. now);
}

pub same_steps : (v : View Image) (at n : ℕ) → Steps (SameOutside at n) v v
same_steps v at n = record {
  seen = λ h. record { below = λ i less. refl; above = λ i more. refl };
  crash = λ c now. (c, now, record { below = λ i less. refl; above = λ i more. refl });
  time = no_call v (λ c now. now);
}
