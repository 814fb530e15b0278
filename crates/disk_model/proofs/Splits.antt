-- Doing calls again, up to the last sync and from there on.
use Rattle.std.proofs.Common.{◌≡◌, ℕ, ◌+◌, ◌<◌, ◌≤◌, Bool, true, false, cond, ◌||◌, List, [], ◌∷◌, ◌++◌, length, take, drop, get_or, arith, sym, ◌∙◌, refl, ap}
use Rattle.std.proofs.lemmas.List.{take_more, map_push, take-map, drop-map, drop-append-le, take-append-le, drop_all, take_all, length_push, length-map, length-take-le}
use Rattle.disk_model.specs.Image.{Image}
use Rattle.disk_model.specs.Replay.{Deed, Event, ReplayState, Wrote, Synced, SyncFailed, at_rest, after, replay, picked, put_by, played, SplitsAt, deed_of, event_of, events_of, is_within}
use Rattle.disk_model.specs.declared.history.Pick.{Pick}
use Rattle.disk_model.specs.declared.history.Pick.TheVariants.{Old, New, Fill}
use Rattle.disk_model.specs.declared.history.What.{What}
use Rattle.disk_model.specs.declared.history.What.TheVariants.{Write, Sync, FailedSync}
use Rattle.disk_model.specs.declared.history.Record.{Record}

pub replay-push : (s : ReplayState) (es : List Event) (e : Event) → replay s (es ++ e ∷ []) ≡ after e.deed (replay s es)
replay-push s [] e = refl
replay-push s (first ∷ es) e = replay-push (after first.deed s) es e

played-push : (pick : Pick) (c : Image) (es : List Event) (e : Event) → played pick (es ++ e ∷ []) c ≡ put_by pick e.deed (played pick es c)
played-push pick c [] e = refl
played-push pick c (first ∷ es) e = played-push pick (put_by pick first.deed c) es e

seen-after : (d : Deed) (s : ReplayState) → (after d s).seen ≡ put_by New d s.seen
seen-after (Wrote at bytes) s = refl
seen-after Synced s = refl
seen-after SyncFailed s = refl

seen-played : (s : ReplayState) (es : List Event) → (replay s es).seen ≡ played New es s.seen
seen-played s [] = refl
seen-played s (e ∷ es) = seen-played (after e.deed s) es ∙ ap (played New es) (seen-after e.deed s)

picked-at_rest : (pick : Pick) (c : Image) → picked pick (at_rest c) ≡ c
picked-at_rest Old c = refl
picked-at_rest New c = refl
picked-at_rest (Fill b) c = refl

cond-either : (x y : Bool) (b n : ℕ) → cond (x || y) b n ≡ cond y b (cond x b n)
cond-either true true b n = refl
cond-either true false b n = refl
cond-either false true b n = refl
cond-either false false b n = refl

picked-after : (pick : Pick) (d : Deed) (s : ReplayState) → (d ≡ Synced → ⊥) → picked pick (after d s) ≡ put_by pick d (picked pick s)
picked-after Old (Wrote at bytes) s unsynced = refl
picked-after New (Wrote at bytes) s unsynced = refl
picked-after (Fill b) (Wrote at bytes) s unsynced = λ i k. cond-either (s.unsynced k) (is_within at (length bytes) k) b (s.synced k) i
picked-after pick Synced s unsynced = absurd (unsynced refl)
picked-after Old SyncFailed s unsynced = refl
picked-after New SyncFailed s unsynced = refl
picked-after (Fill b) SyncFailed s unsynced = refl

put_by-synced : (pick : Pick) (d : Deed) (c : Image) → d ≡ Synced → put_by pick d c ≡ c
put_by-synced Old d c synced = refl
put_by-synced New d c synced = rw synced
put_by-synced (Fill b) d c synced = rw synced

SplitsAt-sync : (es : List Event) (e : Event) → e.deed ≡ Synced → SplitsAt (length es + 1) (es ++ e ∷ [])
SplitsAt-sync es e synced pick c =
    let left : picked pick (replay (at_rest c) (es ++ e ∷ [])) ≡ (replay (at_rest c) es).seen =
    ap (picked pick) (replay-push (at_rest c) es e ∙ ap (λ d. after d (replay (at_rest c) es)) synced) ∙ picked-at_rest pick (replay (at_rest c) es).seen in
    let right : played New (es ++ e ∷ []) c ≡ played New es c = played-push New c es e ∙ put_by-synced New e.deed (played New es c) synced in
    let long : length (es ++ e ∷ []) ≤ length es + 1 = omega (arith, length_push es e) in
    rw (drop_all (length es + 1) (es ++ e ∷ []) long, take_all (length es + 1) (es ++ e ∷ []) long) (left ∙ seen-played (at_rest c) es ∙ sym right)

SplitsAt-other : (n : ℕ) (es : List Event) (e : Event) → n ≤ length es → (e.deed ≡ Synced → ⊥) → SplitsAt n es → SplitsAt n (es ++ e ∷ [])
SplitsAt-other n es e within unsynced splits pick c =
    let left : picked pick (replay (at_rest c) (es ++ e ∷ [])) ≡ put_by pick e.deed (picked pick (replay (at_rest c) es)) =
    ap (picked pick) (replay-push (at_rest c) es e) ∙ picked-after pick e.deed (replay (at_rest c) es) unsynced in
    rw (drop-append-le n es (e ∷ []) within, take-append-le n es (e ∷ []) within, played-push pick (played New (take n es) c) (drop n es) e)
    (left ∙ ap (put_by pick e.deed) (splits pick c))

-- one record more
more_events : (records : List Record) (k : ℕ) (d : Record) → k < length records → events_of (take (k + 1) records) ≡ events_of (take k records) ++ event_of (get_or records k d) ∷ []
more_events records k d below = ap events_of (take_more records k d below) ∙ map_push event_of (take k records) (get_or records k d)

count_events : (records : List Record) (k : ℕ) → k < length records → length (events_of (take k records)) ≡ k
count_events records k below = length-map (take k records) event_of ∙ length-take-le k records (omega arith)

pub splits_behind : (records : List Record) (k : ℕ) (d : Record) → k < length records → (get_or records k d).what ≡ Sync → SplitsAt (k + 1) (events_of (take (k + 1) records))
splits_behind records k d below sync =
    let splits : SplitsAt (length (events_of (take k records)) + 1) (events_of (take k records) ++ event_of (get_or records k d) ∷ []) =
    SplitsAt-sync (events_of (take k records)) (event_of (get_or records k d)) (ap deed_of sync) in
    rw (more_events records k d below) (rw (count_events records k below) at splits)

no_sync : (what : What) → (what ≡ Sync → ⊥) → deed_of what ≡ Synced → ⊥
no_sync (Write at len bytes) other same = cc
no_sync Sync other same = other refl
no_sync FailedSync other same = cc

pub splits_before : (records : List Record) (k n : ℕ) (d : Record) → k < length records → n ≤ k → ((get_or records k d).what ≡ Sync → ⊥)
    → SplitsAt n (events_of (take k records)) → SplitsAt n (events_of (take (k + 1) records))
splits_before records k n d below within other splits =
    rw (more_events records k d below) (SplitsAt-other n (events_of (take k records)) (event_of (get_or records k d)) (omega (arith, within, count_events records k below)) (no_sync (get_or records k d).what other) splits)

pub both_parts : (records : List Record) (n : ℕ) (pick : Pick) (old mid new : Image) → SplitsAt n (events_of records)
    → mid ≡ played New (events_of (take n records)) old → new ≡ played pick (events_of (drop n records)) mid → new ≡ picked pick (replay (at_rest old) (events_of records))
both_parts records n pick old mid new splits front back =
    back ∙ ap (played pick (events_of (drop n records))) front ∙ sym (splits pick old ∙ simp (take-map, drop-map))
