-- What is known of a disk, or of whatever stands on one, over any type of images: what a crash may leave, now and at any
-- moment since an earlier one.
use Rattle.std.specs.Prelude.{◌≡◌, ◌⊎◌, ◌↔◌, ℕ, ◌≤◌}

-- `I` is an image: all that is on the disk.
pub record View (I : Type 0) : Type 1 where
  -- it answers as it was written
  pub honest : Type 0
  -- what reads give
  pub seen : I
  -- a number that doesn't fall
  pub clock : ℕ
  -- what a crash now may leave
  pub now : I → Type 0
  -- what a crash at some moment from that one on might have left
  pub since : ℕ → I → Type 0
  -- this moment is one of those since an earlier one, and since this moment there is no other
  pub counts_now : (t : ℕ) (c : I) → t ≤ clock → now c → since t c
  pub only_now : (c : I) → since clock c → now c
  -- a process that dies leaves what it had written
  pub seen_may_stay : honest → now seen
  -- what isn't honest tells no image
  pub honest_if_left : (c : I) → now c → honest

-- A crash at any moment since `old` leaves an image that has P.
pub record LeavesOnly {I : Type 0} (old new : View I) (P : I → Type 0) : Type 0 where
  pub later : old.clock ≤ new.clock
  pub each : (c : I) → new.since old.clock c → P c
  -- for a run that began earlier
  pub before : (t : ℕ) (c : I) → t ≤ old.clock → new.since t c → old.since t c ⊎ P c
  -- what might have been left is not forgotten
  pub keeps : (t : ℕ) (c : I) → t ≤ old.clock → old.since t c → new.since t c
  pub honest : new.honest ↔ old.honest

-- each image that a crash now may leave has P
abbrev pub EachImage : {I : Type 0} → View I → (I → Type 0) → Type 0
EachImage {I} v P = (c : I) → v.now c → P c

-- an image that could be left before, after a step
abbrev pub After : {I : Type 0} → (I → I → Type 0) → View I → I → Type 0
After {I} step before c = (d : I) × before.now d × step d c

-- each new image is an old one after a step
abbrev pub Follows : {I : Type 0} → (I → I → Type 0) → View I → View I → Type 0
Follows {I} step old new = (c : I) → new.now c → (d : I) × old.now d × step d c

-- a run that changes nothing: reads give the same, and a crash leaves nothing new
pub record Stays {I : Type 0} (old new : View I) : Type 0 where
  pub seen : new.seen ≡ old.seen
  pub crash : (c : I) → new.now c → old.now c
  pub time : LeavesOnly old new old.now

-- a run that changes what is there by one step
pub record Steps {I : Type 0} (step : I → I → Type 0) (old new : View I) : Type 0 where
  pub seen : old.honest → step old.seen new.seen
  pub crash : Follows step old new
  pub time : LeavesOnly old new new.now

-- a crash leaves what reads give
abbrev pub IsSynced : {I : Type 0} → View I → Type 0
IsSynced v = EachImage v (λ c. c ≡ v.seen)

-- of what tells nothing
abbrev pub untold : {I : Type 0} → I → View I
untold seen = record {
  honest = ⊥;
  seen = seen;
  clock = 0;
  now = λ _. ⊥;
  since = λ _ _. ⊥;
  counts_now = λ t c le never. never;
  only_now = λ c never. never;
  seen_may_stay = λ never. never;
  honest_if_left = λ c never. never;
}
