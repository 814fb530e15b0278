-- What a crash at any moment leaves while a slot is replaced.
use Rattle.std.proofs.Common.{◌≡◌, ◌≢◌, ◌⊎◌, ℕ, ◌+◌, ◌≤◌, List, refl, sym, subst, inl, inr, ⊎_elim, arith, ◌∙◌}
use Rattle.std.proofs.lemmas.Bool.{cases_lt}
use Rattle.std.proofs.lemmas.Bool.Decides.{eqb_tells}
use Rattle.disk_model.specs.Image.{Image, Holds, SameOutside}
use Rattle.disk_model.specs.View.{View, EachImage, LeavesOnly, Stays, Steps}
use Rattle.disk_model.proofs.Runs.{and_then, each_now, weaker_run}
use Rattle.page_store.specs.declared.records.TheConstants.{OPEN}
use Rattle.page_store.specs.Twin.{IsClosedOrHolds, KeepsOutside}

pub same_outside_itself : (at n : ℕ) (c : Image) → SameOutside at n c c
same_outside_itself at n c = record { below = λ i low. refl; above = λ i high. refl }

pub same_outside_twice : (at n : ℕ) (a b c : Image) → SameOutside at n a b → SameOutside at n b c → SameOutside at n a c
same_outside_twice at n a b c first second = record {
  below = λ i low. second.below i low ∙ first.below i low;
  above = λ i high. second.above i high ∙ first.above i high;
}

pub wider : (at n to m : ℕ) (a b : Image) → to ≤ at → at + n ≤ to + m → SameOutside at n a b → SameOutside to m a b
wider at n to m a b low high same = record {
  below = λ i below. same.below i (omega arith);
  above = λ i above. same.above i (omega arith);
}

-- runs that change n bytes at an offset at most
pub keeps_stays : {a b : View Image} (at n : ℕ) → Stays a b → KeepsOutside at n a b
keeps_stays {a = a} {b = b} at n stays = record {
  seen = λ honest. subst (λ (s : Image). SameOutside at n a.seen s) (sym stays.seen) (same_outside_itself at n a.seen);
  time = weaker_run stays.time (λ i now. (i, now, same_outside_itself at n i));
}

pub keeps_step : {a b : View Image} (at n : ℕ) → Steps (SameOutside at n) a b → KeepsOutside at n a b
keeps_step at n steps = record { seen = steps.seen; time = weaker_run steps.time steps.crash }

pub keeps_twice : {a b c : View Image} (at n : ℕ) → KeepsOutside at n a b → KeepsOutside at n b c → KeepsOutside at n a c
keeps_twice {a = a} {b = b} {c = c} at n first second = record {
  seen = λ honest. same_outside_twice at n a.seen b.seen c.seen (first.seen honest) (second.seen (first.time.honest.1 honest));
  time = and_then first.time second.time (λ i later.
      let earlier = each_now first.time later.0 later.1 in
      (earlier.0, earlier.1, same_outside_twice at n earlier.0 later.0 i earlier.2 later.2));
}

pub keeps_wider : {a b : View Image} (at n to m : ℕ) → to ≤ at → at + n ≤ to + m → KeepsOutside at n a b → KeepsOutside to m a b
keeps_wider {a = a} {b = b} at n to m low high keeps = record {
  seen = λ honest. wider at n to m a.seen b.seen low high (keeps.seen honest);
  time = weaker_run keeps.time (λ i old. (old.0, old.1, wider at n to m old.0 i low high old.2));
}

-- two promises of one run
pub both_runs : {a b : View Image} {P Q : Image → Type 0} → LeavesOnly a b P → LeavesOnly a b Q → LeavesOnly a b (λ i. P i × Q i)
both_runs one other = record {
  later = one.later;
  each = λ i left. (one.each i left, other.each i left);
  before = λ t i le left. ⊎_elim (λ old. inl old) (λ p. ⊎_elim (λ old. inl old) (λ q. inr (p, q)) (other.before t i le left)) (one.before t i le left);
  keeps = one.keeps;
  honest = one.honest;
}

same_byte : (at : ℕ) (c d : Image) → SameOutside at 1 d c → c at ≡ d at → (i : ℕ) → c i ≡ d i
same_byte at c d same byte i = elim (eqb_tells i at) [
  | inl is ↦ subst (λ (k : ℕ). c k ≡ d k) (sym is.1) byte
  | inr other ↦ elim (cases_lt i at) [
    | inl low ↦ same.below i low
    | inr behind ↦ same.above i (omega (arith, behind, other.1))
  ]
]

-- an image that differs at most in one byte, and has that byte too
one_byte : (at : ℕ) (c d : Image) → SameOutside at 1 d c → c at ≡ d at → c ≡ d
one_byte at c d same byte = λ k i. same_byte at c d same byte i k

closes : (at : ℕ) (c d : Image) → SameOutside at 1 d c → d at ≡ OPEN → (c ≡ d) ⊎ (c at ≢ OPEN)
closes at c d same was_open = elim (eqb_tells (c at) OPEN) [
  | inl still ↦ inl (one_byte at c d same (still.1 ∙ sym was_open))
  | inr closed ↦ inr closed.1
]

-- The gate was open, and another byte is written over it. Where a crash leaves it open, all is as it was.
pub closing_at : {a b : View Image} (at : ℕ) → Steps (SameOutside at 1) a b → EachImage a (λ c. c at ≡ OPEN)
    → LeavesOnly a b (λ c. a.now c ⊎ (c at ≢ OPEN))
closing_at {a = a} at steps was_open = weaker_run steps.time (λ c now.
    let old = steps.crash c now in
    ⊎_elim (λ same. inl (subst a.now (sym same) old.1)) (λ closed. inr closed) (closes at c old.0 old.2 (was_open old.0 old.1)))

-- what is behind a closed gate is written
pub behind_run : {a b c : View Image} (slot n : ℕ) (bytes : List ℕ) → LeavesOnly a b (λ i. a.now i ⊎ (i slot ≢ OPEN))
    → EachImage b (λ i. i slot ≢ OPEN) → Steps (SameOutside (slot + 1) n) b c → LeavesOnly a c (λ i. a.now i ⊎ IsClosedOrHolds slot bytes i)
behind_run slot n bytes run closed steps =
    and_then (weaker_run run (λ i. ⊎_elim (λ now. inl now) (λ shut. inr (inl shut)))) steps.time (λ i now.
    let old = steps.crash i now in
    inr (inl (λ is. closed old.0 old.1 (sym (old.2.below slot (omega arith)) ∙ is))))

-- the write of a gate leaves what stands behind it
pub holds_behind : (slot : ℕ) (bytes : List ℕ) (c d : Image) → SameOutside slot 1 c d → Holds c (slot + 1) bytes → Holds d (slot + 1) bytes
holds_behind slot bytes c d same holds = λ i inside. same.above (slot + 1 + i) (omega arith) ∙ holds i inside

-- the gate is opened
pub opening_run : {a b c : View Image} (slot : ℕ) (bytes : List ℕ) → LeavesOnly a b (λ i. a.now i ⊎ IsClosedOrHolds slot bytes i)
    → EachImage b (λ i. Holds i (slot + 1) bytes) → KeepsOutside slot 1 b c → LeavesOnly a c (λ i. a.now i ⊎ IsClosedOrHolds slot bytes i)
opening_run slot bytes run stands keeps =
    and_then run keeps.time (λ i old. inr (inr (holds_behind slot bytes old.0 i old.2 (stands old.0 old.1))))
