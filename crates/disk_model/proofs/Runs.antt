-- How runs over a disk go on from one to the next.
use Rattle.std.proofs.Common.{◌≡◌, ℕ, zero, suc, ◌+◌, ◌-◌, ◌^◌, ◌<◌, ◌≤◌, inl, inr, arith, ap, ⊎_elim, sym, ◌∙◌, subst}
use Rattle.std.proofs.Math.Nat.{min-eq_left, min-eq_right}
use Rattle.std.proofs.lemmas.Bool.{cases_lt}
use Rattle.qsr_value.specs.Causes.{CountsAtMost, count_after, next_count}
use Rattle.disk_model.specs.View.{View, LeavesOnly, EachImage, Stays, Steps, IsSynced}

-- nothing was done
pub no_call : {I : Type 0} (v : View I) {P : I → Type 0} → EachImage v P → LeavesOnly v v P
no_call v each = record {
  later = omega arith;
  each = λ c left. each c (v.only_now c left);
  before = λ t c le left. inl left;
  keeps = λ t c le left. left;
  honest = (λ h. h, λ h. h);
}

-- one run, and then another
pub and_then : {I : Type 0} {a b c : View I} {P Q : I → Type 0} → LeavesOnly a b P → LeavesOnly b c Q → ((i : I) → Q i → P i) → LeavesOnly a c P
and_then {a = a} first second weaker = record {
  later = omega (arith, first.later, second.later);
  each = λ i left. ⊎_elim (first.each i) (weaker i) (second.before a.clock i first.later left);
  before = λ t i le left. ⊎_elim (first.before t i le) (λ q. inr (weaker i q)) (second.before t i (omega (arith, le, first.later)) left);
  keeps = λ t i le left. second.keeps t i (omega (arith, le, first.later)) (first.keeps t i le left);
  honest = (λ h. first.honest.0 (second.honest.0 h), λ h. second.honest.1 (first.honest.1 h));
}

pub weaker_run : {I : Type 0} {a b : View I} {P Q : I → Type 0} → LeavesOnly a b P → ((i : I) → P i → Q i) → LeavesOnly a b Q
weaker_run run weaker = record {
  later = run.later;
  each = λ i left. weaker i (run.each i left);
  before = λ t i le left. ⊎_elim (λ old. inl old) (λ p. inr (weaker i p)) (run.before t i le left);
  keeps = run.keeps;
  honest = run.honest;
}

-- what each image since a moment has, each image now has
pub each_now : {I : Type 0} {a b : View I} {P : I → Type 0} → LeavesOnly a b P → EachImage b P
each_now {a = a} {b = b} run c now = run.each c (b.counts_now a.clock c run.later now)

-- a step keeps what each image has
pub then_step : {I : Type 0} {a b c : View I} {P : I → Type 0} {step : I → I → Type 0}
    → LeavesOnly a b P → Steps step b c → ((d e : I) → P d → step d e → P e) → LeavesOnly a c P
then_step run step keeps = and_then run step.time (λ i now. let old = step.crash i now in keeps old.0 i (each_now run old.0 old.1) old.2)

pub then_stays : {I : Type 0} {a b c : View I} {P : I → Type 0} → LeavesOnly a b P → Stays b c → LeavesOnly a c P
then_stays run stays = and_then run stays.time (λ i now. each_now run i now)

pub stays_twice : {I : Type 0} {a b c : View I} → Stays a b → Stays b c → Stays a c
stays_twice first second = record {
  seen = second.seen ∙ first.seen;
  crash = λ i now. first.crash i (second.crash i now);
  time = and_then first.time second.time (λ i now. first.crash i now);
}

-- after a sync each image has what reads give has
pub synced_each : {I : Type 0} {a b : View I} (P : I → Type 0) → Stays a b → IsSynced b → (a.honest → P a.seen) → EachImage b P
synced_each {a = a} {b = b} P stays synced has c now =
    subst P (sym (synced c now ∙ stays.seen)) (has (stays.time.honest.0 (b.honest_if_left c now)))

-- one step, and then another
pub steps_twice : {I : Type 0} {a b c : View I} {step : I → I → Type 0} → ((i j k : I) → step i j → step j k → step i k)
    → Steps step a b → Steps step b c → Steps step a c
steps_twice {a = a} {b = b} {c = c} joined first second = record {
  seen = λ honest. joined a.seen b.seen c.seen (first.seen honest) (second.seen (first.time.honest.1 honest));
  crash = λ i now.
      let later = second.crash i now in
      let earlier = first.crash later.0 later.1 in
      (earlier.0, earlier.1, joined earlier.0 later.0 i earlier.2 later.2);
  time = and_then
      (weaker_run first.time (λ i now. second.time.each i (second.time.keeps b.clock i (omega arith) (b.counts_now b.clock i (omega arith) now))))
      second.time (λ i now. now);
}

pub weaker_steps : {I : Type 0} {a b : View I} {step wider : I → I → Type 0} → ((i j : I) → step i j → wider i j) → Steps step a b → Steps wider a b
weaker_steps {a = a} {b = b} weaker steps = record {
  seen = λ honest. weaker a.seen b.seen (steps.seen honest);
  crash = λ i now. let old = steps.crash i now in (old.0, old.1, weaker old.0 i old.2);
  time = steps.time;
}

-- nothing was done
pub no_step : {I : Type 0} (v : View I) {step : I → I → Type 0} → ((i : I) → step i i) → Steps step v v
no_step v same = record {
  seen = λ honest. same v.seen;
  crash = λ i now. (i, now, same i);
  time = no_call v (λ i now. now);
}

-- more calls after some
pub count_after-more : (more calls count : ℕ) → count_after (more + calls) count ≡ count_after more (count_after calls count)
count_after-more zero calls count = let none : 0 + calls ≡ calls = omega arith in ap (λ (n : ℕ). count_after n count) none
count_after-more (suc more) calls count =
    let one : suc more + calls ≡ suc (more + calls) = omega arith in
    ap (λ (n : ℕ). count_after n count) one ∙ ap next_count (count_after-more more calls count)

-- calls, and then more calls
pub most_twice : {first second old mid new : ℕ} (most : ℕ) → first + second ≤ most → CountsAtMost first old mid → CountsAtMost second mid new → CountsAtMost most old new
most_twice {old = old} most within one other = record {
  calls = other.calls + one.calls;
  few = omega (arith, within, one.few, other.few);
  exact = other.exact ∙ ap (count_after other.calls) one.exact ∙ sym (count_after-more other.calls one.calls old);
}

-- no call · one
pub most_none : {old new : ℕ} → new ≡ old → CountsAtMost 0 old new
most_none same = record { calls = 0; few = omega arith; exact = same }

pub most_one : {old new : ℕ} → new ≡ next_count old → CountsAtMost 1 old new
most_one one = record { calls = 1; few = omega arith; exact = one }

-- within u64 a count doesn't fall
count_grows : (count : ℕ) → count < 2 ^ 64 → (count ≤ next_count count) × (next_count count < 2 ^ 64)
count_grows count fits = elim (cases_lt count (2 ^ 64 - 1)) [
  | inl low ↦ let one : next_count count ≡ count + 1 = min-eq_left (omega arith) in (omega (arith, one), omega (arith, one, low))
  | inr last ↦ let one : next_count count ≡ 2 ^ 64 - 1 = min-eq_right (omega (arith, last)) in (omega (arith, one, fits), omega (arith, one))
]

behind_grows : (calls count : ℕ) → count < 2 ^ 64 → (count ≤ count_after calls count) × (count_after calls count < 2 ^ 64)
behind_grows zero count fits = (omega arith, fits)
behind_grows (suc calls) count fits =
    let so_far = behind_grows calls count fits in
    let one = count_grows (count_after calls count) so_far.1 in
    (omega (arith, so_far.0, one.0), one.1)

-- where the count was within u64 it is at most what all those calls make of it
pub most_counted : {most old new : ℕ} → old < 2 ^ 64 → CountsAtMost most old new → new ≤ count_after most old
most_counted {most = most} {old = old} fits counts =
    let behind = behind_grows counts.calls old fits in
    let more = behind_grows (most - counts.calls) (count_after counts.calls old) behind.1 in
    let all : count_after most old ≡ count_after (most - counts.calls) (count_after counts.calls old) =
    ap (λ (n : ℕ). count_after n old) (omega (arith, counts.few)) ∙ count_after-more (most - counts.calls) counts.calls old in
    omega (arith, counts.exact, more.0, all)
