-- A slot of a twin is replaced: what body the twin stands for.
use Rattle.std.proofs.Common.{◌≡◌, ◌≢◌, ◌⊎◌, ℕ, ◌+◌, ◌*◌, ◌<◌, ◌≤◌, Bool, true, false, if◌then◌else◌, List, length, Some, refl, sym, ap, subst, inl, inr, ⊎_elim, arith, ◌∙◌}
use Rattle.std.proofs.lemmas.Bool.Decides.{eqb_tells, nat_tests}
use Rattle.std.specs.Option.{IsSome}
use Rattle.disk_model.specs.Image.{Image, Holds, SameOutside}
use Rattle.disk_model.specs.View.{View, EachImage, LeavesOnly, Stays}
use Rattle.disk_model.proofs.Runs.{and_then, each_now, weaker_run}
use Rattle.page_store.specs.declared.slots.Heads.{Heads}
use Rattle.page_store.specs.declared.slots.SlotHead.{SlotHead}
use Rattle.page_store.specs.declared.slots.Stale.{Stale}
use Rattle.page_store.specs.declared.records.TheConstants.{OPEN}
use Rattle.page_store.specs.Format.{behind_gate}
use Rattle.page_store.specs.Twin.{AreHeads, IsClosedOrHolds, IsCommitted, IsOldOrNew, IsTwinReady, KeepsOutside, body_at, bytes_at, head_at, is_current, next_sequence, number_at, stale_of, twin_body}
use Rattle.page_store.proofs.SlotBytes.{body_held, bytes_at-same, length_held, number_at-same, sequence_held}
use Rattle.page_store.proofs.TwinLaws.{Current, IsPair, current_told, second_current, twin_of_slot}
use Rattle.page_store.proofs.TwinRuns.{both_runs, same_outside_itself, wider}

-- A slot is stale: the other one is current in this image.
pub record Replaces (span at : ℕ) (s : Stale) (other : ℕ) (d : Image) : Type 0 where
  pub pair : IsPair span at s.slot other
  pub gate : d s.slot ≡ s.gate
  pub current : Current span (head_at d other) (head_at d s.slot)
  pub sequence : s.sequence ≡ next_sequence (d (other + 1))

tests_same : (span at : ℕ) (heads : Heads) (d : Image) → AreHeads span at d heads
    → is_current span (head_at d at) (head_at d (at + span)) ≡ is_current span heads.first heads.second
tests_same span at heads d are =
    ap (λ (h : SlotHead). is_current span h (head_at d (at + span))) are.first ∙ ap (λ (h : SlotHead). is_current span heads.first h) are.second

stale_by : (span at : ℕ) (heads : Heads) (d : Image) (b : Bool) → is_current span heads.first heads.second ≡ b → AreHeads span at d heads → IsSome (twin_body span at d)
    → (other : ℕ) × Replaces span at
    (if b then record { slot = at + span; gate = heads.second.gate; sequence = next_sequence heads.first.sequence }
    else record { slot = at; gate = heads.first.gate; sequence = next_sequence heads.second.sequence }) other d
stale_by span at heads d true is are some = (
  at,
  record {
    pair = inr (refl, refl);
    gate = ap (λ (h : SlotHead). h.gate) are.second;
    current = current_told span (head_at d at) (head_at d (at + span)) (tests_same span at heads d are ∙ is);
    sequence = ap (λ (h : SlotHead). next_sequence h.sequence) (sym are.first);
  },
)
stale_by span at heads d false is are some = (
  at + span,
  record {
    pair = inl (refl, refl);
    gate = ap (λ (h : SlotHead). h.gate) are.first;
    current = second_current span at d some (tests_same span at heads d are ∙ is);
    sequence = ap (λ (h : SlotHead). next_sequence h.sequence) (sym are.second);
  },
)

pub stale_known : (span at : ℕ) (heads : Heads) (d : Image) → AreHeads span at d heads → IsSome (twin_body span at d)
    → (other : ℕ) × Replaces span at (stale_of span at heads) other d
stale_known span at heads d are some = stale_by span at heads d (is_current span heads.first heads.second) refl are some

-- the other slot of a twin
turned : (span at slot other : ℕ) → IsPair span at slot other → IsPair span at other slot
turned span at slot other (inl pair) = inr (pair.1, pair.0)
turned span at slot other (inr pair) = inl (pair.1, pair.0)

other_same : (span at slot other : ℕ) (d c : Image) → IsPair span at slot other → SameOutside slot span d c → (i : ℕ) → other ≤ i → i < other + span → c i ≡ d i
other_same span at slot other d c (inl pair) same i low high = let one = pair.0 in let two = pair.1 in same.above i (omega arith)
other_same span at slot other d c (inr pair) same i low high = let one = pair.0 in let two = pair.1 in same.below i (omega arith)

pub head_same : (span slot : ℕ) (d c : Image) → 8 ≤ span → ((i : ℕ) → slot ≤ i → i < slot + span → c i ≡ d i) → head_at c slot ≡ head_at d slot
head_same span slot d c some same =
    let gate = same slot (omega arith) (omega arith) in
    let sequence = same (slot + 1) (omega arith) (omega arith) in
    let len = number_at-same d c (slot + 2) (λ i low high. same i (omega arith) (omega arith)) in
    rw (gate, sequence, len) refl

pub body_same : (span slot : ℕ) (d c : Image) → number_at d (slot + 2) + 8 ≤ span → ((i : ℕ) → slot ≤ i → i < slot + span → c i ≡ d i) → body_at c slot ≡ body_at d slot
body_same span slot d c fits same =
    let len = number_at-same d c (slot + 2) (λ i low high. same i (omega arith) (omega arith)) in
    ap (bytes_at c (slot + 8)) len ∙ bytes_at-same d c (slot + 8) (number_at d (slot + 2)) (λ i low high. same i (omega arith) (omega arith))

-- While the stale slot is closed the twin stands for what it did.
closed_twin : (span at : ℕ) (s : Stale) (other : ℕ) (d c : Image) → 8 ≤ span → Replaces span at s other d → SameOutside s.slot span d c → c s.slot ≢ OPEN
    → twin_body span at c ≡ twin_body span at d
closed_twin span at s other d c some stale same closed =
    let within = other_same span at s.slot other d c stale.pair same in
    let pair = turned span at s.slot other stale.pair in
    let head = head_same span other d c some within in
    let now : Current span (head_at c other) (head_at c s.slot) = record {
      is = ap (λ (h : SlotHead). h.gate) head ∙ stale.current.is;
      sequence = subst (λ (h : SlotHead). h.sequence < 3) (sym head) stale.current.sequence;
      fits = subst (λ (h : SlotHead). h.len + 8 ≤ span) (sym head) stale.current.fits;
      before = inl closed;
    } in
    twin_of_slot span at other s.slot c pair now
    ∙ ap Some (body_same span other d c stale.current.fits within)
    ∙ sym (twin_of_slot span at other s.slot d pair stale.current)

next_low : (n : ℕ) → next_sequence n < 3
next_low n = grind (arith, nat_tests)

-- Once it is open it stands for the body behind its gate.
pub opened_twin : (span at : ℕ) (s : Stale) (other : ℕ) (d c : Image) (body : List ℕ) → 8 ≤ span → span ≤ 8192 → length body + 8 ≤ span
    → Replaces span at s other d → SameOutside s.slot span d c → c s.slot ≡ OPEN → Holds c (s.slot + 1) (behind_gate s.sequence (length body) body)
    → twin_body span at c ≡ Some body
opened_twin span at s other d c body some most long stale same is holds =
    let within = other_same span at s.slot other d c stale.pair same in
    let head = head_same span other d c some within in
    let sequence : c (s.slot + 1) ≡ s.sequence = sequence_held c s.slot s.sequence (length body) body holds in
    let len : number_at c (s.slot + 2) ≡ length body = length_held c s.slot s.sequence (length body) body (omega arith) holds in
    let low : (head_at c other).sequence < 3 = subst (λ (h : SlotHead). h.sequence < 3) (sym head) stale.current.sequence in
    let small : (head_at c other).len + 8 ≤ span = subst (λ (h : SlotHead). h.len + 8 ≤ span) (sym head) stale.current.fits in
    let next : c (s.slot + 1) ≡ next_sequence (c (other + 1)) = sequence ∙ stale.sequence ∙ ap (λ (h : SlotHead). next_sequence h.sequence) (sym head) in
    let now : Current span (head_at c s.slot) (head_at c other) = record {
      is = is;
      sequence = subst (λ (n : ℕ). n < 3) (sym next) (next_low (c (other + 1)));
      fits = omega (arith, len, long);
      before = inr (low, small, next);
    } in
    twin_of_slot span at s.slot other c stale.pair now ∙ ap Some (ap (bytes_at c (s.slot + 8)) len ∙ body_held c s.slot s.sequence (length body) body holds)

replaced_twin : (span at : ℕ) (s : Stale) (other : ℕ) (d c : Image) (body : List ℕ) → 8 ≤ span → span ≤ 8192 → length body + 8 ≤ span
    → Replaces span at s other d → SameOutside s.slot span d c → IsClosedOrHolds s.slot (behind_gate s.sequence (length body) body) c
    → (twin_body span at c ≡ twin_body span at d) ⊎ (twin_body span at c ≡ Some body)
replaced_twin span at s other d c body some most long stale same (inl closed) = inl (closed_twin span at s other d c some stale same closed)
replaced_twin span at s other d c body some most long stale same (inr holds) = elim (eqb_tells (c s.slot) OPEN) [
  | inl is ↦ inr (opened_twin span at s other d c body some most long stale same is.1 holds)
  | inr closed ↦ inl (closed_twin span at s other d c some stale same closed.1)
]

-- each image has the heads that were read
heads_each : {a : View Image} (span at : ℕ) (heads : Heads) → 8 ≤ span → IsTwinReady span at a → (a.honest → AreHeads span at a.seen heads)
    → (d : Image) → a.now d → AreHeads span at d heads
heads_each {a = a} span at heads some ready reads d now =
    let are = reads (a.honest_if_left d now) in
    let same = ready.settled d now in
    record {
      first = head_same span at a.seen d some (λ i low high. same i (omega arith) (omega arith)) ∙ are.first;
      second = head_same span (at + span) a.seen d some (λ i low high. same i (omega arith) (omega arith)) ∙ are.second;
    }

-- the slot that was picked is stale in each image
pub stale_each : {a : View Image} (span at : ℕ) (heads : Heads) (s : Stale) → 8 ≤ span → IsTwinReady span at a → (a.honest → AreHeads span at a.seen heads)
    → s ≡ stale_of span at heads → (d : Image) → a.now d → (other : ℕ) × Replaces span at s other d
stale_each span at heads s some ready reads is d now =
    subst (λ (t : Stale). (other : ℕ) × Replaces span at t other d) (sym is) (stale_known span at heads d (heads_each span at heads some ready reads d now) (ready.whole d now))

slot_low : (span at slot other : ℕ) → IsPair span at slot other → at ≤ slot
slot_low span at slot other (inl pair) = let is = pair.0 in omega arith
slot_low span at slot other (inr pair) = let is = pair.0 in omega arith

slot_high : (span at slot other : ℕ) → IsPair span at slot other → slot ≤ at + span
slot_high span at slot other (inl pair) = let is = pair.0 in omega arith
slot_high span at slot other (inr pair) = let is = pair.0 in omega arith

pub within_twin : (span at : ℕ) (s : Stale) (other n : ℕ) (d c : Image) → n ≤ span → IsPair span at s.slot other → SameOutside s.slot n d c → SameOutside at (2 * span) d c
within_twin span at s other n d c fits pair same =
    let low = slot_low span at s.slot other pair in
    let high = slot_high span at s.slot other pair in
    wider s.slot n at (2 * span) d c low (omega arith) same

-- the whole run of a commit
pub commit_run : {a b c : View Image} (span at : ℕ) (heads : Heads) (s : Stale) (body : List ℕ) → 8 ≤ span → span ≤ 8192 → length body + 8 ≤ span
    → IsTwinReady span at a → Stays a b → (a.honest → AreHeads span at a.seen heads) → s ≡ stale_of span at heads
    → (EachImage b (λ i. i s.slot ≡ s.gate) → LeavesOnly b c (λ i. b.now i ⊎ IsClosedOrHolds s.slot (behind_gate s.sequence (length body) body) i))
    → KeepsOutside s.slot (8 + length body) b c → LeavesOnly a c (IsOldOrNew span at body a)
commit_run {a = a} span at heads s body some most long ready stays reads is replaces keeps =
    let n = 8 + length body in
    and_then (weaker_run stays.time (λ i now. (i, now, same_outside_itself at (2 * span) i, inl refl)))
    (both_runs (replaces (λ i now. let stale = stale_each span at heads s some ready reads is i (stays.crash i now) in stale.1.gate)) keeps.time)
    (λ i both.
    let d = both.1.0 in
    let was = stays.crash d both.1.1 in
    let stale = stale_each span at heads s some ready reads is d was in
    ⊎_elim (λ now. (i, stays.crash i now, same_outside_itself at (2 * span) i, inl refl))
    (λ slot. (
      d,
      was,
      within_twin span at s stale.0 n d i (omega arith) stale.1.pair both.1.2,
      replaced_twin span at s stale.0 d i body some most long stale.1 (wider s.slot n s.slot span d i (omega arith) (omega arith) both.1.2) slot,
    ))
    both.0)

-- once it has answered
pub commit_done : {a b c : View Image} (span at : ℕ) (heads : Heads) (s : Stale) (body : List ℕ) → 8 ≤ span → span ≤ 8192 → length body + 8 ≤ span
    → IsTwinReady span at a → Stays a b → (a.honest → AreHeads span at a.seen heads) → s ≡ stale_of span at heads
    → EachImage c (λ i. i s.slot ≡ OPEN) → EachImage c (λ i. Holds i (s.slot + 1) (behind_gate s.sequence (length body) body))
    → KeepsOutside s.slot (8 + length body) b c → EachImage c (IsCommitted span at body a)
commit_done {a = a} span at heads s body some most long ready stays reads is opened holds keeps i now =
    let n = 8 + length body in
    let from = each_now keeps.time i now in
    let was = stays.crash from.0 from.1 in
    let stale = stale_each span at heads s some ready reads is from.0 was in (
      from.0,
      was,
      within_twin span at s stale.0 n from.0 i (omega arith) stale.1.pair from.2,
      opened_twin span at s stale.0 from.0 i body some most long stale.1 (wider s.slot n s.slot span from.0 i (omega arith) (omega arith) from.2) (opened i now) (holds i now),
    )
