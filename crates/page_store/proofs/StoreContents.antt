-- What writes change of what a store's bytes stand for.
use Rattle.std.proofs.Common.{◌≡◌, ◌≢◌, ◌⊎◌, ℕ, zero, suc, ◌+◌, ◌*◌, ◌<◌, ◌≤◌, Bool, true, false, ◌&&◌, if◌then◌else◌, nat_lt, List, length, slice_index, Option, Some, None, refl, sym, ap, subst, inl, inr, ⊎_elim, arith, ◌∙◌}
use Rattle.std.proofs.lemmas.Bool.{cases_lt}
use Rattle.std.proofs.lemmas.Bool.Decides.{eqb_tells, nat_tests}
use Rattle.std.specs.Option.{IsSome}
use Rattle.disk_model.specs.Image.{Image, Holds, SameOutside}
use Rattle.disk_model.specs.View.{View, EachImage, IsSynced, Stays}
use Rattle.disk_model.proofs.Runs.{each_now}
use Rattle.page_store.specs.declared.pages.Sizes.{Sizes}
use Rattle.page_store.specs.declared.slots.SlotHead.{SlotHead}
use Rattle.page_store.specs.Head.{head_in, store_head}
use Rattle.page_store.specs.PageOrder.{parts, start_of}
use Rattle.page_store.specs.Store.{AreaHolds, AreaWritten, BodyReplaced, Contents, TwinChanged, contents_of, is_area_part, twin_at, twin_part, twin_span}
use Rattle.page_store.specs.Twin.{IsCommitted, IsTwinReady, KeepsOutside, SameWithin, body_at, head_at, is_current, twin_body}
use Rattle.page_store.proofs.Commits.{body_same, head_same}
use Rattle.page_store.proofs.Parts.{apart}
use Rattle.page_store.proofs.AreaLaws.{length-parts}
use Rattle.page_store.proofs.Places.{area_above, area_apart, area_below, behind_head, twin_before, twin_behind, twin_behind_head, twins_apart}
use Rattle.page_store.proofs.SlotBytes.{bytes_at-same}
use Rattle.page_store.proofs.TwinLaws.{current_told}

picks_same : {T : Type 0} (a b : Bool) (x y u v : T) → (a ≡ true → x ≡ u) → (b ≡ true → y ≡ v)
    → (if a then Some x else (if b then Some y else None)) ≡ (if a then Some u else (if b then Some v else None))
picks_same true b x y u v first second = ap Some (first refl)
picks_same false true x y u v first second = ap Some (second refl)
picks_same false false x y u v first second = refl

picks_all : {T : Type 0} (a b m n : Bool) (x y u v : T) → a ≡ m → b ≡ n → (m ≡ true → x ≡ u) → (n ≡ true → y ≡ v)
    → (if a then Some x else (if b then Some y else None)) ≡ (if m then Some u else (if n then Some v else None))
picks_all a b m n x y u v one two first second =
    ap (λ (t : Bool). if t then Some x else (if b then Some y else None)) one
    ∙ ap (λ (t : Bool). if m then Some x else (if t then Some y else None)) two
    ∙ picks_same m n x y u v first second

-- a twin whose bytes are the same stands for the same body
pub twin_kept : (span at : ℕ) (d c : Image) → 8 ≤ span → SameWithin at (2 * span) d c → twin_body span at c ≡ twin_body span at d
unfolding twin_body
twin_kept span at d c some same =
    let low : (i : ℕ) → at ≤ i → i < at + span → c i ≡ d i = λ i l h. same i (omega arith) (omega arith) in
    let high : (i : ℕ) → at + span ≤ i → i < at + span + span → c i ≡ d i = λ i l h. same i (omega arith) (omega arith) in
    let first = head_same span at d c some low in
    let second = head_same span (at + span) d c some high in
    let one = ap (λ (h : SlotHead). is_current span h (head_at c (at + span))) first ∙ ap (λ (h : SlotHead). is_current span (head_at d at) h) second in
    let two = ap (λ (h : SlotHead). is_current span h (head_at c at)) second ∙ ap (λ (h : SlotHead). is_current span (head_at d (at + span)) h) first in
    picks_all (is_current span (head_at c at) (head_at c (at + span))) (is_current span (head_at c (at + span)) (head_at c at))
    (is_current span (head_at d at) (head_at d (at + span))) (is_current span (head_at d (at + span)) (head_at d at))
    (body_at c at) (body_at c (at + span)) (body_at d at) (body_at d (at + span)) one two
    (λ is. let told = current_told span (head_at d at) (head_at d (at + span)) is in body_same span at d c told.fits low)
    (λ is. let told = current_told span (head_at d (at + span)) (head_at d at) is in body_same span (at + span) d c told.fits high)

-- bytes apart from those that were written
pub apart_same : (lo n at m : ℕ) (d c : Image) → (lo + n ≤ at) ⊎ (at + m ≤ lo) → SameOutside lo n d c → SameWithin at m d c
apart_same lo n at m d c (inl before) same = λ i low high. same.above i (omega arith)
apart_same lo n at m d c (inr behind) same = λ i low high. same.below i (omega arith)

if_same : {T : Type 0} (b : Bool) (x y z : T) → (b ≡ true → x ≡ y) → (if b then x else z) ≡ (if b then y else z)
if_same true x y z same = same refl
if_same false x y z same = refl

pub span_some : (k : ℕ) → 8 ≤ twin_span k
span_some zero = omega arith
span_some (suc k) = omega arith

body_kept : (sizes : Sizes) (d c : Image) (k : ℕ) → (k < 9 → SameWithin (twin_at sizes k) (2 * twin_span k) d c) → (contents_of sizes c).body k ≡ (contents_of sizes d).body k
unfolding contents_of
body_kept sizes d c k same =
    if_same (nat_lt k 9) (twin_body (twin_span k) (twin_at sizes k) c) (twin_body (twin_span k) (twin_at sizes k) d) None
    (λ is. twin_kept (twin_span k) (twin_at sizes k) d c (span_some k) (same (let low : k < 9 = grind (arith, nat_tests) in low)))

two_tests : (b : Bool) (i n : ℕ) → (b && nat_lt i n) ≡ true → (b ≡ true) × (i < n)
two_tests true i n is = (refl, grind (arith, nat_tests))
two_tests false i n is = cc

byte_kept : (sizes : Sizes) (d c : Image) (a i : ℕ)
    → (is_area_part a ≡ true → i < 4096 * slice_index (parts sizes) a → c (4096 * start_of (parts sizes) a + i) ≡ d (4096 * start_of (parts sizes) a + i))
    → (contents_of sizes c).area a i ≡ (contents_of sizes d).area a i
unfolding contents_of
byte_kept sizes d c a i same =
    if_same (is_area_part a && nat_lt i (4096 * slice_index (parts sizes) a)) (c (4096 * start_of (parts sizes) a + i)) (d (4096 * start_of (parts sizes) a + i)) 0
    (λ is. let both = two_tests (is_area_part a) i (4096 * slice_index (parts sizes) a) is in same both.0 both.1)

area_kept : (sizes : Sizes) (d c : Image) (a : ℕ)
    → (is_area_part a ≡ true → SameWithin (4096 * start_of (parts sizes) a) (4096 * slice_index (parts sizes) a) d c)
    → (i : ℕ) → (contents_of sizes c).area a i ≡ (contents_of sizes d).area a i
area_kept sizes d c a same i = byte_kept sizes d c a i (λ is inside. same is (4096 * start_of (parts sizes) a + i) (omega arith) (omega arith))

-- the store head is in the first page
head_kept : (sizes : Sizes) (d c : Image) → SameWithin 0 4096 d c → (contents_of sizes c).head ≡ (contents_of sizes d).head
unfolding contents_of
head_kept sizes d c same = ap head_in (bytes_at-same d c 0 31 (λ i low high. same i (omega arith) (omega arith)))

areas_in_order : (sizes : Sizes) (a b : ℕ) → is_area_part a ≡ true → is_area_part b ≡ true → b ≢ a
    → (4096 * start_of (parts sizes) a + 4096 * slice_index (parts sizes) a ≤ 4096 * start_of (parts sizes) b)
    ⊎ (4096 * start_of (parts sizes) b + 4096 * slice_index (parts sizes) b ≤ 4096 * start_of (parts sizes) a)
areas_in_order sizes a b a_is b_is other = elim (cases_lt a b) [
  | inl before ↦ inl (let law = apart (parts sizes) a b before (omega (arith, area_below a a_is, length-parts sizes)) in omega (arith, law))
  | inr not_before ↦ inr (let law = apart (parts sizes) b a (omega (arith, not_before, other)) (omega (arith, area_below b b_is, length-parts sizes)) in omega (arith, law))
]

-- an area, and a twin
area_or_twin : (sizes : Sizes) (a k : ℕ) → is_area_part a ≡ true → k < 9
    → (4096 * start_of (parts sizes) a + 4096 * slice_index (parts sizes) a ≤ twin_at sizes k) ⊎ (twin_at sizes k + 2 * twin_span k ≤ 4096 * start_of (parts sizes) a)
area_or_twin sizes a k is some = ⊎_elim (λ before. inl (twin_behind sizes k a some before)) (λ behind. inr (twin_before sizes k a some behind)) (area_apart a k is some)

-- a write within an area leaves a twin as it is
pub write_apart : (sizes : Sizes) (a at n k : ℕ) → is_area_part a ≡ true → at + n ≤ 4096 * slice_index (parts sizes) a → k < 9
    → (4096 * start_of (parts sizes) a + at + n ≤ twin_at sizes k) ⊎ (twin_at sizes k + 2 * twin_span k ≤ 4096 * start_of (parts sizes) a + at)
write_apart sizes a at n k is within some = ⊎_elim (λ before. inl (omega arith)) (λ behind. inr (omega arith)) (area_or_twin sizes a k is some)

pub area_written : (sizes : Sizes) (a at n : ℕ) → is_area_part a ≡ true → at + n ≤ 4096 * slice_index (parts sizes) a
    → (d c : Image) → SameOutside (4096 * start_of (parts sizes) a + at) n d c → AreaWritten a at n (contents_of sizes d) (contents_of sizes c)
area_written sizes a at n is within d c same = record {
  head =
      let some = area_above a is in
      let behind = behind_head sizes a (omega (arith, some)) in
      head_kept sizes d c (apart_same (4096 * start_of (parts sizes) a + at) n 0 4096 d c (inr (omega (arith, behind))) same);
  bodies = λ p k. body_kept sizes d c k (λ some. apart_same (4096 * start_of (parts sizes) a + at) n (twin_at sizes k) (2 * twin_span k) d c
      (write_apart sizes a at n k is within some) same) p;
  others = λ b other. λ p i. area_kept sizes d c b (λ b_is. apart_same (4096 * start_of (parts sizes) a + at) n (4096 * start_of (parts sizes) b) (4096 * slice_index (parts sizes) b) d c
      (⊎_elim (λ before. inl (omega arith)) (λ behind. inr (omega arith)) (areas_in_order sizes a b is b_is other)) same) i p;
  below = λ i low. byte_kept sizes d c a i (λ a_is inside. same.below (4096 * start_of (parts sizes) a + i) (omega arith));
  above = λ i high. byte_kept sizes d c a i (λ a_is inside. same.above (4096 * start_of (parts sizes) a + i) (omega arith));
}

pub twins_in_order : (sizes : Sizes) (k j : ℕ) → k < 9 → j < 9 → j ≢ k
    → (twin_at sizes k + 2 * twin_span k ≤ twin_at sizes j) ⊎ (twin_at sizes j + 2 * twin_span j ≤ twin_at sizes k)
twins_in_order sizes k j k_is j_is other = elim (cases_lt k j) [
  | inl before ↦ inl (twin_before sizes k (twin_part j) k_is (twins_apart k j before))
  | inr not_before ↦ inr (twin_before sizes j (twin_part k) j_is (twins_apart j k (omega (arith, not_before, other))))
]

pub twin_changed : (sizes : Sizes) (k : ℕ) → k < 9 → (d c : Image) → SameOutside (twin_at sizes k) (2 * twin_span k) d c
    → TwinChanged k (contents_of sizes d) (contents_of sizes c)
twin_changed sizes k some d c same = record {
  head = head_kept sizes d c (apart_same (twin_at sizes k) (2 * twin_span k) 0 4096 d c (inr (omega (arith, twin_behind_head sizes k))) same);
  areas = λ p a i. area_kept sizes d c a (λ is. apart_same (twin_at sizes k) (2 * twin_span k) (4096 * start_of (parts sizes) a) (4096 * slice_index (parts sizes) a) d c
      (⊎_elim (λ before. inr before) (λ behind. inl behind) (area_or_twin sizes a k is some)) same) i p;
  others = λ j other. body_kept sizes d c j (λ j_is. apart_same (twin_at sizes k) (2 * twin_span k) (twin_at sizes j) (2 * twin_span j) d c
      (twins_in_order sizes k j some j_is other) same);
}

pub body_is : (sizes : Sizes) (c : Image) (k : ℕ) → k < 9 → (contents_of sizes c).body k ≡ twin_body (twin_span k) (twin_at sizes k) c
unfolding contents_of
body_is sizes c k some = let is : nat_lt k 9 ≡ true = grind (arith, nat_tests) in rw is refl

pub head_is : (sizes : Sizes) (c : Image) → (contents_of sizes c).head ≡ store_head c
unfolding contents_of
head_is sizes c = refl

pub body_replaced : (sizes : Sizes) (k : ℕ) (body : List ℕ) → k < 9 → (d c : Image) → SameOutside (twin_at sizes k) (2 * twin_span k) d c
    → twin_body (twin_span k) (twin_at sizes k) c ≡ Some body → BodyReplaced k body (contents_of sizes d) (contents_of sizes c)
body_replaced sizes k body some d c same is =
    let changed = twin_changed sizes k some d c same in
    record { head = changed.head; areas = changed.areas; others = changed.others; replaced = body_is sizes c k some ∙ is }

contents_same : (m n : Contents) → m.head ≡ n.head → m.area ≡ n.area → m.body ≡ n.body → m ≡ n
contents_same m n head areas bodies = λ p. record { head = head p; body = bodies p; area = areas p }

all_bodies : (sizes : Sizes) (k : ℕ) → k < 9 → (d c : Image) → TwinChanged k (contents_of sizes d) (contents_of sizes c)
    → twin_body (twin_span k) (twin_at sizes k) c ≡ twin_body (twin_span k) (twin_at sizes k) d → (j : ℕ) → (contents_of sizes c).body j ≡ (contents_of sizes d).body j
all_bodies sizes k some d c changed is j = elim (eqb_tells j k) [
  | inl same ↦ subst (λ (n : ℕ). (contents_of sizes c).body n ≡ (contents_of sizes d).body n) (sym same.1) (body_is sizes c k some ∙ is ∙ sym (body_is sizes d k some))
  | inr other ↦ changed.others j other.1
]

pub nothing_changed : (sizes : Sizes) (k : ℕ) → k < 9 → (d c : Image) → SameOutside (twin_at sizes k) (2 * twin_span k) d c
    → twin_body (twin_span k) (twin_at sizes k) c ≡ twin_body (twin_span k) (twin_at sizes k) d → contents_of sizes c ≡ contents_of sizes d
nothing_changed sizes k some d c same is =
    let changed = twin_changed sizes k some d c same in
    contents_same (contents_of sizes c) (contents_of sizes d) changed.head changed.areas (λ p j. all_bodies sizes k some d c changed is j p)

-- twins stay ready
pub ready_stays : {a b : View Image} (span at : ℕ) → Stays a b → IsTwinReady span at a → IsTwinReady span at b
ready_stays span at stays ready = record {
  settled = λ c now i low high. ready.settled c (stays.crash c now) i low high ∙ sym (ap (λ (s : Image). s i) stays.seen);
  whole = λ c now. ready.whole c (stays.crash c now);
}

pub ready_apart : {a b : View Image} (lo n span at : ℕ) → 8 ≤ span → (lo + n ≤ at) ⊎ (at + 2 * span ≤ lo) → KeepsOutside lo n a b → IsTwinReady span at a → IsTwinReady span at b
ready_apart {a = a} {b = b} lo n span at some apart keeps ready = record {
  settled = λ c now i low high.
      let old = each_now keeps.time c now in
      let honest = a.honest_if_left old.0 old.1 in
      apart_same lo n at (2 * span) old.0 c apart old.2 i low high ∙ ready.settled old.0 old.1 i low high
      ∙ sym (apart_same lo n at (2 * span) a.seen b.seen apart (keeps.seen honest) i low high);
  whole = λ c now.
      let old = each_now keeps.time c now in
      subst (λ (o : Option (List ℕ)). IsSome o) (sym (twin_kept span at old.0 c some (apart_same lo n at (2 * span) old.0 c apart old.2))) (ready.whole old.0 old.1);
}

pub ready_committed : (a b : View Image) (span at : ℕ) (body : List ℕ) → IsSynced b → EachImage b (IsCommitted span at body a) → IsTwinReady span at b
ready_committed a b span at body synced committed = record {
  settled = λ c now i low high. ap (λ (s : Image). s i) (synced c now);
  whole = λ c now. let done = committed c now in subst (λ (o : Option (List ℕ)). IsSome o) (sym done.3) refl;
}

if_true : {T : Type 0} (b : Bool) (x z : T) → b ≡ true → (if b then x else z) ≡ x
if_true true x z is = refl
if_true false x z is = cc

both_true : (b : Bool) (i n : ℕ) → b ≡ true → i < n → (b && nat_lt i n) ≡ true
both_true true i n is low = grind (arith, nat_tests)
both_true false i n is low = cc

-- bytes that stand on the disk, as bytes of an area
pub area_holds : (sizes : Sizes) (a at from : ℕ) (bytes : List ℕ) (c : Image) → is_area_part a ≡ true → at + length bytes ≤ 4096 * slice_index (parts sizes) a
    → from ≡ 4096 * start_of (parts sizes) a + at → Holds c from bytes → AreaHolds a at bytes (contents_of sizes c)
unfolding contents_of
area_holds sizes a at from bytes c is within start holds = λ i inside.
    let low : at + i < 4096 * slice_index (parts sizes) a = omega arith in
    let place : 4096 * start_of (parts sizes) a + (at + i) ≡ from + i = omega arith in
    if_true (is_area_part a && nat_lt (at + i) (4096 * slice_index (parts sizes) a)) (c (4096 * start_of (parts sizes) a + (at + i))) 0 (both_true (is_area_part a) (at + i) (4096 * slice_index (parts sizes) a) is low)
    ∙ ap c place ∙ holds i inside
