-- A commit, told of the bodies that the twins stand for.
use Rattle.std.proofs.Common.{◌≡◌, ℕ, ◌+◌, ◌*◌, ◌<◌, true, false, ◌/◌, List, sum, Option, Some, None, MatchOption, is_some, refl, sym, ap, subst, inl, inr, ⊎_elim, arith, ◌∙◌}
use Rattle.std.proofs.lemmas.Bool.Decides.{eqb_tells, nat_tests}
use Rattle.std.specs.Bool.{⊤}
use Rattle.std.specs.Option.{IsSome}
use Rattle.page_store.specs.Opening.{AreWhole, HasNoHead, IsDamaged, IsDamagedTwin, IsNone, IsStore}
use Rattle.disk_model.specs.Image.{Image}
use Rattle.disk_model.specs.View.{View, After, EachImage, IsSynced, LeavesOnly}
use Rattle.page_store.specs.declared.pages.Sizes.{Sizes}
use Rattle.page_store.specs.declared.pages.Area.{Area}
use Rattle.page_store.specs.declared.pages.Area.TheVariants.{Table, Index, Text, Plan, Out, Image as ImageArea, Spill}
use Rattle.page_store.specs.declared.pages.Twin.{Twin}
use Rattle.page_store.specs.declared.pages.Twin.TheVariants.{Catalogue, Job}
use Rattle.page_store.specs.PageOrder.{IsArea, part_of, parts}
use Rattle.disk_model.specs.Lifted.{lifted}
use Rattle.page_store.specs.Store.{BeforeOrAfter, BodyReplaced, IsTwin, TwinChanged, contents_of, contents_view, is_area_part, twin_at, twin_number, twin_span}
use Rattle.page_store.specs.Twin.{IsCommitted, IsOldOrNew, IsTwinReady, KeepsOutside, twin_body}
use Rattle.disk_model.proofs.LiftedRuns.{lifted_each, lifted_leaves}
use Rattle.page_store.proofs.StoreContents.{body_is, body_replaced, head_is, nothing_changed, ready_apart, ready_committed, span_some, twin_changed, twins_in_order}

pub number_small : (t : Twin) → IsTwin t → twin_number t < 9
number_small Catalogue is = omega arith
number_small (Job job) is = omega arith

pub is_area : (area : Area) → IsArea area → is_area_part (part_of area) ≡ true
is_area (Table table) is = grind (arith, nat_tests)
is_area (Index index) is = grind (arith, nat_tests)
is_area (Text job) is = grind (arith, nat_tests)
is_area (Plan job) is = grind (arith, nat_tests)
is_area (Out job) is = grind (arith, nat_tests)
is_area (ImageArea job side) is = let job_is = is.0 in let first = is.1 in let second = is.2 in grind (arith, nat_tests)
is_area (Spill job) is = grind (arith, nat_tests)

-- a fact of a place that was worked out
at_place : (P : ℕ → ℕ → Type 0) (span at wide start : ℕ) → span ≡ wide → at ≡ start → P span at → P wide start
at_place P span at wide start one two fact = subst (λ (n : ℕ). P wide n) two (subst (λ (n : ℕ). P n at) one fact)

module _ (a b : View Image) (sizes : Sizes) (k : ℕ) (body : List ℕ) (span at : ℕ) (some : k < 9) (span_is : span ≡ twin_span k) (at_is : at ≡ twin_at sizes k) where
  pub commit_any : IsTwinReady (twin_span k) (twin_at sizes k) a
      → (IsTwinReady span at a → LeavesOnly a b (IsOldOrNew span at body a))
      → LeavesOnly (contents_view sizes a) (contents_view sizes b) (BeforeOrAfter (BodyReplaced k body) (contents_view sizes a))
  unfolding contents_view
  commit_any ready run =
      let here = at_place (λ (s t : ℕ). IsTwinReady s t a → LeavesOnly a b (IsOldOrNew s t body a)) span at (twin_span k) (twin_at sizes k) span_is at_is run in
      lifted_leaves (contents_of sizes) (BeforeOrAfter (BodyReplaced k body) (lifted (contents_of sizes) a)) (here ready) (λ c old. (
        contents_of sizes old.0,
        (old.0, old.1, refl),
        ⊎_elim (λ same. inl (nothing_changed sizes k some old.0 c old.2 same)) (λ new. inr (body_replaced sizes k body some old.0 c old.2 new)) old.3,
      ))

  pub commit_last : IsTwinReady (twin_span k) (twin_at sizes k) a
      → (IsTwinReady span at a → EachImage b (IsCommitted span at body a))
      → EachImage (contents_view sizes b) (After (BodyReplaced k body) (contents_view sizes a))
  unfolding contents_view
  commit_last ready run =
      let here = at_place (λ (s t : ℕ). IsTwinReady s t a → EachImage b (IsCommitted s t body a)) span at (twin_span k) (twin_at sizes k) span_is at_is run in
      lifted_each (contents_of sizes) b (IsCommitted (twin_span k) (twin_at sizes k) body a) (After (BodyReplaced k body) (lifted (contents_of sizes) a)) (here ready) (λ c old.
      (contents_of sizes old.0, (old.0, old.1, refl), body_replaced sizes k body some old.0 c old.2 old.3))

  keeps_here : KeepsOutside at (2 * span) a b → KeepsOutside (twin_at sizes k) (2 * twin_span k) a b
  keeps_here keeps = at_place (λ (s t : ℕ). KeepsOutside t (2 * s) a b) span at (twin_span k) (twin_at sizes k) span_is at_is keeps

  pub commit_within : KeepsOutside at (2 * span) a b
      → LeavesOnly (contents_view sizes a) (contents_view sizes b) (After (TwinChanged k) (contents_view sizes a))
  unfolding contents_view
  commit_within keeps =
      lifted_leaves (contents_of sizes) (After (TwinChanged k) (lifted (contents_of sizes) a)) (keeps_here keeps).time (λ c old.
      (contents_of sizes old.0, (old.0, old.1, refl), twin_changed sizes k some old.0 c old.2))

  pub commit_seen : KeepsOutside at (2 * span) a b → (contents_view sizes a).honest → TwinChanged k (contents_view sizes a).seen (contents_view sizes b).seen
  unfolding contents_view
  commit_seen keeps honest = twin_changed sizes k some a.seen b.seen ((keeps_here keeps).seen honest)

  pub commit_ready : ((j : ℕ) → j < 9 → IsTwinReady (twin_span j) (twin_at sizes j) a) → KeepsOutside at (2 * span) a b → IsSynced b
      → (IsTwinReady span at a → EachImage b (IsCommitted span at body a)) → (j : ℕ) → j < 9 → IsTwinReady (twin_span j) (twin_at sizes j) b
  commit_ready ready keeps synced run j j_some =
      let here = at_place (λ (s t : ℕ). IsTwinReady s t a → EachImage b (IsCommitted s t body a)) span at (twin_span k) (twin_at sizes k) span_is at_is run in
      elim (eqb_tells j k) [
        | inl same ↦ subst (λ (n : ℕ). IsTwinReady (twin_span n) (twin_at sizes n) b) (sym same.1) (ready_committed a b (twin_span k) (twin_at sizes k) body synced (here (ready k some)))
        | inr other ↦ ready_apart (twin_at sizes k) (2 * twin_span k) (twin_span j) (twin_at sizes j) (span_some j) (twins_in_order sizes k j some j_some other.1) (keeps_here keeps) (ready j j_some)
      ]

-- the body that was read
pub current_body : (sizes : Sizes) (k span at : ℕ) (c : Image) (o : Option (List ℕ)) → k < 9 → span ≡ twin_span k → at ≡ twin_at sizes k
    → o ≡ twin_body span at c → (contents_of sizes c).body k ≡ o
current_body sizes k span at c o some span_is at_is is =
    body_is sizes c k some ∙ sym (is ∙ ap (λ (s : ℕ). twin_body s at c) span_is ∙ ap (λ (t : ℕ). twin_body (twin_span k) t c) at_is)

body_here : (sizes : Sizes) (k span at : ℕ) (c : Image) → k < 9 → span ≡ twin_span k → at ≡ twin_at sizes k → (contents_of sizes c).body k ≡ twin_body span at c
body_here sizes k span at c some span_is at_is = current_body sizes k span at c (twin_body span at c) some span_is at_is refl

is_none : {A : Type 0} (o : Option A) → false ≡ is_some o → o ≡ None
is_none None is = refl
is_none (Some x) is = cc

some_same : {A : Type 0} (x y : A) → Some x ≡ Some y → x ≡ y
some_same x y same = cc

not_none : {A : Type 0} (o : Option A) → o ≡ None → IsSome o → ⊥
not_none None is some = cc
not_none (Some x) is some = cc

-- a twin with no current slot, behind some that have one
pub damaged_here : (sizes : Sizes) (k span at page : ℕ) (c : Image) → k < 9 → span ≡ twin_span k → at ≡ twin_at sizes k → page ≡ at / 4096
    → AreWhole k (contents_of sizes c) → false ≡ is_some (twin_body span at c) → IsDamagedTwin sizes page (contents_of sizes c)
damaged_here sizes k span at page c some span_is at_is page_is whole none = record {
  twin = k;
  some = some;
  before = whole;
  none = body_here sizes k span at c some span_is at_is ∙ is_none (twin_body span at c) none;
  first = omega (arith, page_is, at_is);
}

-- where no head stands, or one twin has no current slot, there is no store of whatever sizes
pub none_by_head : (size : ℕ) (c : Image) → HasNoHead size c → IsNone size c
none_by_head size c none = λ sizes store.
    let small = subst (λ (o : Option Sizes). MatchOption o ⊤ (λ s. size < 4096 * sum (parts s))) (sym (head_is sizes c) ∙ store.head) none in
    let fits = store.fits in
    absurd (omega arith)

pub none_by_twin : (size page : ℕ) (c : Image) → IsDamaged size page c → IsNone size c
none_by_twin size page c damaged = λ sizes store.
    let same : damaged.sizes ≡ sizes = some_same damaged.sizes sizes (sym damaged.head ∙ sym (head_is sizes c) ∙ store.head) in
    let none = subst (λ (s : Sizes). (contents_of s c).body damaged.damaged.twin ≡ None) same damaged.damaged.none in
    not_none ((contents_of sizes c).body damaged.damaged.twin) none (store.twins damaged.damaged.twin damaged.damaged.some)

-- one twin more that has a current slot
pub whole_more : (sizes : Sizes) (n span at : ℕ) (c : Image) → n < 9 → span ≡ twin_span n → at ≡ twin_at sizes n
    → AreWhole n (contents_of sizes c) → true ≡ is_some (twin_body span at c) → AreWhole (n + 1) (contents_of sizes c)
whole_more sizes n span at c some span_is at_is whole here k below = elim (eqb_tells k n) [
  | inl same ↦ subst (λ (j : ℕ). IsSome ((contents_of sizes c).body j)) (sym same.1)
      (subst (λ (o : Option (List ℕ)). IsSome o) (sym (body_here sizes n span at c some span_is at_is)) (sym here))
  | inr other ↦ whole k (omega (arith, below, other.1))
]

-- what is opened is ready
pub opened_ready : (v : View Image) (size : ℕ) (sizes : Sizes) → IsSynced v → (v.honest → IsStore size sizes (contents_of sizes v.seen))
    → (k : ℕ) → k < 9 → IsTwinReady (twin_span k) (twin_at sizes k) v
opened_ready v size sizes synced store k some = record {
  settled = λ c now i low high. ap (λ (s : Image). s i) (synced c now);
  whole = λ c now.
      let is = store (v.honest_if_left c now) in
      subst (λ (s : Image). IsSome (twin_body (twin_span k) (twin_at sizes k) s)) (sym (synced c now))
      (subst (λ (o : Option (List ℕ)). IsSome o) (body_is sizes v.seen k some) (is.twins k some));
}

-- the sizes of the store that is read are those that the head of each image told
pub sizes_told : (v : View Image) (size : ℕ) (s t : Sizes) → EachImage (contents_view s v) (λ m. m.head ≡ Some s)
    → (v.honest → IsStore size t (contents_of t v.seen)) → v.honest → t ≡ s
unfolding contents_view
sizes_told v size s t told store honest =
    let old = told (contents_of s v.seen) (v.seen, v.seen_may_stay honest, λ _. contents_of s v.seen) in
    let new = store honest in
    some_same t s (sym new.head ∙ head_is t v.seen ∙ sym (head_is s v.seen) ∙ old)
