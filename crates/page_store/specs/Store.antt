-- A store as the layers above see it: what its head tells, the body of each twin, and the bytes of each area.
use Rattle.std.specs.Prelude.{◌≡◌, ◌≢◌, ◌⊎◌, ℕ, zero, suc, ◌+◌, ◌-◌, ◌*◌, ◌%◌, ◌<◌, ◌≤◌, ◌==◌, Bool, ◌&&◌, ◌||◌, nat_lt, nat_le, if◌then◌else◌, List, length, slice_index, Option, Some, None, ⊤}
use Rattle.qsr_value.specs.Causes.{count_after}
use Rattle.disk_model.specs.Image.{Image}
use Rattle.disk_model.specs.View.{View}
use Rattle.disk_model.specs.declared.disk.Disk.{Ghosts}
use Rattle.disk_model.specs.Lifted.{lifted}
use Rattle.page_store.specs.Head.{store_head}
use Rattle.page_store.specs.PageOrder.{job_part, parts, start_of}
use Rattle.page_store.specs.Twin.{IsTwinReady, twin_body}
use Rattle.page_store.specs.declared.pages.Sizes.{Sizes}
use Rattle.page_store.specs.declared.pages.Twin.{Twin}
use Rattle.page_store.specs.declared.pages.Twin.TheVariants.{Catalogue, Job}
use Rattle.page_store.specs.declared.fault.StoreFault.{StoreFault}
use Rattle.page_store.specs.declared.fault.StoreFault.TheVariants.{TooSmall, NotStore, Failed}
use Rattle.page_store.specs.declared.store.Store.{Store}

-- The number of a twin: the catalogue is 0, job j is 1 + j.
abbrev pub twin_number : Twin → ℕ
twin_number Catalogue = 0
twin_number (Job job) = 1 + job

-- there is such a twin
abbrev pub IsTwin : Twin → Type 0
IsTwin Catalogue = ⊤
IsTwin (Job job) = job < 8

-- how many bytes its body has at most
abbrev pub body_most : Twin → ℕ
body_most Catalogue = 8184
body_most (Job job) = 4088

-- the part that is the first slot of a twin, and how many bytes each slot has
abbrev pub twin_part : ℕ → ℕ
twin_part zero = 1
twin_part (suc job) = job_part job 0

abbrev pub twin_span : ℕ → ℕ
twin_span zero = 8192
twin_span (suc job) = 4096

-- the first page of a twin · where it begins
abbrev pub twin_page : Sizes → ℕ → ℕ
twin_page sizes k = start_of (parts sizes) (twin_part k)

abbrev pub twin_at : Sizes → ℕ → ℕ
twin_at sizes k = 4096 * twin_page sizes k

-- A part is an area: it is neither the store head nor a slot of a twin.
abbrev pub is_area_part : ℕ → Bool
is_area_part a = nat_le 3 a && nat_lt a 99 && (nat_lt a 35 || nat_le 2 ((a - 35) % 8))

-- The sizes that its head tells, none where it has no head; the bodies of the twins by their numbers, none where a twin is
-- damaged; and the bytes of the areas by the numbers of their parts and their offsets, 0 past an area's end.
pub record Contents : Type 0 where
  pub head : Option Sizes
  pub body : ℕ → Option (List ℕ)
  pub area : ℕ → ℕ → ℕ

unfoldable pub contents_of : Sizes → Image → Contents
contents_of sizes c = record {
  head = store_head c;
  body = λ k. if nat_lt k 9 then twin_body (twin_span k) (twin_at sizes k) c else None;
  area = λ a i. if is_area_part a && nat_lt i (4096 * slice_index (parts sizes) a) then c (4096 * start_of (parts sizes) a + i) else 0;
}

-- n bytes of an area at this offset are written
pub record AreaWritten (a at n : ℕ) (old new : Contents) : Type 0 where
  pub head : new.head ≡ old.head
  pub bodies : new.body ≡ old.body
  pub others : (b : ℕ) → b ≢ a → new.area b ≡ old.area b
  pub below : (i : ℕ) → i < at → new.area a i ≡ old.area a i
  pub above : (i : ℕ) → at + n ≤ i → new.area a i ≡ old.area a i

-- All but the body of a twin is as it was.
pub record TwinChanged (k : ℕ) (old new : Contents) : Type 0 where
  pub head : new.head ≡ old.head
  pub areas : new.area ≡ old.area
  pub others : (j : ℕ) → j ≢ k → new.body j ≡ old.body j

-- A twin has this body, and all else is as it was.
pub record BodyReplaced (k : ℕ) (body : List ℕ) (old new : Contents) : Type 0 where
  pub head : new.head ≡ old.head
  pub areas : new.area ≡ old.area
  pub others : (j : ℕ) → j ≢ k → new.body j ≡ old.body j
  pub replaced : new.body k ≡ Some body

-- these bytes stand in an area at this offset
abbrev pub AreaHolds : ℕ → ℕ → List ℕ → Contents → Type 0
AreaHolds a at bytes m = (i : ℕ) → i < length bytes → m.area a (at + i) ≡ slice_index bytes i

-- Of a fault of a read of the body of a twin that begins at this page: it tells the page, and none is there, where the
-- disk is honest; or the disk failed.
abbrev pub IsNoBody : ℕ → Type 0 → Option (List ℕ) → StoreFault → Type 0
IsNoBody first honest body (TooSmall need have) = ⊥
IsNoBody first honest body (NotStore page) = (page ≡ first) × (honest → body ≡ None)
IsNoBody first honest body Failed = ⊤

-- The reads of a body that isn't there: of the heads of the two slots.
abbrev pub ReadsNoBody : StoreFault → ℕ → ℕ → Type 0
ReadsNoBody (TooSmall need have) old new = ⊥
ReadsNoBody (NotStore page) old new = new ≡ count_after 2 old
ReadsNoBody Failed old new = ⊤

-- what could be left before, or is that after a step
abbrev pub BeforeOrAfter : {I : Type 0} → (I → I → Type 0) → View I → I → Type 0
BeforeOrAfter {I} step before c = (d : I) × before.now d × ((c ≡ d) ⊎ step d c)

-- what is known of what the bytes of a store of these sizes stand for
unfoldable pub contents_view : Sizes → View Image → View Contents
contents_view sizes v = lifted (contents_of sizes) v

abbrev pub store_view : {D : Type 0} {g : Ghosts D} → Store D g → View Contents
store_view {g = g} s = contents_view s.sizes (g.view s.disk.now)

-- each twin is synced and stands for a body
abbrev pub IsReady : {D : Type 0} {g : Ghosts D} → Store D g → Type 0
IsReady {g = g} s = (k : ℕ) → k < 9 → IsTwinReady (twin_span k) (twin_at s.sizes k) (g.view s.disk.now)

-- how many pages a body takes, behind the head of its slot
abbrev pub slot_pages : ℕ → ℕ
slot_pages len = if nat_le len 4088 then 1 else 2

-- The device writes of a commit of so many bytes: its pages and the gate that is opened, and one more where a gate is closed.
abbrev pub HasCommitWrites : ℕ → ℕ → ℕ → Type 0
HasCommitWrites len old new = (new ≡ count_after (slot_pages len + 1) old) ⊎ (new ≡ count_after (slot_pages len + 2) old)

-- the reads of a body, a page at most each
abbrev pub body_reads : ℕ → ℕ
body_reads n = if n == 0 then 0 else (if nat_le n 4096 then 1 else 2)
