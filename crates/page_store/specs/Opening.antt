-- Which images are stores.
use Rattle.std.specs.Prelude.{◌≡◌, ◌⊎◌, ℕ, ◌+◌, ◌*◌, ◌<◌, ◌≤◌, sum, Some, None, MatchOption, ⊤}
use Rattle.std.specs.Option.{IsSome}
use Rattle.qsr_value.specs.Causes.{count_after, next_count}
use Rattle.disk_model.specs.Image.{Image}
use Rattle.disk_model.specs.View.{View}
use Rattle.page_store.specs.declared.fault.StoreFault.{StoreFault}
use Rattle.page_store.specs.declared.fault.StoreFault.TheVariants.{TooSmall, NotStore, Failed}
use Rattle.page_store.specs.Format.{empty_catalogue, free_head}
use Rattle.page_store.specs.Head.{store_head}
use Rattle.page_store.specs.PageOrder.{parts}
use Rattle.page_store.specs.Store.{Contents, contents_of, twin_page}
use Rattle.page_store.specs.declared.pages.Sizes.{Sizes}

-- the twins before this one stand for bodies
abbrev pub AreWhole : ℕ → Contents → Type 0
AreWhole n m = (k : ℕ) → k < n → IsSome (m.body k)

-- A store of these sizes on a disk of so many bytes: its head tells them, there is room for its layout, and each twin
-- stands for a body.
pub record IsStore (size : ℕ) (sizes : Sizes) (m : Contents) : Type 0 where
  pub head : m.head ≡ Some sizes
  pub fits : 4096 * sum (parts sizes) ≤ size
  pub twins : AreWhole 9 m

-- An empty store: no tables and no indexes, and each job is free.
pub record IsEmptyStore (size : ℕ) (sizes : Sizes) (m : Contents) : Type 0 where
  pub store : IsStore size sizes m
  pub catalogue : m.body 0 ≡ Some empty_catalogue
  pub jobs : (job : ℕ) → job < 8 → m.body (1 + job) ≡ Some free_head

-- No store, by its head or its layout · by its first twin that has no current slot, which begins at this page.
abbrev pub HasNoHead : ℕ → Image → Type 0
HasNoHead size c = MatchOption (store_head c) ⊤ (λ sizes. size < 4096 * sum (parts sizes))

pub record IsDamagedTwin (sizes : Sizes) (page : ℕ) (m : Contents) : Type 0 where
  pub twin : ℕ
  pub some : twin < 9
  pub before : AreWhole twin m
  pub none : m.body twin ≡ None
  pub first : page ≡ twin_page sizes twin

pub record IsDamaged (size page : ℕ) (c : Image) : Type 0 where
  pub sizes : Sizes
  pub head : store_head c ≡ Some sizes
  pub fits : 4096 * sum (parts sizes) ≤ size
  pub damaged : IsDamagedTwin sizes page (contents_of sizes c)

abbrev pub IsNotStore : ℕ → ℕ → Image → Type 0
IsNotStore size page c = ((page ≡ 0) × HasNoHead size c) ⊎ IsDamaged size page c

-- the bytes of a disk of so many are no store, of whatever sizes
abbrev pub IsNone : ℕ → Image → Type 0
IsNone size c = (sizes : Sizes) → IsStore size sizes (contents_of sizes c) → ⊥

-- Of a fault of `open`, over a disk of so many bytes: it names the page where no store stands, or the disk failed.
abbrev pub IsOpeningFault : ℕ → View Image → StoreFault → Type 0
IsOpeningFault size v (TooSmall need have) = ⊥
IsOpeningFault size v (NotStore page) = v.honest → IsNotStore size page v.seen × IsNone size v.seen
IsOpeningFault size v Failed = ⊤

-- The reads of a store that isn't there: of its head, or none where the disk has no room for one; then of the heads of two
-- slots for each twin, up to the first that has no current slot.
pub record ReadsTwins (page old new : ℕ) : Type 0 where
  pub sizes : Sizes
  pub twin : ℕ
  pub some : twin < 9
  pub first : page ≡ twin_page sizes twin
  pub reads : new ≡ count_after (2 * (twin + 1)) old

abbrev pub ReadsNoStore : StoreFault → ℕ → ℕ → Type 0
ReadsNoStore (TooSmall need have) old new = ⊥
ReadsNoStore (NotStore page) old new = ((page ≡ 0) × ((new ≡ old) ⊎ (new ≡ next_count old))) ⊎ ReadsTwins page (next_count old) new
ReadsNoStore Failed old new = ⊤
