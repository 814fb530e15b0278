-- The heads of the jobs in a store.
use Rattle.std.specs.Prelude.{◌≡◌, ℕ, ◌+◌, Some, ⊤}
use Rattle.page_store.specs.Store.{BodyReplaced, Contents, twin_page}
use Rattle.page_store.specs.declared.fault.StoreFault.{StoreFault}
use Rattle.page_store.specs.declared.fault.StoreFault.TheVariants.{TooSmall, NotStore, Failed}
use Rattle.page_store.specs.declared.pages.Sizes.{Sizes}
use Rattle.job_store.specs.declared.head.JobHead.{JobHead}
use Rattle.job_store.specs.JobHead.{IsHead, job_head_bytes}

-- a job has this head
abbrev pub HasHead : ℕ → JobHead → Contents → Type 0
HasHead job head m = m.body (1 + job) ≡ Some (job_head_bytes head)

-- A job has this head, and all else is as it was.
abbrev pub HeadReplaced : ℕ → JobHead → Contents → Contents → Type 0
HeadReplaced job head old new = BodyReplaced (1 + job) (job_head_bytes head) old new

-- a job has no head of the form
abbrev pub HasNoJobHead : Sizes → ℕ → Contents → Type 0
HasNoJobHead sizes job m = (head : JobHead) → IsHead sizes head → HasHead job head m → ⊥

-- Of a fault of `head_of`: it tells the first page of the job's twin, and the job has no head of the form there, where
-- the disk is honest; or the disk failed.
abbrev pub IsHeadFault : Sizes → ℕ → Type 0 → Contents → StoreFault → Type 0
IsHeadFault sizes job honest m (TooSmall need have) = ⊥
IsHeadFault sizes job honest m (NotStore page) = (page ≡ twin_page sizes (1 + job)) × (honest → HasNoJobHead sizes job m)
IsHeadFault sizes job honest m Failed = ⊤
