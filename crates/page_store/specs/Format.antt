-- The bytes of a store that was just made.
use Rattle.std.specs.Prelude.{◌≡◌, ◌≢◌, ◌⊎◌, ℕ, ◌+◌, ◌*◌, ◌<◌, ◌≤◌, List, [], ◌∷◌, ◌++◌, length, replicate, codes}
use Rattle.std.specs.Int.{bytes_low_first}
use Rattle.disk_model.specs.Image.{Image, Holds}
use Rattle.disk_model.specs.View.{View}
use Rattle.qsr_value.specs.Causes.{RoseByOne, count_after}
use Rattle.page_store.specs.PageOrder.{start_of, parts, job_part}
use Rattle.page_store.specs.declared.pages.Sizes.{Sizes}
use Rattle.page_store.specs.declared.fault.StoreFault.{StoreFault}
use Rattle.page_store.specs.declared.fault.StoreFault.TheVariants.{TooSmall, NotStore, Failed}
use Rattle.page_store.specs.declared.records.TheConstants.{OPEN, CLOSED}

-- the lowest n bytes of a number, the lowest of them first
abbrev pub little : ℕ → ℕ → List ℕ
little n value = bytes_low_first 0 n value

-- The store head behind its gate: the text, the version, and the pages of each area of a kind.
unfoldable pub head_rest : Sizes → List ℕ
head_rest sizes =
    codes "QSRSTOR1" ++ little 2 1
    ++ little 4 sizes.table ++ little 4 sizes.index
    ++ little 4 sizes.out ++ little 4 sizes.image ++ little 4 sizes.spill

-- the store head
unfoldable pub head_bytes : ℕ → Sizes → List ℕ
head_bytes gate sizes = gate ∷ head_rest sizes

-- What stands behind the gate of a slot: the sequence, how many bytes the body has, two zeros, and the body's front.
unfoldable pub behind_gate : ℕ → ℕ → List ℕ → List ℕ
behind_gate sequence len front = sequence ∷ (little 4 len ++ 0 ∷ 0 ∷ front)

-- a slot up to the end of a front of its body
unfoldable pub slot_front : ℕ → ℕ → ℕ → List ℕ → List ℕ
slot_front gate sequence len front = gate ∷ behind_gate sequence len front

-- a slot of a twin
abbrev pub slot_bytes : ℕ → ℕ → List ℕ → List ℕ
slot_bytes gate sequence body = slot_front gate sequence (length body) body

-- A twin with its slots at these pages: the first is open, at sequence 0, with this body; the second is closed.
pub record IsNewTwin (c : Image) (first second : ℕ) (body : List ℕ) : Type 0 where
  pub slot : Holds c (4096 * first) (slot_bytes OPEN 0 body)
  pub closed : c (4096 * second) ≡ CLOSED

-- no tables and no indexes · the head of a job that is free
abbrev pub empty_catalogue : List ℕ
empty_catalogue = 0 ∷ 0 ∷ []

abbrev pub free_head : List ℕ
free_head = replicate 22 0

-- the twin of a job
abbrev pub IsNewJob : Sizes → Image → ℕ → Type 0
IsNewJob sizes c job = IsNewTwin c (start_of (parts sizes) (job_part job 0)) (start_of (parts sizes) (job_part job 1)) free_head

-- an empty store of these sizes
pub record IsNew (sizes : Sizes) (c : Image) : Type 0 where
  pub head : Holds c 0 (head_bytes OPEN sizes)
  pub catalogue : IsNewTwin c 1 3 empty_catalogue
  pub jobs : (job : ℕ) → job < 8 → IsNewJob sizes c job

-- all of it but the gate of its head
pub record IsWritten (sizes : Sizes) (c : Image) : Type 0 where
  pub head : Holds c 1 (head_rest sizes)
  pub catalogue : IsNewTwin c 1 3 empty_catalogue
  pub jobs : (job : ℕ) → job < 8 → IsNewJob sizes c job

-- no store: the gate of its head isn't open
abbrev pub IsNoStore : Image → Type 0
IsNoStore c = c 0 ≢ OPEN

-- what stood there before, no store, or an empty one of these sizes
abbrev pub IsOldNoneOrNew : View Image → Sizes → Image → Type 0
IsOldNoneOrNew before sizes c = before.now c ⊎ (IsNoStore c ⊎ IsNew sizes c)

-- the first n bytes are the same
pub record SameBelow (n : ℕ) (old new : Image) : Type 0 where
  pub each : (i : ℕ) → i < n → new i ≡ old i

-- The writes of a call that writes so many times, and once more where the gate of a store is open before it.
abbrev pub WritesByGate : ℕ → View Image → ℕ → ℕ → Type 0
WritesByGate calls before old new =
    ((new ≡ count_after calls old) × (before.honest → before.seen 0 ≢ OPEN))
    ⊎ ((new ≡ count_after (calls + 1) old) × (before.honest → before.seen 0 ≡ OPEN))

-- Of a fault of `format`, at a disk that needs so many bytes and has so many: it is told that the disk is too small
-- where it is, and else only that the disk failed.
abbrev pub IsFormatFault : ℕ → ℕ → StoreFault → Type 0
IsFormatFault needed size (TooSmall need have) = (need ≡ needed) × (have ≡ size) × (size < needed)
IsFormatFault needed size (NotStore page) = ⊥
IsFormatFault needed size Failed = needed ≤ size

-- the count of the disk's faults rose by one where it is told that the disk failed, and else stood
abbrev pub CausedBy : StoreFault → ℕ → ℕ → Type 0
CausedBy (TooSmall need have) old new = new ≡ old
CausedBy (NotStore page) old new = new ≡ old
CausedBy Failed old new = RoseByOne old new
