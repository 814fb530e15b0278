-- Twins: a body that stands in one of two slots. A slot has `span` bytes, its head in the first 8 of them.
use Rattle.std.specs.Prelude.{◌≡◌, ◌≢◌, ◌⊎◌, ℕ, zero, suc, ◌+◌, ◌*◌, ◌<◌, ◌≤◌, ◌==◌, Bool, ◌&&◌, ◌||◌, not, nat_lt, nat_le, if◌then◌else◌, List, [], ◌∷◌, Option, Some, None}
use Rattle.std.specs.Option.{IsSome}
use Rattle.qsr_layout.specs.Fields.{field_value}
use Rattle.qsr_layout.specs.declared.fields.Field.{Field}
use Rattle.disk_model.specs.Image.{Image, Holds, SameOutside}
use Rattle.disk_model.specs.View.{View, After, EachImage, LeavesOnly}
use Rattle.page_store.specs.declared.slots.SlotHead.{SlotHead}
use Rattle.page_store.specs.declared.slots.Heads.{Heads}
use Rattle.page_store.specs.declared.slots.Stale.{Stale}
use Rattle.page_store.specs.declared.slots.Found.{Found}
use Rattle.page_store.specs.declared.records.TheConstants.{OPEN}

-- n bytes of an image from this offset on
unfoldable pub bytes_at : Image → ℕ → ℕ → List ℕ
bytes_at c at zero = []
bytes_at c at (suc n) = c at ∷ bytes_at c (at + 1) n

-- the number in a field of a page
abbrev pub number_in : Field → List ℕ → ℕ
number_in field page = field_value (field ∷ []) 0 page

-- the number in four bytes at this offset
unfoldable pub number_at : Image → ℕ → ℕ
number_at c at = number_in (record { at = 0; bytes = 4 }) (bytes_at c at 4)

-- the head of the slot at this offset
abbrev pub head_at : Image → ℕ → SlotHead
head_at c slot = record { gate = c slot; sequence = c (slot + 1); len = number_at c (slot + 2) }

-- the bytes behind the head of the slot at this offset, as many as it says
abbrev pub body_at : Image → ℕ → List ℕ
body_at c slot = bytes_at c (slot + 8) (number_at c (slot + 2))

-- the sequence behind another: 0, 1, 2, and then 0 again
abbrev pub next_sequence : ℕ → ℕ
next_sequence n = if nat_lt n 2 then n + 1 else 0

abbrev pub is_open : SlotHead → Bool
is_open h = h.gate == OPEN

-- its sequence is one of the three, and its body has room behind the head
abbrev pub is_whole : ℕ → SlotHead → Bool
is_whole span h = nat_lt h.sequence 3 && nat_le (h.len + 8) span

-- Of two slots the first is current: it is open and whole, and the other is closed, or whole and the one before it.
abbrev pub is_current : ℕ → SlotHead → SlotHead → Bool
is_current span h other =
    is_open h && is_whole span h && (not (is_open other) || (is_whole span other && h.sequence == next_sequence other.sequence))

-- where the body of the current slot stands, and how many bytes it has
abbrev pub found_of : ℕ → ℕ → Heads → Option Found
found_of span at heads =
    if is_current span heads.first heads.second then Some (record { at = at + 8; len = heads.first.len })
    else (if is_current span heads.second heads.first then Some (record { at = at + span + 8; len = heads.second.len }) else None)

-- The slot that isn't current, the byte of its gate, and the sequence behind that of the other.
abbrev pub stale_of : ℕ → ℕ → Heads → Stale
stale_of span at heads =
    if is_current span heads.first heads.second
    then record { slot = at + span; gate = heads.second.gate; sequence = next_sequence heads.first.sequence }
    else record { slot = at; gate = heads.first.gate; sequence = next_sequence heads.second.sequence }

-- the heads of the two slots of a twin
pub record AreHeads (span at : ℕ) (c : Image) (heads : Heads) : Type 0 where
  pub first : head_at c at ≡ heads.first
  pub second : head_at c (at + span) ≡ heads.second

-- the body that a twin stands for, whose two slots begin at `at`
unfoldable pub twin_body : ℕ → ℕ → Image → Option (List ℕ)
twin_body span at c =
    if is_current span (head_at c at) (head_at c (at + span)) then Some (body_at c at)
    else (if is_current span (head_at c (at + span)) (head_at c at) then Some (body_at c (at + span)) else None)

-- the same within n bytes at this offset
abbrev pub SameWithin : ℕ → ℕ → Image → Image → Type 0
SameWithin at n old new = (i : ℕ) → at ≤ i → i < at + n → new i ≡ old i

-- The twin is synced, and stands for a body. Which slot is stale is read, so it isn't enough that each image stands for
-- the same body.
pub record IsTwinReady (span at : ℕ) (v : View Image) : Type 0 where
  pub settled : EachImage v (SameWithin at (2 * span) v.seen)
  pub whole : EachImage v (λ c. IsSome (twin_body span at c))

-- A run that changes n bytes at this offset at most, whether it is cut off or not.
pub record KeepsOutside (at n : ℕ) (old new : View Image) : Type 0 where
  pub seen : old.honest → SameOutside at n old.seen new.seen
  pub time : LeavesOnly old new (After (SameOutside at n) old)

-- The slot's gate isn't open, or this body stands behind it.
abbrev pub IsClosedOrHolds : ℕ → List ℕ → Image → Type 0
IsClosedOrHolds slot bytes c = (c slot ≢ OPEN) ⊎ Holds c (slot + 1) bytes

-- An image that could be left before, but that the twin may stand for this body.
abbrev pub IsOldOrNew : ℕ → ℕ → List ℕ → View Image → Image → Type 0
IsOldOrNew span at body before c =
    (d : Image) × before.now d × SameOutside at (2 * span) d c
    × ((twin_body span at c ≡ twin_body span at d) ⊎ (twin_body span at c ≡ Some body))

-- An image that could be left before, but that the twin stands for this body.
abbrev pub IsCommitted : ℕ → ℕ → List ℕ → View Image → Image → Type 0
IsCommitted span at body before c =
    (d : Image) × before.now d × SameOutside at (2 * span) d c × (twin_body span at c ≡ Some body)
