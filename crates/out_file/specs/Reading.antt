-- How an output file is read: a page at a time, and from it a row at a time.
use Rattle.std.specs.Prelude.{◌≡◌, ℕ, ◌+◌, ◌*◌, ◌<◌, ⊤, Bool, true, false, List, [], ◌∷◌, length}
use Rattle.disk_model.specs.View.{Stays}
use Rattle.disk_model.specs.declared.disk.Disk.{Ghosts}
use Rattle.page_store.specs.PageOrder.{job_part}
use Rattle.page_store.specs.Store.{AreaHolds, Contents, IsReady, store_view}
use Rattle.page_store.specs.Twin.{bytes_at}
use Rattle.page_store.specs.declared.store.Store.{Store}
use Rattle.qsr_value.specs.Encoding.{encoded_row}
use Rattle.qsr_value.specs.Values.{AreTexts, Fits}
use Rattle.qsr_value.specs.declared.row.Value.{Value}
use Rattle.qsr_value.specs.declared.schema.Column.{Column}
use Rattle.row_page.specs.Framed.{framed}
use Rattle.out_file.specs.Listing.{Appended, IsBadFront, IsNoRow, Kept}
use Rattle.out_file.specs.declared.fault.OutFault.{OutFault}
use Rattle.out_file.specs.declared.fault.OutFault.TheVariants.{OutFull, BadRow, Failed, Memory}
use Rattle.out_file.specs.declared.window.Window.{Window}

-- Of a store only pages were read.
pub record OnlyRead {D : Type 0} {g : Ghosts D} (old new : Store D g) : Type 0 where
  pub stays : Stays (store_view old) (store_view new)
  pub ready : IsReady old → IsReady new
  pub sizes : new.sizes ≡ old.sizes
  pub same : new.disk.ghost_name ≡ old.disk.ghost_name
  pub writes : g.writes_of new.disk.now ≡ g.writes_of old.disk.now
  pub syncs : g.syncs_of new.disk.now ≡ g.syncs_of old.disk.now

-- the bytes of the output area of a job
abbrev pub out_area : ℕ → Contents → ℕ → ℕ
out_area job m = m.area (job_part job 4)

-- a window has the page before `next`
abbrev pub HasPage : Window → Contents → Type 0
HasPage window m = (page : ℕ) → window.next ≡ page + 1 → AreaHolds (job_part window.job 4) (4096 * page) window.bytes m

-- these bytes stand in an area from a place on, behind their length, and end where the next begin
pub record StandsTo (area : ℕ → ℕ) (at next : ℕ) (bytes : List ℕ) : Type 0 where
  pub short : length bytes < 65536
  pub ends : next ≡ at + (2 + length bytes)
  pub read : bytes_at area at (2 + length bytes) ≡ framed bytes

-- a row of the schema, and of the rows that fit the one with its bytes
pub record IsOnly (schema : List Column) (row : List Value) : Type 0 where
  pub fits : Fits schema row
  pub texts : AreTexts row
  pub only : (other : List Value) → Fits schema other → AreTexts other → encoded_row schema row ≡ encoded_row schema other → row ≡ other

-- the row that stands from a place to the next was given to a sink
pub record HasGiven (schema : List Column) (honest : Type 0) (area : ℕ → ℕ) (at next : ℕ) (old new : (List (List Value) → Type 0)) : Type 0 where
  pub row : List Value
  pub is : IsOnly schema row
  pub pushed : Appended (row ∷ []) old new
  pub stands : honest → StandsTo area at next (encoded_row schema row)

-- some bytes that stand from a place to the next were passed over
pub record HasPassed (honest : Type 0) (area : ℕ → ℕ) (at next : ℕ) (old new : (List (List Value) → Type 0)) : Type 0 where
  pub bytes : List ℕ
  pub pushed : Kept old new
  pub stands : honest → StandsTo area at next bytes

-- the one or the other, as it was wanted
abbrev pub HasStepped : List Column → Bool → Type 0 → (ℕ → ℕ) → ℕ → ℕ → (List (List Value) → Type 0) → (List (List Value) → Type 0) → Type 0
HasStepped schema true honest area at next old new = HasGiven schema honest area at next old new
HasStepped schema false honest area at next old new = HasPassed honest area at next old new

-- Of a fault of a step at a place: where it tells a place it is this one, and the bytes from there on have a bad row at
-- their front.
abbrev pub IsStepFault : List Column → Type 0 → Type 0 → ℕ → List ℕ → OutFault → Type 0
IsStepFault schema looked_at honest at rest (OutFull free) = ⊥
IsStepFault schema looked_at honest at rest (BadRow place) = (place ≡ at) × (honest → IsBadFront schema rest looked_at)
IsStepFault schema looked_at honest at rest Failed = ⊤
IsStepFault schema looked_at honest at rest Memory = ⊤

-- Of a fault of a read of the row of these bytes, which stand at a place.
abbrev pub IsOutReadFault : List Column → Type 0 → ℕ → List ℕ → OutFault → Type 0
IsOutReadFault schema honest at bytes (OutFull free) = ⊥
IsOutReadFault schema honest at bytes (BadRow place) = (place ≡ at) × (honest → IsNoRow schema bytes)
IsOutReadFault schema honest at bytes Failed = ⊤
IsOutReadFault schema honest at bytes Memory = ⊤

-- the row of these bytes
pub record IsRowOf (schema : List Column) (honest : Type 0) (bytes : List ℕ) (row : List Value) : Type 0 where
  pub is : IsOnly schema row
  pub read : honest → bytes ≡ encoded_row schema row
