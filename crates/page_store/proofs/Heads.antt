-- The head of a store, read from an image.
use Rattle.std.proofs.Common.{◌≡◌, ℕ, ◌*◌, ◌<◌, List, length, slice_index, sum, ◌==◌, ◌&&◌, if◌then◌else◌, subst, Option, Some, None, MatchOption, sym, ◌∙◌, arith}
use Rattle.std.specs.Bool.{⊤}
use Rattle.disk_model.specs.Image.{Image, Holds}
use Rattle.qsr_layout.proofs.Numbers.{little_from-same}
use Rattle.qsr_layout.specs.StoreHead.{store_head_field}
use Rattle.qsr_layout.specs.declared.records.StoreHeadField.TheVariants.{Gate, Text, Version}
use Rattle.page_store.specs.PageOrder.{parts}
use Rattle.page_store.specs.declared.pages.Sizes.{Sizes}
use Rattle.page_store.specs.declared.records.TheConstants.{OPEN, STORE_TEXT, VERSION}
use Rattle.page_store.specs.Head.{are_sizes, head_in, sizes_in, store_head}
use Rattle.page_store.specs.Opening.{HasNoHead}
use Rattle.page_store.specs.Twin.{bytes_at, number_in}
use Rattle.page_store.proofs.PageLaws.{sum-parts}
use Rattle.page_store.proofs.SlotBytes.{bytes_at-get}

-- the head is in the first 31 bytes
pub head_same : (page other : List ℕ) → ((k : ℕ) → k < 31 → slice_index page k ≡ slice_index other k) → head_in page ≡ head_in other
unfolding head_in
head_same page other same =
    let gate : number_in (store_head_field Gate) page ≡ number_in (store_head_field Gate) other = little_from-same 0 1 page other (λ k low high. same k (omega arith)) in
    let text : number_in (store_head_field Text) page ≡ number_in (store_head_field Text) other = little_from-same 1 8 page other (λ k low high. same k (omega arith)) in
    let version : number_in (store_head_field Version) page ≡ number_in (store_head_field Version) other = little_from-same 9 2 page other (λ k low high. same k (omega arith)) in
    let sizes : sizes_in page ≡ sizes_in other =
    λ i. record {
      table = little_from-same 11 4 page other (λ k low high. same k (omega arith)) i;
      index = little_from-same 15 4 page other (λ k low high. same k (omega arith)) i;
      out = little_from-same 19 4 page other (λ k low high. same k (omega arith)) i;
      image = little_from-same 23 4 page other (λ k low high. same k (omega arith)) i;
      spill = little_from-same 27 4 page other (λ k low high. same k (omega arith)) i;
    } in
    λ i. if ((gate i == OPEN) && (text i == STORE_TEXT) && (version i == VERSION)) && are_sizes (sizes i) then Some (sizes i) else None

pub head_of_image : (c : Image) (page bytes : List ℕ) → length bytes ≡ 31 → Holds c 0 bytes → ((k : ℕ) → k < 31 → slice_index page k ≡ slice_index bytes k)
    → head_in page ≡ store_head c
head_of_image c page bytes long holds same =
    head_same page (bytes_at c 0 31) (λ k inside. same k inside ∙ sym (holds k (omega arith)) ∙ sym (bytes_at-get c 0 31 k inside))

pub no_head : (size : ℕ) (c : Image) (o : Option Sizes) → o ≡ store_head c → MatchOption o ⊤ (λ sizes. size < 4096 * sum (parts sizes)) → HasNoHead size c
no_head size c o is none = subst (λ (p : Option Sizes). MatchOption p ⊤ (λ sizes. size < 4096 * sum (parts sizes))) is none

pub small_disk : (size : ℕ) (o : Option Sizes) → size < 31 → MatchOption o ⊤ (λ sizes. size < 4096 * sum (parts sizes))
small_disk size None small = tt
small_disk size (Some sizes) small = omega (arith, sum-parts sizes)
