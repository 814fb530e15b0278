-- An empty store, read back from the bytes that were written.
use Rattle.std.proofs.Common.{◌≡◌, ℕ, zero, suc, ◌+◌, ◌-◌, ◌*◌, ◌^◌, ◌<◌, ◌≤◌, Bool, true, false, ◌==◌, ◌&&◌, if◌then◌else◌, List, [], ◌∷◌, ◌++◌, length, slice_index, codes, sum, Option, Some, None, refl, sym, ap, subst, inl, arith, ◌∙◌}
use Rattle.std.proofs.lemmas.Bool.Decides.{nat_tests}
use Rattle.std.proofs.lemmas.List.{get_or_append_left, get_or-append_right}
use Rattle.std.specs.Option.{IsSome}
use Rattle.disk_model.specs.Image.{Image, Holds}
use Rattle.qsr_layout.proofs.Numbers.{little_from-holds}
use Rattle.qsr_layout.specs.Page.{PageHolds}
use Rattle.qsr_layout.specs.StoreHead.{store_head_field}
use Rattle.qsr_layout.specs.declared.records.StoreHeadField.TheVariants.{Gate, Text, Version}
use Rattle.page_store.specs.declared.pages.Sizes.{Sizes}
use Rattle.page_store.specs.declared.records.TheConstants.{OPEN, STORE_TEXT, VERSION}
use Rattle.page_store.specs.Format.{IsNew, IsNewTwin, behind_gate, empty_catalogue, free_head, head_bytes, head_rest, little, slot_bytes, slot_front}
use Rattle.page_store.specs.Head.{are_sizes, head_in, sizes_in, store_head}
use Rattle.page_store.specs.Opening.{IsEmptyStore}
use Rattle.page_store.specs.PageOrder.{AreSizes, job_part, parts, start_of}
use Rattle.page_store.specs.Store.{contents_of}
use Rattle.page_store.specs.Twin.{bytes_at, head_at, number_at, number_in, twin_body}
use Rattle.page_store.proofs.PageLaws.{job_second}
use Rattle.page_store.proofs.Places.{catalogue_start}
use Rattle.page_store.proofs.SlotBytes.{body_held, bytes_at-holds, length_held, sequence_held}
use Rattle.page_store.proofs.StoreContents.{body_is, head_is}
use Rattle.page_store.proofs.TwinLaws.{Current, twin_of_slot}

-- the bytes of a part of a list
part_holds : (page xs ys zs : List ℕ) (at : ℕ) → page ≡ xs ++ (ys ++ zs) → at ≡ length xs → PageHolds page at ys
part_holds page xs ys zs at is start = record {
  each = λ k inside.
      let place : at + k ≡ length xs + k = omega arith in
      let back : length xs + k - length xs ≡ k = omega arith in
      ap (λ (p : List ℕ). slice_index p (at + k)) is ∙ ap (slice_index (xs ++ (ys ++ zs))) place
      ∙ get_or-append_right xs (ys ++ zs) (length xs) (length xs + k) 0 refl (omega arith)
      ∙ ap (slice_index (ys ++ zs)) back ∙ get_or_append_left ys zs 0 k inside;
}

-- a number that stands in a list
number_read : (page xs zs : List ℕ) (at n value : ℕ) → page ≡ xs ++ (little n value ++ zs) → at ≡ length xs → value < 256 ^ n
    → number_in (record { at = at; bytes = n }) page ≡ value
number_read page xs zs at n value is start fits = little_from-holds at n value page fits (part_holds page xs (little n value) zs at is start)

are_sizes_true : (sizes : Sizes) → AreSizes sizes → are_sizes sizes ≡ true
are_sizes_true sizes are =
    let table = are.table in let table_most = are.table_most in
    let index = are.index in let index_most = are.index_most in
    let out = are.out in let out_most = are.out_most in
    let image = are.image in let image_most = are.image_most in
    let spill = are.spill in let spill_most = are.spill_most in
    grind (arith, nat_tests)

if_some : (b : Bool) (sizes : Sizes) → b ≡ true → (if b then Some sizes else None) ≡ Some sizes
if_some true sizes is = refl
if_some false sizes is = cc

-- the head of a new store tells its sizes
head_read_back : (sizes : Sizes) → AreSizes sizes → head_in (head_bytes OPEN sizes) ≡ Some sizes
unfolding head_in head_bytes head_rest
head_read_back sizes are =
    let page = head_bytes OPEN sizes in
    let gate : number_in (store_head_field Gate) page ≡ OPEN = refl in
    let text : number_in (store_head_field Text) page ≡ STORE_TEXT = refl in
    let version : number_in (store_head_field Version) page ≡ VERSION = refl in
    let front = OPEN ∷ (codes "QSRSTOR1" ++ little 2 1) in
    let upto_index = front ++ little 4 sizes.table in
    let upto_out = upto_index ++ little 4 sizes.index in
    let upto_image = upto_out ++ little 4 sizes.out in
    let upto_spill = upto_image ++ little 4 sizes.image in
    let told : sizes_in page ≡ sizes = λ i. record {
      table = number_read page front (little 4 sizes.index ++ little 4 sizes.out ++ little 4 sizes.image ++ little 4 sizes.spill) 11 4 sizes.table refl refl (omega (arith, are.table_most)) i;
      index = number_read page upto_index (little 4 sizes.out ++ little 4 sizes.image ++ little 4 sizes.spill) 15 4 sizes.index refl refl (omega (arith, are.index_most)) i;
      out = number_read page upto_out (little 4 sizes.image ++ little 4 sizes.spill) 19 4 sizes.out refl refl (omega (arith, are.out_most)) i;
      image = number_read page upto_image (little 4 sizes.spill) 23 4 sizes.image refl refl (omega (arith, are.image_most)) i;
      spill = number_read page upto_spill [] 27 4 sizes.spill refl refl (omega (arith, are.spill_most)) i;
    } in
    (λ i. if ((gate i == OPEN) && (text i == STORE_TEXT) && (version i == VERSION)) && are_sizes (told i) then Some (told i) else None)
    ∙ if_some (are_sizes sizes) sizes (are_sizes_true sizes are)

length-head_bytes : (sizes : Sizes) → length (head_bytes OPEN sizes) ≡ 31
unfolding head_bytes head_rest
length-head_bytes sizes = refl

new_head : (sizes : Sizes) (c : Image) → AreSizes sizes → Holds c 0 (head_bytes OPEN sizes) → store_head c ≡ Some sizes
new_head sizes c are holds = ap head_in (bytes_at-holds c 0 31 (head_bytes OPEN sizes) (sym (length-head_bytes sizes)) holds) ∙ head_read_back sizes are

-- the first slot of a new twin
slot_open : (c : Image) (slot : ℕ) (body : List ℕ) → Holds c slot (slot_bytes OPEN 0 body) → c slot ≡ OPEN
unfolding slot_front
slot_open c slot body holds = let at : slot ≡ slot + 0 = omega arith in ap c at ∙ holds 0 (omega arith)

slot_behind : (c : Image) (slot : ℕ) (body : List ℕ) → Holds c slot (slot_bytes OPEN 0 body) → Holds c (slot + 1) (behind_gate 0 (length body) body)
unfolding slot_front
slot_behind c slot body holds = λ i inside.
    let at : slot + 1 + i ≡ slot + suc i = omega arith in
    ap c at ∙ holds (suc i) (omega arith)

-- a new twin stands for its body
new_twin : (span at first second : ℕ) (c : Image) (body : List ℕ) → span ≤ 8192 → length body + 8 ≤ span → 4096 * first ≡ at → 4096 * second ≡ at + span
    → IsNewTwin c first second body → twin_body span at c ≡ Some body
new_twin span at first second c body most long one two twin =
    let slot = 4096 * first in
    let behind = slot_behind c slot body twin.slot in
    let sequence : c (slot + 1) ≡ 0 = sequence_held c slot 0 (length body) body behind in
    let len : number_at c (slot + 2) ≡ length body = length_held c slot 0 (length body) body (omega arith) behind in
    let now : Current span (head_at c slot) (head_at c (4096 * second)) = record {
      is = slot_open c slot body twin.slot;
      sequence = omega (arith, sequence);
      fits = omega (arith, len, long);
      before = inl (λ is_open. let closed = twin.closed in cc);
    } in
    twin_of_slot span at slot (4096 * second) c (inl (one, two)) now ∙ ap Some (ap (bytes_at c (slot + 8)) len ∙ body_held c slot 0 (length body) body behind)

new_catalogue : (sizes : Sizes) (c : Image) → IsNew sizes c → (contents_of sizes c).body 0 ≡ Some empty_catalogue
new_catalogue sizes c new =
    let start = catalogue_start sizes in
    body_is sizes c 0 (omega arith)
    ∙ new_twin 8192 (4096 * start_of (parts sizes) 1) 1 3 c empty_catalogue (omega arith) (omega arith) (omega (arith, start)) (omega (arith, start)) new.catalogue

new_job : (sizes : Sizes) (c : Image) (job : ℕ) → job < 8 → IsNew sizes c → (contents_of sizes c).body (1 + job) ≡ Some free_head
new_job sizes c job some new =
    let second = job_second sizes job some in
    let number : 1 + job ≡ suc job = omega arith in
    ap (contents_of sizes c).body number
    ∙ body_is sizes c (suc job) (omega arith)
    ∙ new_twin 4096 (4096 * start_of (parts sizes) (job_part job 0)) (start_of (parts sizes) (job_part job 0)) (start_of (parts sizes) (job_part job 1)) c free_head
    (omega arith) (omega arith) refl (omega (arith, second)) (new.jobs job some)

has_body : (o : Option (List ℕ)) (body : List ℕ) → o ≡ Some body → IsSome o
has_body o body is = subst (λ (p : Option (List ℕ)). IsSome p) (sym is) refl

new_whole : (sizes : Sizes) (c : Image) → IsNew sizes c → (k : ℕ) → k < 9 → IsSome ((contents_of sizes c).body k)
new_whole sizes c new zero some = has_body ((contents_of sizes c).body 0) empty_catalogue (new_catalogue sizes c new)
new_whole sizes c new (suc job) some =
    let number : suc job ≡ 1 + job = omega arith in
    has_body ((contents_of sizes c).body (suc job)) free_head (ap (contents_of sizes c).body number ∙ new_job sizes c job (omega arith) new)

-- what was made is an empty store
pub new_store : (size : ℕ) (sizes : Sizes) (c : Image) → AreSizes sizes → 4096 * sum (parts sizes) ≤ size → IsNew sizes c
    → IsEmptyStore size sizes (contents_of sizes c)
new_store size sizes c are fits new = record {
  store = record { head = head_is sizes c ∙ new_head sizes c are new.head; fits = fits; twins = new_whole sizes c new };
  catalogue = new_catalogue sizes c new;
  jobs = λ job some. new_job sizes c job some new;
}
