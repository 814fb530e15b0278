-- The bytes of a slot, read from an image.
use Rattle.std.proofs.Common.{◌≡◌, ℕ, zero, suc, ◌+◌, ◌^◌, ◌<◌, ◌≤◌, List, [], ◌∷◌, ◌++◌, take, drop, append-nil, Option, Some, None, option_map, is_some, length, slice_index, ◌-◌, subst, length-append, refl, sym, ap, ◌∙◌, arith}
use Rattle.std.proofs.lemmas.List.{get_or_append_left, get_or-append_right, length-take-le}
use Rattle.std.proofs.lemmas.Grind.{common_steps}
use Rattle.qsr_layout.proofs.Numbers.{little_from-holds}
use Rattle.disk_model.specs.Image.{Image, Holds, SameOutside}
use Rattle.disk_model.proofs.Pieces.{holds_both}
use Rattle.page_store.specs.Twin.{bytes_at, head_at, number_at, number_in}
use Rattle.page_store.specs.declared.slots.SlotHead.{SlotHead}
use Rattle.page_store.specs.Format.{behind_gate, little}

-- bytes that agree there are the same list
pub bytes_at-same : (c d : Image) (at n : ℕ) → ((i : ℕ) → at ≤ i → i < at + n → d i ≡ c i) → bytes_at d at n ≡ bytes_at c at n
unfolding bytes_at
bytes_at-same c d at zero same = refl
bytes_at-same c d at (suc n) same =
    let byte = same at (omega arith) (omega arith) in
    let rest = bytes_at-same c d (at + 1) n (λ i low high. same i (omega arith) (omega arith)) in
    rw (byte, rest) refl

-- the bytes that stand there are the list
pub bytes_at-holds : (c : Image) (at n : ℕ) (bytes : List ℕ) → n ≡ length bytes → Holds c at bytes → bytes_at c at n ≡ bytes
unfolding bytes_at
bytes_at-holds c at zero [] count holds = refl
bytes_at-holds c at zero (b ∷ bs) count holds = absurd (omega arith)
bytes_at-holds c at (suc n) [] count holds = absurd (omega arith)
bytes_at-holds c at (suc n) (b ∷ bs) count holds =
    let start : at ≡ at + 0 = omega arith in
    let byte : c at ≡ b = ap c start ∙ holds 0 (omega arith) in
    let rest = bytes_at-holds c (at + 1) n bs (omega arith) (λ i inside.
    let place : at + 1 + i ≡ at + suc i = omega arith in ap c place ∙ holds (suc i) (omega arith)) in
    rw (byte, rest) refl

pub number_at-same : (c d : Image) (at : ℕ) → ((i : ℕ) → at ≤ i → i < at + 4 → d i ≡ c i) → number_at d at ≡ number_at c at
unfolding number_at
number_at-same c d at same = ap (number_in (record { at = 0; bytes = 4 })) (bytes_at-same c d at 4 same)

pub number_at-holds : (c : Image) (at value : ℕ) → value < 256 ^ 4 → Holds c at (little 4 value) → number_at c at ≡ value
unfolding number_at
number_at-holds c at value fits holds =
    let list = bytes_at-holds c at 4 (little 4 value) refl holds in
    ap (number_in (record { at = 0; bytes = 4 })) list
    ∙ little_from-holds 0 4 value (little 4 value) fits (record { each = λ k inside. ap (slice_index (little 4 value)) (omega arith) })

four_held : (c : Image) (slot : ℕ) (page : List ℕ) → ((i : ℕ) → i < 8 → c (slot + i) ≡ slice_index page i)
    → Holds c (slot + 2) (slice_index page 2 ∷ slice_index page 3 ∷ slice_index page 4 ∷ slice_index page 5 ∷ [])
four_held c slot page here zero inside = let at : slot + 2 + 0 ≡ slot + 2 = omega arith in ap c at ∙ here 2 (omega arith)
four_held c slot page here (suc zero) inside = let at : slot + 2 + 1 ≡ slot + 3 = omega arith in ap c at ∙ here 3 (omega arith)
four_held c slot page here (suc (suc zero)) inside = let at : slot + 2 + 2 ≡ slot + 4 = omega arith in ap c at ∙ here 4 (omega arith)
four_held c slot page here (suc (suc (suc zero))) inside = let at : slot + 2 + 3 ≡ slot + 5 = omega arith in ap c at ∙ here 5 (omega arith)
four_held c slot page here (suc (suc (suc (suc i)))) inside = absurd (omega arith)

-- a head that was read
pub head_read : (c : Image) (slot : ℕ) (page bytes : List ℕ) (h : SlotHead) → length bytes ≡ 8 → Holds c slot bytes
    → ((i : ℕ) → i < 8 → slice_index page i ≡ slice_index bytes i)
    → h.gate ≡ slice_index page 0 → h.sequence ≡ slice_index page 1 → h.len ≡ number_in (record { at = 2; bytes = 4 }) page
    → head_at c slot ≡ h
unfolding number_at
head_read c slot page bytes h long holds same gate sequence len =
    let here : (i : ℕ) → i < 8 → c (slot + i) ≡ slice_index page i = λ i inside. holds i (omega arith) ∙ sym (same i inside) in
    let start : slot ≡ slot + 0 = omega arith in
    let first : c slot ≡ h.gate = ap c start ∙ here 0 (omega arith) ∙ sym gate in
    let second : c (slot + 1) ≡ h.sequence = here 1 (omega arith) ∙ sym sequence in
    let part : bytes_at c (slot + 2) 4 ≡ slice_index page 2 ∷ slice_index page 3 ∷ slice_index page 4 ∷ slice_index page 5 ∷ [] =
    bytes_at-holds c (slot + 2) 4 (slice_index page 2 ∷ slice_index page 3 ∷ slice_index page 4 ∷ slice_index page 5 ∷ []) refl (four_held c slot page here) in
    let third : number_at c (slot + 2) ≡ h.len = ap (number_in (record { at = 0; bytes = 4 })) part ∙ sym len in
    rw (first, second, third) refl

pub length-behind_gate : (sequence len : ℕ) (front : List ℕ) → length (behind_gate sequence len front) ≡ 7 + length front
unfolding behind_gate
length-behind_gate sequence len front = omega arith

behind_more : (sequence len : ℕ) (front rest : List ℕ) → behind_gate sequence len front ++ rest ≡ behind_gate sequence len (front ++ rest)
unfolding behind_gate
behind_more sequence len front rest = refl

-- the front of a body, and the rest of it
pub behind_holds : (c : Image) (slot at sequence len : ℕ) (front rest : List ℕ) → at ≡ slot + 8 + length front
    → Holds c (slot + 1) (behind_gate sequence len front) → Holds c at rest → Holds c (slot + 1) (behind_gate sequence len (front ++ rest))
behind_holds c slot at sequence len front rest place first second =
    let next : at ≡ slot + 1 + length (behind_gate sequence len front) = omega (arith, place, length-behind_gate sequence len front) in
    subst (Holds c (slot + 1)) (behind_more sequence len front rest)
    (holds_both c (slot + 1) (behind_gate sequence len front) rest first (subst (λ (k : ℕ). Holds c k rest) next second))

-- bytes that a write further on leaves
pub holds_before : (c d : Image) (at n to : ℕ) (bytes : List ℕ) → at + length bytes ≤ to → SameOutside to n c d → Holds c at bytes → Holds d at bytes
holds_before c d at n to bytes within same holds = λ i inside. same.below (at + i) (omega arith) ∙ holds i inside

-- a body in two pages
pub written_whole : (c d : Image) (slot sequence n m : ℕ) (body : List ℕ) → n ≡ 4088 → n ≤ length body → SameOutside (slot + 4096) m c d
    → Holds c (slot + 1) (behind_gate sequence (length body) (take n body)) → Holds d (slot + 4096) (take (length body - n) (drop n body))
    → Holds d (slot + 1) (behind_gate sequence (length body) body)
written_whole c d slot sequence n m body count some same first second =
    let parts : take n body ++ take (length body - n) (drop n body) ≡ body = grind (arith, common_steps) in
    let long : length (take n body) ≡ n = length-take-le n body some in
    let long_gate = length-behind_gate sequence (length body) (take n body) in
    subst (λ (b : List ℕ). Holds d (slot + 1) (behind_gate sequence (length body) b)) parts
    (behind_holds d slot (slot + 4096) sequence (length body) (take n body) (take (length body - n) (drop n body)) (omega (arith, long, count))
    (holds_before c d (slot + 1) m (slot + 4096) (behind_gate sequence (length body) (take n body)) (omega (arith, long_gate, long, count)) same first) second)

-- what stands behind a gate, by its parts
pub sequence_held : (c : Image) (slot sequence len : ℕ) (front : List ℕ) → Holds c (slot + 1) (behind_gate sequence len front) → c (slot + 1) ≡ sequence
unfolding behind_gate
sequence_held c slot sequence len front holds = let at : slot + 1 ≡ slot + 1 + 0 = omega arith in ap c at ∙ holds 0 (omega arith)

part_held : (c : Image) (at : ℕ) (xs ys zs : List ℕ) → Holds c at (xs ++ (ys ++ zs)) → Holds c (at + length xs) ys
part_held c at xs ys zs holds i inside =
    let place : at + length xs + i ≡ at + (length xs + i) = omega arith in
    let back : length xs + i - length xs ≡ i = omega arith in
    ap c place ∙ holds (length xs + i) (omega (arith, inside, length-append xs (ys ++ zs), length-append ys zs))
    ∙ get_or-append_right xs (ys ++ zs) (length xs) (length xs + i) 0 refl (omega arith)
    ∙ ap (slice_index (ys ++ zs)) back ∙ get_or_append_left ys zs 0 i inside

pub length_held : (c : Image) (slot sequence len : ℕ) (front : List ℕ) → len < 256 ^ 4 → Holds c (slot + 1) (behind_gate sequence len front) → number_at c (slot + 2) ≡ len
unfolding behind_gate
length_held c slot sequence len front fits holds =
    let at : slot + 1 + 1 ≡ slot + 2 = omega arith in
    number_at-holds c (slot + 2) len fits
    (subst (λ (k : ℕ). Holds c k (little 4 len)) at (part_held c (slot + 1) (sequence ∷ []) (little 4 len) (0 ∷ 0 ∷ front) holds))

nothing_more : (sequence len : ℕ) (front : List ℕ) → sequence ∷ (little 4 len ++ 0 ∷ 0 ∷ front) ≡ (sequence ∷ (little 4 len ++ 0 ∷ 0 ∷ [])) ++ (front ++ [])
nothing_more sequence len front = ap (λ (b : List ℕ). sequence ∷ (little 4 len ++ 0 ∷ 0 ∷ b)) (sym (append-nil front))

pub body_held : (c : Image) (slot sequence len : ℕ) (front : List ℕ) → Holds c (slot + 1) (behind_gate sequence len front) → bytes_at c (slot + 8) (length front) ≡ front
unfolding behind_gate
body_held c slot sequence len front holds =
    let at : slot + 1 + 7 ≡ slot + 8 = omega arith in
    bytes_at-holds c (slot + 8) (length front) front refl
    (subst (λ (k : ℕ). Holds c k front) at (part_held c (slot + 1) (sequence ∷ (little 4 len ++ 0 ∷ 0 ∷ [])) front [] (subst (Holds c (slot + 1)) (nothing_more sequence len front) holds)))

-- the front of a buffer that was filled in two parts
pub two_parts : (len f : ℕ) (a p b q : List ℕ) → length a ≡ f → length b + f ≡ len → take len (take f (a ++ p) ++ (b ++ q)) ≡ a ++ b
two_parts len f a p b q first second = grind (arith, common_steps)

pub is_some_map : {A B : Type 0} (f : A → B) (o : Option A) → is_some o ≡ is_some (option_map f o)
is_some_map f None = refl
is_some_map f (Some x) = refl

pub bytes_at-get : (c : Image) (at n k : ℕ) → k < n → slice_index (bytes_at c at n) k ≡ c (at + k)
unfolding bytes_at
bytes_at-get c at zero k inside = absurd (omega arith)
bytes_at-get c at (suc n) zero inside = ap c (omega arith)
bytes_at-get c at (suc n) (suc k) inside = bytes_at-get c (at + 1) n k (omega arith) ∙ ap c (omega arith)
