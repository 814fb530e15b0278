-- A list from an item on, and what stands in front of it.
use Rattle.std.proofs.Common.{◌≡◌, ℕ, zero, suc, ◌+◌, ◌≤◌, List, [], ◌∷◌, ◌++◌, length, take, drop, add-one, refl, sym, ap, ◌∙◌, arith, append_assoc, append-nil, ◌-◌, length-append, length-drop, Some}
use Rattle.std.proofs.lemmas.List.{drop-drop, length-take-le, take-append-drop, take_all}
use Rattle.std.proofs.Math.ListN.{drop_of_length-le}
use Rattle.std.proofs.Math.Seq.{drop-append-add, take-append_seam}
use Rattle.std.specs.List.{slice_get}
use borrow.Rule.Slice.PartMut.{put_mid}

-- an item and the list behind it
drop-get_suc : {X : Type 0} (xs : List X) (i : ℕ) (x : X) → slice_get xs i ≡ Some x → drop i xs ≡ x ∷ drop (suc i) xs
drop-get_suc [] i x is = cc
drop-get_suc (y ∷ ys) zero x is = cc
drop-get_suc (y ∷ ys) (suc i) x is = drop-get_suc ys i x is

pub drop-get : {X : Type 0} (xs : List X) (i : ℕ) (x : X) → slice_get xs i ≡ Some x → drop i xs ≡ x ∷ drop (i + 1) xs
drop-get xs i x is = rw add-one (drop-get_suc xs i x is)

-- the list up to an item, and the item
take-get_suc : {X : Type 0} (xs : List X) (i : ℕ) (x : X) → slice_get xs i ≡ Some x → take (suc i) xs ≡ take i xs ++ x ∷ []
take-get_suc [] i x is = cc
take-get_suc (y ∷ ys) zero x is = cc
take-get_suc (y ∷ ys) (suc i) x is = ap (λ rest. y ∷ rest) (take-get_suc ys i x is)

pub take-get : {X : Type 0} (xs : List X) (i : ℕ) (x : X) → slice_get xs i ≡ Some x → take (i + 1) xs ≡ take i xs ++ x ∷ []
take-get xs i x is = rw add-one (take-get_suc xs i x is)

-- lists that begin with parts of one length
pub same_parts : {X : Type 0} (xs ys us vs : List X) → length xs ≡ length ys → xs ++ us ≡ ys ++ vs → (xs ≡ ys) × (us ≡ vs)
same_parts [] [] us vs long same = (refl, same)
same_parts [] (y ∷ ys) us vs long same = absurd (omega arith)
same_parts (x ∷ xs) [] us vs long same = absurd (omega arith)
same_parts (x ∷ xs) (y ∷ ys) us vs long same =
    let tails : xs ++ us ≡ ys ++ vs = cc in
    let heads : x ≡ y = cc in
    let rest = same_parts xs ys us vs (omega arith) tails in
    (cc (rest.0), rest.1)

-- So many bytes of a whole were put into a buffer from a place on, and what is around them is as it was.
pub record HasPut (old : List ℕ) (at : ℕ) (whole rest : List ℕ) (end : ℕ) (new : List ℕ) : Type 0 where
  pub done : List ℕ
  pub parts : done ++ rest ≡ whole
  pub end_is : end ≡ at + length done
  pub new_is : new ≡ take at old ++ (done ++ drop end old)

pub HasPut-start : (old whole : List ℕ) (at : ℕ) → HasPut old at whole whole at old
HasPut-start old whole at = record { done = []; parts = refl; end_is = omega arith; new_is = sym (take-append-drop at old) }

-- the next bytes
pub HasPut-more : {old whole rest : List ℕ} (bytes more : List ℕ) {at end next : ℕ} {new newer : List ℕ} → at ≤ length old → HasPut old at whole rest end new
    → rest ≡ bytes ++ more → next ≡ end + length bytes → newer ≡ take end new ++ (bytes ++ drop next new) → HasPut old at whole more next newer
HasPut-more {old = old} {whole = whole} {rest = rest} bytes more {at = at} {end = end} {next = next} {new = new} {newer = newer} room was rest_is next_is newer_is =
    let front : List ℕ = take at old ++ was.done in
    let was_end = was.end_is in
    let long : length front ≡ end = omega (arith, was_end, length-append (take at old) was.done, length-take-le at old room) in
    let was_is : new ≡ front ++ drop end old = was.new_is ∙ sym (append_assoc (take at old) was.done (drop end old)) in
    let taken : take end new ≡ front = ap (take end) was_is ∙ ap (λ n. take n (front ++ drop end old)) (sym long) ∙ take-append_seam front (drop end old) in
    let behind : next ≡ length front + length bytes = omega (arith, next_is, long) in
    let rest_same : drop next new ≡ drop next old =
    ap (drop next) was_is ∙ ap (λ n. drop n (front ++ drop end old)) behind ∙ drop-append-add front (drop end old) (length bytes)
    ∙ drop-drop (length bytes) end old ∙ ap (λ n. drop n old) (sym next_is) in
    let parted : take end new ++ (bytes ++ drop next new) ≡ take at old ++ ((was.done ++ bytes) ++ drop next old) =
    ap (λ xs. xs ++ (bytes ++ drop next new)) taken ∙ ap (λ xs. front ++ (bytes ++ xs)) rest_same
    ∙ append_assoc (take at old) was.done (bytes ++ drop next old) ∙ ap (λ xs. take at old ++ xs) (sym (append_assoc was.done bytes (drop next old))) in
    record {
      done = was.done ++ bytes;
      parts = append_assoc was.done bytes more ∙ ap (λ xs. was.done ++ xs) (sym rest_is) ∙ was.parts;
      end_is = omega (arith, was_end, next_is, length-append was.done bytes);
      new_is = newer_is ∙ parted;
    }

-- there is room for the next bytes
pub HasPut-room : {old whole rest : List ℕ} (bytes more : List ℕ) {at end : ℕ} {new : List ℕ} → HasPut old at whole rest end new → rest ≡ bytes ++ more
    → end + length bytes ≤ at + length whole
HasPut-room {whole = whole} {rest = rest} bytes more was rest_is =
    let end_is = was.end_is in
    let whole_is : length (was.done ++ rest) ≡ length whole = ap length was.parts in
    omega (arith, end_is, whole_is, length-append was.done rest, ap length rest_is, length-append bytes more)

-- nothing is left
pub HasPut-done : {old whole rest : List ℕ} {at end : ℕ} {new : List ℕ} → HasPut old at whole rest end new → rest ≡ []
    → (end ≡ at + length whole) × (new ≡ take at old ++ (whole ++ drop end old))
HasPut-done {old = old} {whole = whole} {rest = rest} {at = at} {end = end} was none =
    let all : was.done ≡ whole = sym (append-nil was.done) ∙ ap (λ xs. was.done ++ xs) (sym none) ∙ was.parts in
    (was.end_is ∙ ap (λ xs. at + length xs) all, was.new_is ∙ ap (λ xs. take at old ++ (xs ++ drop end old)) all)

-- a slice to the end is all that is behind its start
pub slice_to_end : (xs : List ℕ) (at : ℕ) → take (length xs - at) (drop at xs) ≡ drop at xs
slice_to_end xs at = take_all (length xs - at) (drop at xs) (omega (arith, length-drop at xs))

-- a write to the front of what begins at a place
pub put_at : (old part bytes : List ℕ) (at n : ℕ) → at + length bytes ≤ length old → n ≡ length bytes
    → part ≡ bytes ++ drop n (take (length old - at) (drop at old)) → put_mid at (length old - at) old part ≡ take at old ++ (bytes ++ drop (at + n) old)
put_at old part bytes at n room n_is part_is =
    let all = slice_to_end old at in
    let inner : part ≡ bytes ++ drop (at + n) old = part_is ∙ ap (λ xs. bytes ++ drop n xs) all ∙ ap (λ xs. bytes ++ xs) (drop-drop n at old) in
    let none : drop (length old - at) (drop at old) ≡ [] = drop_of_length-le (drop at old) (omega (arith, length-drop at old)) in
    ap (λ xs. take at old ++ (part ++ xs)) none ∙ ap (λ xs. take at old ++ xs) (append-nil part ∙ inner)
