-- Reading parts one after the other, as a loop does.
use Rattle.std.proofs.Common.{◌≡◌, ℕ, zero, suc, length, ◌-◌, ◌+◌, ◌≤◌, ◌<◌, List, [], ◌∷◌, ◌++◌, Result, Ok, Err, refl, sym, ap, ◌∙◌, append_assoc, append-nil, arith}
use Rattle.part_codec.specs.declared.unread.Unread.{Unread}
use Rattle.part_codec.specs.declared.unread.Unread.TheVariants.{Memory, Bad}
use Rattle.part_codec.specs.Reading.{◌>>=◌, Misses, Reader, list_at}

-- what was read, and that it was bad where so many bytes were left
abbrev pub ok : {A : Type 0} → A → Result A ℕ
ok x = Ok x

abbrev pub err : (A : Type 0) → ℕ → Result A ℕ
err A left = Err left

-- what was read before, and what is still read
abbrev pub with_front : {A : Type 0} → List A → Result (List A × List ℕ) ℕ → Result (List A × List ℕ) ℕ
with_front front read = read >>= λ x. Ok (front ++ x.0, x.1)

regroup : {A : Type 0} (front : List A) (one : A) (read : Result (List A × List ℕ) ℕ) → with_front front (read >>= λ x. Ok (one ∷ x.0, x.1)) ≡ with_front (front ++ one ∷ []) read
regroup front one (Ok x) = ap (λ items. ok (items, x.1)) (sym (append_assoc front (one ∷ []) x.0))
regroup front one (Err left) = refl

pub goes_on : {A : Type 0} (part : Reader A) (front : List A) (count i : ℕ) (bytes : List ℕ) (one : A) (after : List ℕ) (total : Result (List A × List ℕ) ℕ) → i < count → part bytes ≡ Ok (one, after)
    → with_front front (list_at part (count - i) bytes) ≡ total → with_front (front ++ one ∷ []) (list_at part (count - (i + 1)) after) ≡ total
goes_on part front count i bytes one after total lt h so_far =
    let k : count - i ≡ suc (count - (i + 1)) = omega arith in
    let step : with_front front (list_at part (count - i) bytes) ≡ with_front (front ++ one ∷ []) (list_at part (count - (i + 1)) after) = rw (k, h) (regroup front one (list_at part (count - (i + 1)) after)) in
    sym step ∙ so_far

pub ends : {A : Type 0} (part : Reader A) (e : Unread) (front : List A) (count i : ℕ) (bytes : List ℕ) (total : Result (List A × List ℕ) ℕ) → i < count → Misses e (part bytes)
    → with_front front (list_at part (count - i) bytes) ≡ total → Misses e total
ends part Memory front count i bytes total lt h so_far = tt
ends part (Bad left) front count i bytes total lt h so_far =
    let k : count - i ≡ suc (count - (i + 1)) = omega arith in
    let step : with_front front (list_at part (count - i) bytes) ≡ Err left = rw (k, h) refl in
    sym so_far ∙ step

pub is_done : {A : Type 0} (part : Reader A) (front : List A) (count i : ℕ) (bytes : List ℕ) (total : Result (List A × List ℕ) ℕ) → count ≤ i → with_front front (list_at part (count - i) bytes) ≡ total → total ≡ Ok (front, bytes)
is_done part front count i bytes total le so_far =
    let k : count - i ≡ 0 = omega arith in
    let step : with_front front (list_at part (count - i) bytes) ≡ Ok (front, bytes) = rw k (ap (λ items. ok (items, bytes)) (append-nil front)) in
    sym so_far ∙ step

-- ---- what was read

-- the value of a step that gave one
pub bind_ok : {A B : Type 0} (o : Result A ℕ) (f : A → Result B ℕ) (y : B) → (o >>= f) ≡ Ok y → (x : A) × (o ≡ Ok x) × (f x ≡ Ok y)
bind_ok (Ok x) f y e = (x, refl, e)
bind_ok (Err left) f y e = absurd cc

pub ok_is : {A : Type 0} (x y : A) → ok x ≡ ok y → x ≡ y
ok_is x y e = cc

-- where a step was bad of which something is made
pub err_is : (A : Type 0) (m n : ℕ) → err A m ≡ err A n → m ≡ n
err_is A m n e = cc

pub bind_err : {A B : Type 0} (o : Result A ℕ) (f : A → B) (left : ℕ) → (o >>= λ x. Ok (f x)) ≡ Err left → o ≡ Err left
bind_err (Ok x) f left e = absurd cc
bind_err {A = A} {B = B} (Err at) f left e = ap (err A) (err_is B at left e)

-- as many as were asked for
pub repeated_count : {A : Type 0} (part : Reader A) (n : ℕ) (bytes : List ℕ) (x : List A × List ℕ) → list_at part n bytes ≡ Ok x → length x.0 ≡ n
repeated_count {A = A} part zero bytes x e = sym (ap (λ (y : List A × List ℕ). length y.0) (ok_is ([], bytes) x e))
repeated_count {A = A} part (suc n) bytes x e =
    let first = bind_ok (part bytes) (λ f. list_at part n f.1 >>= λ o. Ok (f.0 ∷ o.0, o.1)) x e in
    let others = bind_ok (list_at part n first.0.1) (λ o. Ok (first.0.0 ∷ o.0, o.1)) x first.2 in
    let long = repeated_count part n first.0.1 others.0 others.1 in
    sym (ap (λ (y : List A × List ℕ). length y.0) (ok_is (first.0.0 ∷ others.0.0, others.0.1) x others.2)) ∙ ap suc long
