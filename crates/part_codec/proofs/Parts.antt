-- Texts and numbers within limits, as the readers test them.
use Rattle.std.proofs.Common.{◌≡◌, ℕ, ◌+◌, ◌≤◌, Bool, true, false, cond, ltb, ◌||◌, List, [], ◌∷◌, length, take, drop, Result, Ok, Err, refl, sym, ap, subst, arith}
use Rattle.std.proofs.lemmas.Bool.{le-ltb, ltb-false}
use Rattle.std.proofs.lemmas.Str.{IsUtf8-from_is_utf8, is_utf8-from_IsUtf8}
use Rattle.std.specs.Int.{Width, cast_signed}
use Rattle.std.specs.Str.{IsUtf8, is_utf8}
use Rattle.byteorder.specs.Endian.{little_number}
use Rattle.part_codec.proofs.Repeats.{err, err_is, ok, ok_is}
use Rattle.part_codec.specs.Reading.{byte_at, within_limits, unsigned_at, signed_at, text_at, width_bytes}

-- a text that is there is read, and what is no text isn't
pub text_read : (size : ℕ) (bytes : List ℕ) → size ≤ length bytes → IsUtf8 (take size bytes) → text_at size bytes ≡ Ok (take size bytes, drop size bytes)
unfolding text_at
text_read size bytes room utf8 = rw (le-ltb (length bytes) size room, is_utf8-from_IsUtf8 (take size bytes) utf8) refl

not_utf8 : (text : List ℕ) (b : Bool) → is_utf8 text ≡ b → (IsUtf8 text → ⊥) → is_utf8 text ≡ false
not_utf8 text true is bad = absurd (bad (IsUtf8-from_is_utf8 text is))
not_utf8 text false is bad = is

pub text_missed : (size : ℕ) (bytes : List ℕ) → size ≤ length bytes → (IsUtf8 (take size bytes) → ⊥) → text_at size bytes ≡ Err (length bytes)
unfolding text_at
text_missed size bytes room bad = rw (le-ltb (length bytes) size room, not_utf8 (take size bytes) (is_utf8 (take size bytes)) refl bad) refl

-- ---- a test that let a value through

pub else_ok : {A : Type 0} (b : Bool) (left : ℕ) (o : Result A ℕ) (y : A) → cond b (err A left) o ≡ Ok y → (b ≡ false) × (o ≡ Ok y)
else_ok true left o y e = absurd cc
else_ok false left o y e = (refl, e)

pub then_ok : {A : Type 0} (b : Bool) (left : ℕ) (x y : A) → cond b (ok x) (err A left) ≡ Ok y → (b ≡ true) × (x ≡ y)
then_ok true left x y e = (refl, ok_is x y e)
then_ok false left x y e = absurd cc

pub or_false : (a b : Bool) → (a || b) ≡ false → (a ≡ false) × (b ≡ false)
or_false true b e = absurd cc
or_false false b e = (refl, e)

-- a number that is let through is within its limits, and each of those is let through
pub limited_within : (least most number left : ℕ) (rest : List ℕ) (x : ℕ × List ℕ) → within_limits least most number left rest ≡ Ok x → ((number, rest) ≡ x) × (least ≤ number) × (number ≤ most)
limited_within least most number left rest x e =
    let kept = else_ok (ltb number least || ltb most number) left (ok (number, rest)) x e in
    let both = or_false (ltb number least) (ltb most number) kept.0 in
    (ok_is (number, rest) x kept.1, ltb-false number least both.0, ltb-false most number both.1)

pub limited_again : (least most number left : ℕ) (rest : List ℕ) → least ≤ number → number ≤ most → within_limits least most number left rest ≡ Ok (number, rest)
limited_again least most number left rest low high = rw (le-ltb number least low, le-ltb most number high) refl

pub byte_most : (least most : ℕ) (bytes : List ℕ) (x : ℕ × List ℕ) → byte_at least most bytes ≡ Ok x → x.0 ≤ most
unfolding byte_at
byte_most least most [] x e = absurd cc
byte_most least most (b ∷ bytes) x e =
    let within = limited_within least most b (length (b ∷ bytes)) bytes x e in
    subst (λ (y : ℕ × List ℕ). y.0 ≤ most) within.0 within.2

-- ---- where a test let no value through

-- of a number that is too small or too great · of bytes that are too few
cond_err : {A : Type 0} (b : Bool) (at left : ℕ) (x : A) → cond b (err A at) (ok x) ≡ Err left → left ≡ at
cond_err {A = A} true at left x e = sym (err_is A at left e)
cond_err false at left x e = absurd cc

else_err : {A : Type 0} (b : Bool) (at left : ℕ) (o : Result A ℕ) → cond b (err A at) o ≡ Err left → (o ≡ Err left → left ≡ at) → left ≡ at
else_err {A = A} true at left o e next = sym (err_is A at left e)
else_err false at left o e next = next e

then_err : {A : Type 0} (b : Bool) (at left : ℕ) (x : A) → cond b (ok x) (err A at) ≡ Err left → left ≡ at
then_err true at left x e = absurd cc
then_err {A = A} false at left x e = sym (err_is A at left e)

-- each of these is bad at the front
pub byte_bad : (least most : ℕ) (bytes : List ℕ) (left : ℕ) → byte_at least most bytes ≡ Err left → left ≡ length bytes
unfolding byte_at
byte_bad least most [] left e = sym (err_is (ℕ × List ℕ) 0 left e)
byte_bad least most (b ∷ bytes) left e = cond_err (ltb b least || ltb most b) (length (b ∷ bytes)) left (b, bytes) e

pub number_bad : (size least most : ℕ) (bytes : List ℕ) (left : ℕ) → unsigned_at size least most bytes ≡ Err left → left ≡ length bytes
unfolding unsigned_at
number_bad size least most bytes left e =
    let number = little_number size bytes in
    else_err (ltb (length bytes) size) (length bytes) left (within_limits least most number (length bytes) (drop size bytes)) e
    (λ late. cond_err (ltb number least || ltb most number) (length bytes) left (number, drop size bytes) late)

pub signed_bad : (width : Width) (bytes : List ℕ) (left : ℕ) → signed_at width bytes ≡ Err left → left ≡ length bytes
unfolding signed_at
signed_bad width bytes left e =
    cond_err (ltb (length bytes) (width_bytes width)) (length bytes) left (cast_signed width (little_number (width_bytes width) bytes), drop (width_bytes width) bytes) e

pub text_bad : (size : ℕ) (bytes : List ℕ) (left : ℕ) → text_at size bytes ≡ Err left → left ≡ length bytes
unfolding text_at
text_bad size bytes left e =
    let text = take size bytes in
    let read : Result (List ℕ × List ℕ) ℕ = cond (is_utf8 text) (ok (text, drop size bytes)) (Err (length bytes)) in
    else_err (ltb (length bytes) size) (length bytes) left read e (λ late. then_err (is_utf8 text) (length bytes) left (text, drop size bytes) late)

-- what is behind a byte
pub byte_behind : (least most : ℕ) (bytes : List ℕ) (x : ℕ × List ℕ) → byte_at least most bytes ≡ Ok x → length bytes ≡ length x.1 + 1
unfolding byte_at
byte_behind least most [] x e = absurd cc
byte_behind least most (b ∷ bytes) x e =
    let within = limited_within least most b (length (b ∷ bytes)) bytes x e in
    let same : length bytes ≡ length x.1 = ap (λ (y : ℕ × List ℕ). length y.1) within.0 in
    omega (arith, same)
