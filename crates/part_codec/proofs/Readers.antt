-- What reads an encoding: what is read stood there, and what stands there is read, whatever follows it.
use Rattle.std.proofs.Common.{◌≡◌, ℕ, zero, suc, ◌+◌, ◌<◌, ◌≤◌, Bool, true, cond, List, [], ◌∷◌, ◌++◌, length, drop, get_or, Result, Ok, Err, refl, sym, ap, subst, ◌∙◌, append-nil, append_assoc, eqb}
use Rattle.std.specs.List.{flat_map, AllByRecursion}
use Rattle.std.proofs.lemmas.Bool.{eqb-true}
use Rattle.std.proofs.lemmas.List.{get_or-drop, nil_from_length}
use Rattle.std.proofs.lemmas.List.Concat.{flat_map-cons}
use Rattle.qsr_value.proofs.Numbers.{AreBytes}
use Rattle.part_codec.specs.Reading.{◌>>=◌, Reader, byte_at, chained, counted, mapped, list_at, tested, entire}
use Rattle.part_codec.proofs.Parts.{limited_again, limited_within, then_ok}
use Rattle.part_codec.proofs.Repeats.{bind_ok, ok, ok_is, repeated_count}

pub AreBytes-drop : (n : ℕ) (bytes : List ℕ) → AreBytes bytes → AreBytes (drop n bytes)
AreBytes-drop n bytes are = record { each = λ i. rw get_or-drop (are.each (n + i)) }

-- a part and the bytes behind it are all of the bytes
pub record Takes (bytes part rest : List ℕ) : Type 0 where
  pub parts : bytes ≡ part ++ rest
  pub rest_are : AreBytes rest

pub record IsReader {A : Type 0} (read : Reader A) (encode : A → List ℕ) (Is : A → Type 0) : Type 0 where
  pub takes : (bytes : List ℕ) (x : A × List ℕ) → AreBytes bytes → read bytes ≡ Ok x → Is x.0 × Takes bytes (encode x.0) x.1
  pub again : (a : A) (rest : List ℕ) → Is a → read (encode a ++ rest) ≡ Ok (a, rest)

-- two encodings that are read the same way, with anything behind them, are one
pub only_one : {A : Type 0} {read : Reader A} {encode : A → List ℕ} {Is : A → Type 0} → IsReader read encode Is → (a b : A) (xs ys : List ℕ) → Is a → Is b → encode a ++ xs ≡ encode b ++ ys
    → (a ≡ b) × (xs ≡ ys)
only_one {A = A} {read = read} reader a b xs ys a_is b_is same =
    let both = ok_is (a, xs) (b, ys) (sym (reader.again a xs a_is) ∙ ap read same ∙ reader.again b ys b_is) in
    (ap (λ (p : A × List ℕ). p.0) both, ap (λ (p : A × List ℕ). p.1) both)

-- one part and then another
pub chained_reads : {A B : Type 0} {first : Reader A} {second : A → Reader B} {encode : A → List ℕ} {encode_next : B → List ℕ} {Is : A → Type 0} {IsNext : A → B → Type 0}
    → IsReader first encode Is → ((a : A) → Is a → IsReader (second a) encode_next (IsNext a))
    → IsReader (chained first second) (λ p. encode p.0 ++ encode_next p.1) (λ p. Is p.0 × IsNext p.0 p.1)
chained_reads {A = A} {B = B} {first = first} {second = second} {encode = encode} {encode_next = encode_next} {Is = Is} {IsNext = IsNext} one next = record {
  takes = λ bytes x are e.
      let a = bind_ok (first bytes) (λ a. second a.0 a.1 >>= λ b. Ok ((a.0, b.0), b.1)) x e in
      let b = bind_ok (second a.0.0 a.0.1) (λ b. Ok ((a.0.0, b.0), b.1)) x a.2 in
      let one_is = one.takes bytes a.0 are a.1 in
      let next_is = (next a.0.0 one_is.0).takes a.0.1 b.0 one_is.1.rest_are b.1 in
      let parts : bytes ≡ (encode a.0.0 ++ encode_next b.0.0) ++ b.0.1 =
      one_is.1.parts ∙ ap (λ t. encode a.0.0 ++ t) next_is.1.parts ∙ sym (append_assoc (encode a.0.0) (encode_next b.0.0) b.0.1) in
      subst (λ (y : (A × B) × List ℕ). (Is y.0.0 × IsNext y.0.0 y.0.1) × Takes bytes (encode y.0.0 ++ encode_next y.0.1) y.1) (ok_is ((a.0.0, b.0.0), b.0.1) x b.2)
      ((one_is.0, next_is.0), record { parts = parts; rest_are = next_is.1.rest_are });
  again = λ p rest is.
      let f : A × List ℕ → Result ((A × B) × List ℕ) ℕ = λ a. second a.0 a.1 >>= λ b. Ok ((a.0, b.0), b.1) in
      let g : B × List ℕ → Result ((A × B) × List ℕ) ℕ = λ b. Ok ((p.0, b.0), b.1) in
      ap (λ t. first t >>= f) (append_assoc (encode p.0) (encode_next p.1) rest)
      ∙ ap (λ o. o >>= f) (one.again p.0 (encode_next p.1 ++ rest) is.0)
      ∙ ap (λ o. o >>= g) ((next p.0 is.0).again p.1 rest is.1);
}

-- what is made of a part, and what it was made of
pub mapped_reads : {A B : Type 0} {part : Reader A} {encode : A → List ℕ} {Is : A → Type 0} (f : A → B) (back : B → A) (encode_made : B → List ℕ) (IsMade : B → Type 0)
    → IsReader part encode Is → ((a : A) → Is a → IsMade (f a) × (encode a ≡ encode_made (f a))) → ((b : B) → IsMade b → Is (back b) × (f (back b) ≡ b) × (encode_made b ≡ encode (back b)))
    → IsReader (mapped f part) encode_made IsMade
mapped_reads {A = A} {B = B} {part = part} {encode = encode} {Is = Is} f back encode_made IsMade one there back_is = record {
  takes = λ bytes x are e.
      let a = bind_ok (part bytes) (λ a. Ok (f a.0, a.1)) x e in
      let one_is = one.takes bytes a.0 are a.1 in
      let made = there a.0.0 one_is.0 in
      subst (λ (y : B × List ℕ). IsMade y.0 × Takes bytes (encode_made y.0) y.1) (ok_is (f a.0.0, a.0.1) x a.2)
      (made.0, record { parts = one_is.1.parts ∙ ap (λ t. t ++ a.0.1) made.1; rest_are = one_is.1.rest_are });
  again = λ b rest is.
      let from = back_is b is in
      let g : A × List ℕ → Result (B × List ℕ) ℕ = λ a. Ok (f a.0, a.1) in
      ap (λ t. part (t ++ rest) >>= g) from.2 ∙ ap (λ o. o >>= g) (one.again (back b) rest from.0) ∙ ap (λ c. ok (c, rest)) from.1;
}

-- a part that passes a test
pub tested_reads : {A : Type 0} {part : Reader A} {encode : A → List ℕ} {Is : A → Type 0} (test : A → Bool) → IsReader part encode Is
    → IsReader (tested test part) encode (λ a. Is a × (test a ≡ true))
tested_reads {A = A} {part = part} {encode = encode} {Is = Is} test one = record {
  takes = λ bytes x are e.
      let a = bind_ok (part bytes) (λ a. cond (test a.0) (Ok a) (Err (length bytes))) x e in
      let passed = then_ok (test a.0.0) (length bytes) a.0 x a.2 in
      let one_is = one.takes bytes a.0 are a.1 in
      subst (λ (y : A × List ℕ). (Is y.0 × (test y.0 ≡ true)) × Takes bytes (encode y.0) y.1) passed.1 ((one_is.0, passed.0), one_is.1);
  again = λ a rest is.
      let left = length (encode a ++ rest) in
      let g : A × List ℕ → Result (A × List ℕ) ℕ = λ p. cond (test p.0) (Ok p) (Err left) in
      ap (λ o. o >>= g) (one.again a rest is.0) ∙ ap (λ b. cond b (ok (a, rest)) (Err left)) is.1;
}

-- a reader by other words for what it reads
pub said : {A : Type 0} {part : Reader A} {encode : A → List ℕ} {Is : A → Type 0} (Other : A → Type 0) → IsReader part encode Is
    → ((a : A) → Is a → Other a) → ((a : A) → Other a → Is a) → IsReader part encode Other
said Other one there back = record {
  takes = λ bytes x are e. let h = one.takes bytes x are e in (there x.0 h.0, h.1);
  again = λ a rest is. one.again a rest (back a is);
}

-- so many parts
repeated_takes : {A : Type 0} {part : Reader A} {encode : A → List ℕ} {Is : A → Type 0} → IsReader part encode Is → (n : ℕ) (bytes : List ℕ) (x : List A × List ℕ) → AreBytes bytes
    → list_at part n bytes ≡ Ok x → AllByRecursion Is x.0 × Takes bytes (flat_map encode x.0) x.1
repeated_takes {A = A} {encode = encode} {Is = Is} one zero bytes x are e =
    subst (λ (y : List A × List ℕ). AllByRecursion Is y.0 × Takes bytes (flat_map encode y.0) y.1) (ok_is ([], bytes) x e) (tt, record { parts = refl; rest_are = are })
repeated_takes {A = A} {part = part} {encode = encode} {Is = Is} one (suc n) bytes x are e =
    let a = bind_ok (part bytes) (λ f. list_at part n f.1 >>= λ o. Ok (f.0 ∷ o.0, o.1)) x e in
    let b = bind_ok (list_at part n a.0.1) (λ o. Ok (a.0.0 ∷ o.0, o.1)) x a.2 in
    let first = one.takes bytes a.0 are a.1 in
    let others = repeated_takes one n a.0.1 b.0 first.1.rest_are b.1 in
    let parts : bytes ≡ flat_map encode (a.0.0 ∷ b.0.0) ++ b.0.1 =
    first.1.parts ∙ ap (λ t. encode a.0.0 ++ t) others.1.parts ∙ sym (append_assoc (encode a.0.0) (flat_map encode b.0.0) b.0.1) ∙ ap (λ t. t ++ b.0.1) (sym (flat_map-cons encode a.0.0 b.0.0)) in
    subst (λ (y : List A × List ℕ). AllByRecursion Is y.0 × Takes bytes (flat_map encode y.0) y.1) (ok_is (a.0.0 ∷ b.0.0, b.0.1) x b.2)
    ((first.0, others.0), record { parts = parts; rest_are = others.1.rest_are })

repeated_again : {A : Type 0} {part : Reader A} {encode : A → List ℕ} {Is : A → Type 0} → IsReader part encode Is → (items : List A) (rest : List ℕ) → AllByRecursion Is items
    → list_at part (length items) (flat_map encode items ++ rest) ≡ Ok (items, rest)
repeated_again one [] rest is = refl
repeated_again {A = A} {part = part} {encode = encode} one (a ∷ items) rest is =
    let f : A × List ℕ → Result (List A × List ℕ) ℕ = λ f. list_at part (length items) f.1 >>= λ o. Ok (f.0 ∷ o.0, o.1) in
    let g : List A × List ℕ → Result (List A × List ℕ) ℕ = λ o. Ok (a ∷ o.0, o.1) in
    ap (λ t. part t >>= f) (ap (λ t. t ++ rest) (flat_map-cons encode a items) ∙ append_assoc (encode a) (flat_map encode items) rest)
    ∙ ap (λ o. o >>= f) (one.again a (flat_map encode items ++ rest) is.0)
    ∙ ap (λ o. o >>= g) (repeated_again one items rest is.1)

repeated_reads : {A : Type 0} {part : Reader A} {encode : A → List ℕ} {Is : A → Type 0} → IsReader part encode Is → (n : ℕ)
    → IsReader (list_at part n) (flat_map encode) (λ items. (length items ≡ n) × AllByRecursion Is items)
repeated_reads {part = part} {encode = encode} one n = record {
  takes = λ bytes x are e. let h = repeated_takes one n bytes x are e in ((repeated_count part n bytes x e, h.0), h.1);
  again = λ items rest is. ap (λ m. list_at part m (flat_map encode items ++ rest)) (sym is.0) ∙ repeated_again one items rest is.1;
}

-- a byte within limits
byte_takes : (least most : ℕ) (bytes : List ℕ) (x : ℕ × List ℕ) → AreBytes bytes → byte_at least most bytes ≡ Ok x → ((least ≤ x.0) × (x.0 ≤ most)) × Takes bytes (x.0 ∷ []) x.1
unfolding byte_at
byte_takes least most [] x are e = absurd cc
byte_takes least most (b ∷ bytes) x are e =
    let within = limited_within least most b (length (b ∷ bytes)) bytes x e in
    subst (λ (y : ℕ × List ℕ). ((least ≤ y.0) × (y.0 ≤ most)) × Takes (b ∷ bytes) (y.0 ∷ []) y.1) within.0
    ((within.1, within.2), record { parts = refl; rest_are = record { each = λ i. are.each (suc i) } })

pub byte_reads : (least most : ℕ) → IsReader (byte_at least most) (λ byte. byte ∷ []) (λ byte. (least ≤ byte) × (byte ≤ most))
unfolding byte_at
byte_reads least most = record {
  takes = λ bytes x are e. byte_takes least most bytes x are e;
  again = λ byte rest is. limited_again least most byte (length (byte ∷ rest)) rest is.0 is.1;
}

-- parts behind their number
pub record IsCounted {A : Type 0} (Is : A → Type 0) (least greatest : ℕ) (items : List A) : Type 0 where
  pub some : least ≤ length items
  pub most : length items ≤ greatest
  pub each : AllByRecursion Is items

pub counted_reads : {A : Type 0} {part : Reader A} {encode : A → List ℕ} {Is : A → Type 0} (least most : ℕ) → IsReader part encode Is
    → IsReader (counted least most part) (λ items. length items ∷ flat_map encode items) (IsCounted Is least most)
counted_reads {A = A} {encode = encode} {Is = Is} least most one =
    mapped_reads (λ (p : ℕ × List A). p.1) (λ items. (length items, items)) (λ items. length items ∷ flat_map encode items) (IsCounted Is least most)
    (chained_reads (byte_reads least most) (λ n _. repeated_reads one n))
    (λ p is. (record { some = subst (λ n. least ≤ n) (sym is.1.0) is.0.0; most = subst (λ n. n ≤ most) (sym is.1.0) is.0.1; each = is.1.1 }, ap (λ n. n ∷ flat_map encode p.1) (sym is.1.0)))
    (λ items is. (((is.some, is.most), (refl, is.each)), refl, refl))

-- ---- a part that is all of the bytes

pub whole_is : {A : Type 0} {part : Reader A} {encode : A → List ℕ} {Is : A → Type 0} → IsReader part encode Is → (bytes : List ℕ) (a : A) → AreBytes bytes → entire part bytes ≡ Ok a
    → Is a × (bytes ≡ encode a)
whole_is {A = A} {part = part} {encode = encode} {Is = Is} one bytes a are e =
    let c = bind_ok (part bytes) (λ c. cond (eqb (length c.1) 0) (Ok c.0) (Err (length c.1))) a e in
    let end = then_ok (eqb (length c.0.1) 0) (length c.0.1) c.0.0 a c.2 in
    let none : c.0.1 ≡ [] = nil_from_length c.0.1 (eqb-true _ _ end.0) in
    let found = one.takes bytes c.0 are c.1 in
    subst (λ (k : A). Is k × (bytes ≡ encode k)) end.1 (found.0, found.1.parts ∙ ap (λ t. encode c.0.0 ++ t) none ∙ append-nil (encode c.0.0))

pub whole_again : {A : Type 0} {part : Reader A} {encode : A → List ℕ} {Is : A → Type 0} → IsReader part encode Is → (a : A) → Is a → entire part (encode a) ≡ Ok a
whole_again {A = A} {part = part} {encode = encode} one a is =
    let g : A × List ℕ → Result A ℕ = λ c. cond (eqb (length c.1) 0) (Ok c.0) (Err (length c.1)) in
    ap (λ t. part t >>= g) (sym (append-nil (encode a))) ∙ ap (λ o. o >>= g) (one.again a [] is)

pub whole_none : {A : Type 0} {part : Reader A} {encode : A → List ℕ} {Is : A → Type 0} → IsReader part encode Is → (bytes : List ℕ) (left : ℕ) → entire part bytes ≡ Err left
    → (a : A) → Is a → bytes ≡ encode a → ⊥
whole_none {part = part} one bytes left e a is stands = let found = ap (entire part) stands ∙ whole_again one a is in cc (e, found)
