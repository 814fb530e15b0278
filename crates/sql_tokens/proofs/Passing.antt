-- How the tokens of some bytes are those of the bytes behind a blank or behind a token.
use Rattle.std.proofs.Common.{◌≡◌, refl, sym, ap, ◌∙◌, subst, ℕ, zero, suc, ◌+◌, ◌-◌, ◌<◌, ◌≤◌, Bool, true, false, cond, ◌&&◌, if◌then◌else◌, List, [], ◌∷◌, length, drop, slice_index, get_or, arith}
use Rattle.std.specs.List.{prefix_len}
use Rattle.std.proofs.lemmas.List.{get_or-drop, length-drop, nil_from_length}
use Rattle.std.proofs.lemmas.List.Sums.{prefix_len_stops}
use Rattle.sql_tokens.specs.declared.token.Token.{Token}
use Rattle.sql_tokens.specs.declared.token.What.{What}
use Rattle.sql_tokens.specs.declared.token.What.TheVariants as w
use Rattle.sql_tokens.specs.Tokens.{tokens_from, told_from, token_at, is_last, is_number, starts_name}
use Rattle.sql_tokens.specs.Words.{is_blank}

-- the bytes of a token that was told
pub past_token : (n : ℕ) (bytes : List ℕ) (numbered : Bool) (at : ℕ) → n ≤ length bytes → tokens_from bytes n numbered at ≡ tokens_from (drop n bytes) 0 numbered (at + n)
unfolding tokens_from
past_token zero bytes numbered at h = ap (tokens_from bytes 0 numbered) (omega arith)
past_token (suc n) [] numbered at h = absurd (let e : suc n ≤ 0 = h in omega (arith, e))
past_token (suc n) (b ∷ rest) numbered at h =
    past_token n rest numbered (at + 1) (let e : suc n ≤ suc (length rest) = h in omega (arith, e)) ∙ ap (tokens_from (drop n rest) 0 numbered) (omega arith)

drop_one_more : (n : ℕ) (b : ℕ) (rest : List ℕ) → drop (1 + n) (b ∷ rest) ≡ drop n rest
drop_one_more n b rest = let e : 1 + n ≡ suc n = omega arith in ap (λ m. drop m (b ∷ rest)) e

drop_one_less : (n : ℕ) (b : ℕ) (rest : List ℕ) → 0 < n → drop (n - 1) rest ≡ drop n (b ∷ rest)
drop_one_less zero b rest h = absurd (omega (arith, h))
drop_one_less (suc n) b rest h = let e : suc n - 1 ≡ n = omega arith in ap (λ m. drop m rest) e

blank_turn : (b : ℕ) (rest : List ℕ) (at n : ℕ) (x : Bool) → is_blank b ≡ x → tokens_from rest 0 false (at + 1) ≡ tokens_from (drop n rest) 0 false (at + 1 + n)
    → tokens_from (b ∷ rest) 0 false at ≡ tokens_from (drop (cond x (1 + n) 0) (b ∷ rest)) 0 false (at + cond x (1 + n) 0)
unfolding tokens_from
blank_turn b rest at n false e h = ap (tokens_from (b ∷ rest) 0 false) (omega arith)
blank_turn b rest at n true e h =
    let one : tokens_from (b ∷ rest) 0 false at ≡ tokens_from rest 0 false (at + 1) = rw e refl in
    one ∙ h ∙ ap (λ bytes. tokens_from bytes 0 false (at + 1 + n)) (sym (drop_one_more n b rest)) ∙ ap (tokens_from (drop (1 + n) (b ∷ rest)) 0 false) (omega arith)

-- blanks
pub past_blanks : (bytes : List ℕ) (at : ℕ) → tokens_from bytes 0 false at ≡ tokens_from (drop (prefix_len is_blank bytes) bytes) 0 false (at + prefix_len is_blank bytes)
past_blanks [] at = ap (tokens_from [] 0 false) (omega arith)
past_blanks (b ∷ rest) at = blank_turn b rest at (prefix_len is_blank rest) (is_blank b) refl (past_blanks rest (at + 1))

-- the end of the text
pub ends_here : (bytes : List ℕ) (numbered : Bool) (at : ℕ) → bytes ≡ [] → (rest : List ℕ) (behind : ℕ) → tokens_from bytes 0 numbered at ≡ told_from (record { what = w.End; at = at }) rest behind
unfolding tokens_from
ends_here [] numbered at e rest behind = refl
ends_here (b ∷ bytes) numbered at e rest behind = absurd (subst (λ bs. elim bs as (λ _. Type 0) [ [] ↦ ⊥ | x ∷ xs ↦ Unit {0} ]) e tt)

-- a token, where no blank stands
pub told : (bytes : List ℕ) (at : ℕ) (what : What) (n : ℕ) → 0 < length bytes → is_blank (slice_index bytes 0) ≡ false → (what, n) ≡ token_at (slice_index bytes 0) (drop 1 bytes) → 0 < n → n ≤ length bytes
    → tokens_from bytes 0 false at ≡ told_from (record { what = what; at = at }) (drop n bytes) (at + n)
unfolding tokens_from
told [] at what n some blank e moves within = absurd (omega (arith, some))
told (b ∷ rest) at what n some blank e moves within =
    let shape : What × ℕ → List Token = λ token. record { what = token.0; at = at } ∷ (if is_last token.0 then [] else tokens_from rest (token.1 - 1) (is_number token.0) (at + 1)) in
    let first : tokens_from (b ∷ rest) 0 false at ≡ shape (token_at b rest) = rw blank refl in
    let fits : n ≤ suc (length rest) = within in
    let passed : tokens_from rest (n - 1) (is_number what) (at + 1) ≡ tokens_from (drop n (b ∷ rest)) 0 (is_number what) (at + n) =
    past_token (n - 1) rest (is_number what) (at + 1) (omega (arith, fits)) ∙ ap (λ bytes. tokens_from bytes 0 (is_number what) (at + 1 + (n - 1))) (drop_one_less n b rest moves)
    ∙ ap (tokens_from (drop n (b ∷ rest)) 0 (is_number what)) (omega (arith, moves)) in
    let token : Token = record { what = what; at = at } in
    first ∙ ap shape (sym e) ∙ ap (λ more. token ∷ (if is_last what then [] else more)) passed

-- a letter right behind a number
pub spoiled : (bytes : List ℕ) (numbered : Bool) (at : ℕ) → (numbered && starts_name bytes) ≡ true → (rest : List ℕ) (behind : ℕ)
    → tokens_from bytes 0 numbered at ≡ told_from (record { what = w.Bad; at = at }) rest behind
unfolding tokens_from
spoiled [] true at e rest behind = absurd (subst (λ x. cond x ⊥ (Unit {0})) e tt)
spoiled [] false at e rest behind = absurd (subst (λ x. cond x ⊥ (Unit {0})) e tt)
spoiled (b ∷ bytes) numbered at e rest behind = rw e refl

-- none there
pub unspoiled : (bytes : List ℕ) (numbered : Bool) (at : ℕ) → (numbered && starts_name bytes) ≡ false → tokens_from bytes 0 numbered at ≡ tokens_from bytes 0 false at
unfolding tokens_from
unspoiled [] numbered at e = refl
unspoiled (b ∷ bytes) numbered at e = rw e refl

-- ---- the first token behind the blanks, of which there are n

behind_blanks : (bytes rest : List ℕ) (at n : ℕ) → n ≡ prefix_len is_blank bytes → rest ≡ drop n bytes → tokens_from bytes 0 false at ≡ tokens_from rest 0 false (at + n)
behind_blanks bytes rest at n count same = past_blanks bytes at ∙ ap (λ k. tokens_from (drop k bytes) 0 false (at + k)) (sym count) ∙ ap (λ bs. tokens_from bs 0 false (at + n)) (sym same)

not_blank : (bytes rest : List ℕ) (n : ℕ) → n ≡ prefix_len is_blank bytes → rest ≡ drop n bytes → 0 < length rest → is_blank (slice_index rest 0) ≡ false
not_blank bytes rest n count same some =
    let left : length rest ≡ length bytes - n = ap length same ∙ length-drop n bytes in
    let here : slice_index rest 0 ≡ get_or bytes (prefix_len is_blank bytes) 0 =
    ap (λ bs. get_or bs 0 0) same ∙ get_or-drop n bytes 0 0 ∙ ap (λ k. get_or bytes k 0) (let e : n + 0 ≡ n = omega arith in e ∙ count) in
    ap is_blank here ∙ prefix_len_stops is_blank bytes 0 (omega (arith, left, some, count))

pub first_end : (bytes rest : List ℕ) (at n : ℕ) → n ≡ prefix_len is_blank bytes → rest ≡ drop n bytes → length rest ≡ 0
    → tokens_from bytes 0 false at ≡ told_from (record { what = w.End; at = at + n }) rest (at + n)
first_end bytes rest at n count same none = behind_blanks bytes rest at n count same ∙ ends_here rest false (at + n) (nil_from_length rest none) rest (at + n)

pub first_told : (bytes rest behind : List ℕ) (at n : ℕ) (what : What) (more : ℕ) → n ≡ prefix_len is_blank bytes → rest ≡ drop n bytes → 0 < length rest
    → (what, more) ≡ token_at (slice_index rest 0) (drop 1 rest) → 0 < more → more ≤ length rest → behind ≡ drop more rest
    → tokens_from bytes 0 false at ≡ told_from (record { what = what; at = at + n }) behind (at + n + more)
first_told bytes rest behind at n what more count same some e moves within ahead =
    behind_blanks bytes rest at n count same ∙ told rest (at + n) what more some (not_blank bytes rest n count same some) e moves within
    ∙ ap (λ bs. told_from (record { what = what; at = at + n }) bs (at + n + more)) (sym ahead)
