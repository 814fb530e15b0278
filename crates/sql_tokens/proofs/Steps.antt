-- One turn of the loops over the reserved words and over the bytes of a text.
use Rattle.std.proofs.Common.{◌≡◌, refl, sym, ap, ◌∙◌, subst, ℕ, ◌+◌, ◌<◌, ◌==◌, Bool, true, false, cond, not, ◌&&◌, if◌then◌else◌, List, ◌∷◌, length, map, drop, get_or, slice_index, Option, Some, None, Bor, arith}
use Rattle.std.proofs.lemmas.List.{at_drop_more, get_or-map, length-map}
use Rattle.std.specs.Str.{str_eq_ignore_ascii_case}
use Rattle.sql_tokens.specs.declared.token.Keyword.{Keyword}
use Rattle.sql_tokens.specs.Text.{text_length, past}
use Rattle.sql_tokens.specs.Words.{keyword_in}

-- ---- reserved words

keyword_turn : (words : List (Bor (List ℕ) × Keyword)) (letters : List ℕ) (i : ℕ) (d : Bor (List ℕ) × Keyword) → i < length words →
    keyword_in (drop i (map (λ word. (word.0.now, word.1)) words)) letters
    ≡ (if str_eq_ignore_ascii_case (get_or words i d).0.now letters then Some (get_or words i d).1 else keyword_in (drop (i + 1) (map (λ word. (word.0.now, word.1)) words)) letters)
keyword_turn words letters i d h =
    let f : Bor (List ℕ) × Keyword → List ℕ × Keyword = λ word. (word.0.now, word.1) in
    at_drop_more (λ ws. keyword_in ws letters) (map f words) i (f d) (subst (λ n. i < n) (sym (length-map words f)) h)
    ∙ ap (λ word. keyword_in (word ∷ drop (i + 1) (map f words)) letters) (get_or-map f words i d (f d) h)

-- the word at this place has the letters
pub keyword_found : (words : List (Bor (List ℕ) × Keyword)) (letters : List ℕ) (i : ℕ) (d : Bor (List ℕ) × Keyword) → i < length words →
    str_eq_ignore_ascii_case (get_or words i d).0.now letters ≡ true → keyword_in (drop i (map (λ word. (word.0.now, word.1)) words)) letters ≡ Some (get_or words i d).1
keyword_found words letters i d h e = keyword_turn words letters i d h ∙ rw e refl

-- another word is looked for behind it
pub keyword_passed : (words : List (Bor (List ℕ) × Keyword)) (letters : List ℕ) (i : ℕ) (d : Bor (List ℕ) × Keyword) → i < length words →
    str_eq_ignore_ascii_case (get_or words i d).0.now letters ≡ false
    → keyword_in (drop i (map (λ word. (word.0.now, word.1)) words)) letters ≡ keyword_in (drop (i + 1) (map (λ word. (word.0.now, word.1)) words)) letters
keyword_passed words letters i d h e = keyword_turn words letters i d h ∙ rw e refl

-- ---- the bytes of a text

marked_turn : (rest : List ℕ) (is_mark : Bool) → (true && not is_mark) ≡ false → (if is_mark then past 1 (text_length false rest) else Some 0) ≡ past 1 (text_length (is_mark && false) rest)
marked_turn rest true e = refl
marked_turn rest false e = absurd (subst (λ x. cond x (Unit {0}) ⊥) e tt)

plain_turn : (rest : List ℕ) (is_mark : Bool) → past 1 (text_length is_mark rest) ≡ past 1 (text_length (is_mark && true) rest)
plain_turn rest true = refl
plain_turn rest false = refl

-- a byte at which the text doesn't end
byte_turn : (marked : Bool) (b : ℕ) (rest : List ℕ) → (marked && not (b == 39)) ≡ false → text_length marked (b ∷ rest) ≡ past 1 (text_length (b == 39 && not marked) rest)
byte_turn true b rest e = marked_turn rest (b == 39) e
byte_turn false b rest e = plain_turn rest (b == 39)

past_more : (n : ℕ) (o : Option ℕ) → past n (past 1 o) ≡ past (n + 1) o
past_more n None = refl
past_more n (Some m) = ap Some (omega arith)

pub text_passed : (marked : Bool) (rest : List ℕ) (at : ℕ) → at < length rest → (marked && not (slice_index rest at == 39)) ≡ false
    → past at (text_length marked (drop at rest)) ≡ past (at + 1) (text_length (slice_index rest at == 39 && not marked) (drop (at + 1) rest))
text_passed marked rest at h e =
    ap (past at) (at_drop_more (text_length marked) rest at 0 h ∙ byte_turn marked (get_or rest at 0) (drop (at + 1) rest) e)
    ∙ past_more at (text_length (get_or rest at 0 == 39 && not marked) (drop (at + 1) rest))
