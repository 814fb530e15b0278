-- A reserved word is looked for among those of its length.
use Rattle.std.proofs.Common.{◌≡◌, ◌≢◌, refl, sym, ap, ◌∙◌, ℕ, ◌==◌, Bool, true, false, cond, if◌then◌else◌, List, [], ◌∷◌, length, map, Some, None, ne_eqb, arith}
use Rattle.std.specs.List.{filter}
use Rattle.std.specs.Str.{str_eq_ignore_ascii_case}
use Rattle.std.specs.Char.{to_ascii_lowercase}
use Rattle.std.proofs.lemmas.List.{length-map}
use Rattle.std.proofs.lemmas.Slice.Eq.{bytes_eq-Decides}
use Rattle.sql_tokens.specs.declared.token.Keyword.{Keyword}
use Rattle.sql_tokens.specs.Words.{keyword_in, keyword_of, reserved_words}

-- words of another length differ
differs : (word letters : List ℕ) → (length word == length letters) ≡ false → str_eq_ignore_ascii_case word letters ≡ false
differs word letters e = grind (arith, e, bytes_eq-Decides (map to_ascii_lowercase word) (map to_ascii_lowercase letters), length-map word to_ascii_lowercase, length-map letters to_ascii_lowercase)

-- the words of so many letters
abbrev OfLength : ℕ → List (List ℕ × Keyword) → List (List ℕ × Keyword)
OfLength n words = filter (λ word. length word.0 == n) words

-- a word is found among those of its length, or not at all
among : (words : List (List ℕ × Keyword)) (letters : List ℕ) → keyword_in words letters ≡ keyword_in (OfLength (length letters) words) letters
among [] letters = refl
among (word ∷ words) letters = by (length word.0 == length letters) refl (among words letters)
  where
    by : (x : Bool) → (length word.0 == length letters) ≡ x → keyword_in words letters ≡ keyword_in (OfLength (length letters) words) letters
        → keyword_in (word ∷ words) letters ≡ keyword_in (cond x (word ∷ OfLength (length letters) words) (OfLength (length letters) words)) letters
    by true e more = ap (λ found. if str_eq_ignore_ascii_case word.0 letters then Some word.1 else found) more
    by false e more = rw (differs word.0 letters e) more

-- the reserved words of one length are enough
pub of_length : (n : ℕ) (letters : List ℕ) → length letters ≡ n → keyword_of letters ≡ keyword_in (OfLength n reserved_words) letters
unfolding keyword_of
of_length n letters e = among reserved_words letters ∙ ap (λ m. keyword_in (OfLength m reserved_words) letters) e

-- none has another length than these
pub of_other_length : (letters : List ℕ) → length letters ≢ 2 → length letters ≢ 3 → length letters ≢ 4 → length letters ≢ 5 → length letters ≢ 6 → length letters ≢ 8
    → keyword_of letters ≡ None
of_other_length letters two three four five six eight =
    of_length (length letters) letters refl
    ∙ rw (apart 2 two) (rw (apart 3 three) (rw (apart 4 four) (rw (apart 5 five) (rw (apart 6 six) (rw (apart 8 eight) refl)))))
  where
    apart : (n : ℕ) → length letters ≢ n → (n == length letters) ≡ false
    apart n e = ne_eqb n (length letters) (λ same. e (sym same))
