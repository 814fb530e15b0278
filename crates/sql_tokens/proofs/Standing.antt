-- Each text among the tokens of any text stands at its place.
use Rattle.std.proofs.Common.{◌≡◌, refl, sym, ap, ◌∙◌, subst, ℕ, zero, suc, ◌+◌, ◌-◌, ◌<◌, ◌==◌, Bool, true, false, ◌&&◌, if◌then◌else◌, nat_le, List, [], ◌∷◌, ◌++◌, length, drop, slice_index, Option, Some, None, option_map, arith, true-eqb}
use Rattle.std.specs.Char.{is_ascii_digit}
use Rattle.std.specs.List.{take_while}
use Rattle.std.proofs.lemmas.List.{drop_more, length-drop}
use Rattle.sql_tokens.specs.declared.token.Keyword.{Keyword}
use Rattle.sql_tokens.specs.declared.token.Token.{Token}
use Rattle.sql_tokens.specs.declared.token.What.{What}
use Rattle.sql_tokens.specs.Text.{text_length}
use Rattle.sql_tokens.specs.Tokens.{tokens_from, token_at, text_of, less_at, more_at, sign_of, sign_at, is_last, is_number, StandsThere}
use Rattle.sql_tokens.specs.Words.{is_blank, begins_name, in_name, keyword_of, word_or}
use Rattle.sql_tokens.proofs.Order.{choose}

-- ---- a byte at its place

some_left : (text : List ℕ) (i b : ℕ) (rest : List ℕ) → drop i text ≡ b ∷ rest → i < length text
some_left text i b rest e = let n : length text - i ≡ suc (length rest) = sym (length-drop i text) ∙ ap length e in omega (arith, n)

byte_at : (text : List ℕ) (i b : ℕ) (rest : List ℕ) → drop i text ≡ b ∷ rest → slice_index text i ≡ b
byte_at text i b rest e = let more = drop_more text i 0 (some_left text i b rest e) in cc

behind : (text : List ℕ) (i b : ℕ) (rest : List ℕ) → drop i text ≡ b ∷ rest → drop (i + 1) text ≡ rest
behind text i b rest e = let more = drop_more text i 0 (some_left text i b rest e) in cc

-- ---- the token at the front of what stands behind i bytes

abbrev Stands : List ℕ → ℕ → What × ℕ → Type 0
Stands text i scanned = StandsThere text scanned.0 (i + 1)

word_stands : (text : List ℕ) (i : ℕ) (found : Option Keyword) (letters : List ℕ) (n : ℕ) → Stands text i (word_or found letters, n)
word_stands text i (Some keyword) letters n = tt
word_stands text i None letters n = choose (λ what. Stands text i (what, n)) (nat_le (length letters) 16) _ _ tt tt

text_stands : (text : List ℕ) (i : ℕ) (rest : List ℕ) → drop i text ≡ 39 ∷ rest → (found : Option ℕ) → text_length false rest ≡ found → Stands text i (text_of found)
text_stands text i rest e None is = tt
text_stands text i rest e (Some n) is = record {
  counted = omega arith;
  begins = let here : i + 1 - 1 ≡ i = omega arith in ap (slice_index text) here ∙ byte_at text i 39 rest e;
  ends = ap (λ bytes. option_map (λ m. 1 + m) (text_length false bytes)) (behind text i 39 rest e) ∙ ap (option_map (λ m. 1 + m)) is;
}

less_stands : (text : List ℕ) (i next : ℕ) → Stands text i (less_at next)
less_stands text i next = choose (Stands text i) (next == 62) _ _ tt (choose (Stands text i) (next == 61) _ _ tt tt)

more_stands : (text : List ℕ) (i next : ℕ) → Stands text i (more_at next)
more_stands text i next = choose (Stands text i) (next == 61) _ _ tt tt

sign_stands : (text : List ℕ) (i b n : ℕ) → Stands text i (sign_of b, n)
sign_stands text i b n =
    let Here : What → Type 0 = λ what. Stands text i (what, n) in
    choose Here (b == 44) _ _ tt
    (choose Here (b == 46) _ _ tt
    (choose Here (b == 40) _ _ tt
    (choose Here (b == 41) _ _ tt
    (choose Here (b == 42) _ _ tt
    (choose Here (b == 61) _ _ tt
    (choose Here (b == 45) _ _ tt
    (choose Here (b == 59) _ _ tt tt)))))))

other_stands : (text : List ℕ) (i b : ℕ) (rest : List ℕ) → Stands text i (sign_at b rest)
other_stands text i b rest =
    choose (Stands text i) (b == 60) _ _ (less_stands text i (slice_index rest 0))
    (choose (Stands text i) (b == 62) _ _ (more_stands text i (slice_index rest 0)) (sign_stands text i b 1))

mark_or_other : (text : List ℕ) (i b : ℕ) (rest : List ℕ) → drop i text ≡ b ∷ rest → (x : Bool) → (b == 39) ≡ x
    → Stands text i (if x then text_of (text_length false rest) else sign_at b rest)
mark_or_other text i b rest e false is = other_stands text i b rest
mark_or_other text i b rest e true is =
    text_stands text i rest (e ∙ ap (λ c. c ∷ rest) (true-eqb b 39 (sym is))) (text_length false rest) refl

front_stands : (text : List ℕ) (i b : ℕ) (rest : List ℕ) → drop i text ≡ b ∷ rest → Stands text i (token_at b rest)
unfolding token_at
front_stands text i b rest e =
    let letters = take_while in_name (b ∷ rest) in
    choose (Stands text i) (begins_name b) _ _ (word_stands text i (keyword_of letters) letters (length letters))
    (choose (Stands text i) (is_ascii_digit b) _ _ tt (mark_or_other text i b rest e (b == 39) refl))

-- ---- all tokens

abbrev EachStands : List ℕ → List Token → Type 0
EachStands text [] = Unit {0}
EachStands text (token ∷ rest) = StandsThere text token.what token.at × EachStands text rest

each_stands : (text bytes : List ℕ) (i passed : ℕ) (numbered : Bool) → drop i text ≡ bytes → EachStands text (tokens_from bytes passed numbered (i + 1))
unfolding tokens_from
each_stands text [] i passed numbered e = (tt, tt)
each_stands text (b ∷ rest) i (suc passed) numbered e = each_stands text rest (i + 1) passed numbered (behind text i b rest e)
each_stands text (b ∷ rest) i zero numbered e =
    choose (EachStands text) (numbered && begins_name b) _ _ (tt, tt)
    (choose (EachStands text) (is_blank b) _ _ (each_stands text rest (i + 1) 0 false (behind text i b rest e)) (
      front_stands text i b rest e,
      choose (EachStands text) (is_last (token_at b rest).0) _ _ tt
          (each_stands text rest (i + 1) ((token_at b rest).1 - 1) (is_number (token_at b rest).0) (behind text i b rest e)),
    ))

one_of : (text : List ℕ) (before : List Token) (token : Token) (rest : List Token) → EachStands text (before ++ token ∷ rest) → StandsThere text token.what token.at
one_of text [] token rest all = all.0
one_of text (first ∷ before) token rest all = one_of text before token rest all.1

pub stands : (text : List ℕ) (before : List Token) (token : Token) (rest : List Token) → tokens_from text 0 false 1 ≡ before ++ token ∷ rest
    → StandsThere text token.what token.at
stands text before token rest e = one_of text before token rest (subst (EachStands text) e (each_stands text text 0 0 false refl))
