-- The tokens of an SQL text.
use Rattle.std.specs.Prelude.{◌≡◌, ℕ, zero, suc, ◌+◌, ◌-◌, ◌≤◌, Bool, true, false, ◌&&◌, ◌==◌, if◌then◌else◌, List, [], ◌∷◌, length, slice_index, Option, Some, None}
use Rattle.std.specs.Char.{is_ascii_digit}
use Rattle.std.specs.List.{take_while}
use Rattle.sql_tokens.specs.declared.token.Token.{Token}
use Rattle.sql_tokens.specs.declared.token.What.{What}
use Rattle.sql_tokens.specs.declared.token.What.TheVariants as w
use Rattle.sql_tokens.specs.Text.{text_length, IsTextAt}
use Rattle.sql_tokens.specs.Words.{is_blank, begins_name, in_name, word_of, number_token}

-- ---- the token at the front of some bytes: what it is, and how many bytes it has

abbrev pub word_at : List ℕ → What × ℕ
word_at bytes = (word_of (take_while in_name bytes), length (take_while in_name bytes))

abbrev pub number_token_at : List ℕ → What × ℕ
number_token_at bytes = (number_token (take_while is_ascii_digit bytes), length (take_while is_ascii_digit bytes))

-- a text, by how many bytes stand behind its first mark
abbrev pub text_of : Option ℕ → What × ℕ
text_of None = (w.Bad, 1)
text_of (Some n) = (w.Text (1 + n), 1 + n)

-- `<`, and what stands behind it: `>` is 62, `=` is 61
abbrev pub less_at : ℕ → What × ℕ
less_at next = if next == 62 then (w.Unequal, 2) else (if next == 61 then (w.AtMost, 2) else (w.Less, 1))

-- `>`, and what stands behind it
abbrev pub more_at : ℕ → What × ℕ
more_at next = if next == 61 then (w.AtLeast, 2) else (w.More, 1)

-- the signs of one byte: `,` is 44, `.` 46, `(` 40, `)` 41, `*` 42, `=` 61, `-` 45, `;` 59
abbrev pub sign_of : ℕ → What
sign_of b =
    if b == 44 then w.Comma
    else (if b == 46 then w.Dot
    else (if b == 40 then w.Open
    else (if b == 41 then w.Close
    else (if b == 42 then w.Star
    else (if b == 61 then w.Equal
    else (if b == 45 then w.Minus
    else (if b == 59 then w.Semicolon
    else w.Bad)))))))

-- `<` is 60, `>` is 62; past the end of the text is 0
abbrev pub sign_at : ℕ → List ℕ → What × ℕ
sign_at b rest =
    if b == 60 then less_at (slice_index rest 0)
    else (if b == 62 then more_at (slice_index rest 0)
    else (sign_of b, 1))

-- the token that begins with this byte and goes on in the rest
unfoldable pub token_at : ℕ → List ℕ → What × ℕ
token_at b rest =
    if begins_name b then word_at (b ∷ rest)
    else (if is_ascii_digit b then number_token_at (b ∷ rest)
    else (if b == 39 then text_of (text_length false rest)
    else sign_at b rest))

-- a name could begin here
abbrev pub starts_name : List ℕ → Bool
starts_name [] = false
starts_name (b ∷ rest) = begins_name b

-- ---- all tokens

-- nothing follows it
abbrev pub is_last : What → Bool
is_last w.Bad = true
is_last w.End = true
is_last _ = false

abbrev pub is_number : What → Bool
is_number (w.Number _) = true
is_number _ = false

-- The tokens of these bytes, the first of which is at this place, once so many bytes are passed, which belong to a token that was
-- told. The flag says that the bytes stand right behind a number.
unfoldable pub tokens_from : List ℕ → ℕ → Bool → ℕ → List Token
tokens_from [] passed numbered at = record { what = w.End; at = at } ∷ []
tokens_from (b ∷ rest) (suc passed) numbered at = tokens_from rest passed numbered (at + 1)
tokens_from (b ∷ rest) zero numbered at =
    if numbered && begins_name b then record { what = w.Bad; at = at } ∷ []
    else (if is_blank b then tokens_from rest zero false (at + 1)
    else (let token = token_at b rest in
    record { what = token.0; at = at } ∷ (if is_last token.0 then [] else tokens_from rest (token.1 - 1) (is_number token.0) (at + 1))))

-- the tokens of a text
abbrev pub tokens_of : List ℕ → List Token
tokens_of text = tokens_from text 0 false 1

-- a token, and those that follow it in these bytes right behind it
abbrev pub told_from : Token → List ℕ → ℕ → List Token
told_from token rest at = token ∷ (if is_last token.what then [] else tokens_from rest 0 (is_number token.what) at)

-- ---- words of contracts and laws

-- the first token is neither the end nor bad
abbrev pub HasMore : List Token → Type 0
HasMore [] = ⊥
HasMore (token ∷ rest) = is_last token.what ≡ false

-- the first token stands at this place or behind it, and each other behind the one before it
abbrev pub PlacesRise : ℕ → List Token → Type 0
PlacesRise least [] = Unit {0}
PlacesRise least (token ∷ rest) = (least ≤ token.at) × PlacesRise (token.at + 1) rest

-- the last token is the end or bad, and no other is
abbrev pub EndsOnce : List Token → Type 0
EndsOnce [] = ⊥
EndsOnce (token ∷ []) = is_last token.what ≡ true
EndsOnce (token ∷ next ∷ rest) = (is_last token.what ≡ false) × EndsOnce (next ∷ rest)

-- where the token is a text, it stands at its place
abbrev pub StandsThere : List ℕ → What → ℕ → Type 0
StandsThere bytes (w.Text n) at = IsTextAt bytes at n
StandsThere bytes _ at = Unit {0}
