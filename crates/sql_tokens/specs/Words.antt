-- Names, reserved words and numbers, by their bytes.
use Rattle.std.specs.Prelude.{ℕ, ◌+◌, ◌-◌, ◌*◌, ◌^◌, min, Bool, ◌||◌, ◌==◌, if◌then◌else◌, nat_le, List, [], ◌∷◌, ◌++◌, length, map, fold, replicate, take, codes, Option, Some, None}
use Rattle.std.specs.Char.{is_ascii_alphabetic, is_ascii_alphanumeric, to_ascii_lowercase}
use Rattle.std.specs.Str.{str_eq_ignore_ascii_case}
use Rattle.sql_tokens.specs.declared.token.Keyword.{Keyword}
use Rattle.sql_tokens.specs.declared.token.Keyword.TheVariants as k
use Rattle.sql_tokens.specs.declared.token.Name.{Name}
use Rattle.sql_tokens.specs.declared.token.What.{What}
use Rattle.sql_tokens.specs.declared.token.What.TheVariants as w

-- a space or a tab
abbrev pub is_blank : ℕ → Bool
is_blank b = b == 32 || b == 9

-- a letter or `_`
abbrev pub begins_name : ℕ → Bool
begins_name b = is_ascii_alphabetic b || b == 95

-- a letter, a digit or `_`
abbrev pub in_name : ℕ → Bool
in_name b = is_ascii_alphanumeric b || b == 95

-- the reserved words
abbrev pub reserved_words : List (List ℕ × Keyword)
reserved_words =
    (codes "select", k.Select) ∷ (codes "distinct", k.Distinct) ∷ (codes "from", k.From) ∷ (codes "join", k.Join) ∷ (codes "on", k.On)
    ∷ (codes "where", k.Where) ∷ (codes "and", k.And) ∷ (codes "or", k.Or) ∷ (codes "not", k.Not) ∷ (codes "group", k.Group)
    ∷ (codes "by", k.By) ∷ (codes "order", k.Order) ∷ (codes "asc", k.Asc) ∷ (codes "desc", k.Desc) ∷ (codes "limit", k.Limit)
    ∷ (codes "as", k.As) ∷ (codes "count", k.Count) ∷ (codes "sum", k.Sum) ∷ (codes "min", k.Min) ∷ (codes "max", k.Max)
    ∷ (codes "option", k.Option) ∷ []

-- the first of these words that has these letters, in any case
abbrev pub keyword_in : List (List ℕ × Keyword) → List ℕ → Option Keyword
keyword_in [] letters = None
keyword_in (word ∷ words) letters = if str_eq_ignore_ascii_case word.0 letters then Some word.1 else keyword_in words letters

unfoldable pub keyword_of : List ℕ → Option Keyword
keyword_of letters = keyword_in reserved_words letters

-- the name of at most 16 letters: small ones, and zeros up to 16 bytes
abbrev pub name_of : List ℕ → Name
name_of letters = record { len = length letters; bytes = map to_ascii_lowercase letters ++ replicate (16 - length letters) 0 }

-- the letters of a name
abbrev pub letters_of : Name → List ℕ
letters_of name = take name.len name.bytes

-- a reserved word, a name, or what is too long for a name
abbrev pub word_or : Option Keyword → List ℕ → What
word_or (Some keyword) letters = w.Word keyword
word_or None letters = if nat_le (length letters) 16 then w.Name (name_of letters) else w.Bad

abbrev pub word_of : List ℕ → What
word_of letters = word_or (keyword_of letters) letters

-- the value of digits
abbrev pub value_of_digits : List ℕ → ℕ
value_of_digits = fold (λ value digit. 10 * value + (digit - 48)) 0

-- a number's value, and 2 ^ 128 - 1 for a greater one
abbrev pub number_token : List ℕ → What
number_token digits = w.Number (min (value_of_digits digits) (2 ^ 128 - 1))
