-- What the grammar sees of a token: its place stands there only where a query's tree keeps it.
use Rattle.std.specs.Prelude.{ℕ, ◌^◌, Bool, true, false, nat_lt, nat_le, List, Option, Some, None}
use Rattle.sql_tokens.specs.Text.{text_content}
pub use Rattle.sql_tokens.specs.Words.{letters_of}
use Rattle.sql_tokens.specs.declared.token.Keyword.{Keyword}
use Rattle.sql_tokens.specs.declared.token.Keyword.TheVariants as kw
use Rattle.sql_tokens.specs.declared.token.Token.{Token}
use Rattle.sql_tokens.specs.declared.token.What.{What}
use Rattle.sql_tokens.specs.declared.token.What.TheVariants as w
use Rattle.sql_front.specs.declared.words.Aggregate.{Aggregate}
use Rattle.sql_front.specs.declared.words.Aggregate.TheVariants as a
use Rattle.sql_front.specs.declared.words.Comparison.{Comparison}
use Rattle.sql_front.specs.declared.words.Comparison.TheVariants as c
use Rattle.grammar_laws.specs.Reading.{Words}

pub data Seen : Type 0 where
  Select : ℕ → Seen
  Fold : Aggregate → ℕ → Seen
  -- any other reserved word
  Word : Keyword → Seen
  -- a name's letters and its place
  Name : List ℕ → ℕ → Seen
  Number : ℕ → ℕ → Seen
  -- what a text says
  Text : List ℕ → Seen
  Sign : Comparison → ℕ → Seen
  Star : ℕ → Seen
  Minus : ℕ → Seen
  Comma Dot Open Close Semicolon Bad End : Seen

abbrev pub seen_word : Keyword → ℕ → Seen
seen_word kw.Select at = Select at
seen_word kw.Sum at = Fold a.Sum at
seen_word kw.Min at = Fold a.Min at
seen_word kw.Max at = Fold a.Max at
seen_word word at = Word word

-- what a token at this place of the text is seen as
abbrev pub seen_as : List ℕ → What → ℕ → Seen
seen_as text (w.Word word) at = seen_word word at
seen_as text (w.Name name) at = Name (letters_of name) at
seen_as text (w.Number n) at = Number n at
seen_as text (w.Text length) at = Text (text_content text at length)
seen_as text w.Comma at = Comma
seen_as text w.Dot at = Dot
seen_as text w.Open at = Open
seen_as text w.Close at = Close
seen_as text w.Star at = Star at
seen_as text w.Equal at = Sign c.Equal at
seen_as text w.Unequal at = Sign c.Unequal at
seen_as text w.Less at = Sign c.Less at
seen_as text w.AtMost at = Sign c.AtMost at
seen_as text w.More at = Sign c.More at
seen_as text w.AtLeast at = Sign c.AtLeast at
seen_as text w.Minus at = Minus at
seen_as text w.Semicolon at = Semicolon
seen_as text w.Bad at = Bad
seen_as text w.End at = End

abbrev pub seen : List ℕ → Token → Seen
seen text token = seen_as text token.what token.at

-- ---- literals

-- a number isn't in 128 signed bits, with a `-` before it or without
abbrev pub wide : Bool → ℕ → Bool
wide true n = nat_lt (2 ^ 127) n
wide false n = nat_le (2 ^ 127) n

abbrev pub minus_of : Seen → Option ℕ
minus_of (Minus at) = Some at
minus_of _ = None

abbrev pub too_wide : Bool → Seen → Bool
too_wide signed (Number n at) = wide signed n
too_wide signed _ = false

-- what a grammar asks of the tokens of a text
abbrev pub words : List ℕ → Words Seen Token
words text = record { what = seen text; at = λ token. token.at; minus = minus_of; too_wide = too_wide }
