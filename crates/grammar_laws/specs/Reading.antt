-- What it is that tokens are a text, that they can go on, and that they are refused, for any grammar. A grammar is a type of
-- trees, a constructor for each way that it allows, with `spell`: the marks of a tree.
use Rattle.std.specs.Prelude.{◌≡◌, ℕ, Bool, true, false, if◌then◌else◌, List, [], ◌∷◌, ◌++◌, map, Option, Some, None, is_some, IfSome, Result, IfOk, IfErr, MatchResult, ◌⊎◌, ⊤}
use Rattle.std.specs.Option.{unwrap_or}

-- a token, and whether the limits allow it where it stands
abbrev pub Mark : Type 0 → Type 0
Mark What = What × Bool

-- these tokens, each allowed
abbrev pub allowed : {What : Type 0} → List What → List (Mark What)
allowed = map (λ t. (t, true))

-- why tokens are no text: the place of what can't continue, or of a literal whose value isn't in 128 signed bits
pub data Refusal : Type 0 where
  Syntax : ℕ → Refusal
  WideLiteral : ℕ → Refusal

-- What is asked of a token: what it is and where it stands; the place of a `-`, if it is one; and whether it is a number
-- whose value isn't in 128 signed bits, with a `-` before it (`true`) or without.
pub record Words (What Token : Type 0) : Type 0 where
  pub what : Token → What
  pub at : Token → ℕ
  pub minus : What → Option ℕ
  pub too_wide : Bool → What → Bool

-- of the place of a literal that is too wide, if there is one, else of a token's place
abbrev pub refusal_of : Option ℕ → ℕ → Refusal
refusal_of None at = Syntax at
refusal_of (Some place) at = WideLiteral place

module _ {What Token : Type 0} (words : Words What Token) where
  abbrev pub whats : List Token → List What
  whats = map words.what

  -- the place of a `-` that is the last of these tokens, or that stands before them where there are none
  abbrev pub last_minus : Option ℕ → List What → Option ℕ
  last_minus signed [] = signed
  last_minus signed (t ∷ ts) = last_minus (words.minus t) ts

  -- each literal in these tokens has a value in 128 signed bits; `signed` is the place of a `-` right before them
  abbrev pub LiteralsFit : Option ℕ → List What → Type 0
  LiteralsFit signed [] = ⊤
  LiteralsFit signed (t ∷ ts) = (words.too_wide (is_some signed) t ≡ false) × LiteralsFit (words.minus t) ts

  -- the place of a `-`, where a number is the next token that is too wide behind it
  abbrev pub wide_behind : Option ℕ → List Token → Option ℕ
  wide_behind None more = None
  wide_behind (Some place) [] = None
  wide_behind (Some place) (number ∷ more) = if words.too_wide true (words.what number) then Some place else None

  -- The place of the literal that stands at this token and isn't in 128 signed bits: the token is its number, behind a `-` at
  -- the place `signed` if there is one, or the token is its `-`.
  abbrev pub wide_literal : Option ℕ → Token → List Token → Option ℕ
  wide_literal signed token behind =
      if words.too_wide (is_some signed) (words.what token) then Some (unwrap_or signed (words.at token))
      else wide_behind (words.minus (words.what token)) behind

  -- the refusal at a token that can't continue: that of the literal that stands there, if it is too wide, else its own place
  abbrev pub refusal_at : Option ℕ → Token → List Token → Refusal
  refusal_at signed token behind = refusal_of (wide_literal signed token behind) (words.at token)

module _ {What Tree : Type 0} (spell : Tree → List (Mark What)) where
  -- the tokens are the text with this tree
  abbrev pub IsText : List What → Tree → Type 0
  IsText ts tree = spell tree ≡ allowed ts

  -- the tokens are the beginning of some text
  abbrev pub CanGoOn : List What → Type 0
  CanGoOn ts = (tree : Tree) × (rest : List (Mark What)) × (spell tree ≡ allowed ts ++ rest)

module _ {What Token Tree : Type 0} (words : Words What Token) (spell : Tree → List (Mark What)) where
  -- The tokens can go on up to a token that can't continue, and this is the refusal there.
  pub record Refuses (ts : List Token) (told : Refusal) : Type 0 where
    pub before : List Token
    pub token : Token
    pub behind : List Token
    pub whole : ts ≡ before ++ token ∷ behind
    pub goes : CanGoOn spell (whats words before)
    pub stops : ¬ CanGoOn spell (whats words before ++ words.what token ∷ [])
    -- no literal before it is too wide
    pub fit : LiteralsFit words None (whats words before)
    pub here : told ≡ refusal_at words (last_minus words None (whats words before)) token behind

  -- What a parser's contract says. `tree_of` is the tree of its value, `tells` the refusal that a fault tells, or none for want
  -- of memory.
  module _ {Value Fault : Type 0} (tree_of : Value → Tree) (tells : Fault → Option Refusal) where
    -- what is read is written so
    abbrev pub Found : List Token → Result Value Fault → Type 0
    Found ts result = IfOk result (λ v. IsText spell (whats words ts) (tree_of v))

    -- what is written so is read, unless memory runs out
    abbrev pub Only : List Token → Result Value Fault → Type 0
    Only ts result = (tree : Tree) → IsText spell (whats words ts) tree → MatchResult result (λ v. tree_of v ≡ tree) (λ e. tells e ≡ None)

    -- what is refused is refused so
    abbrev pub Refused : List Token → Result Value Fault → Type 0
    Refused ts result = IfErr result (λ e. IfSome (tells e) (Refuses ts))

    -- what is to be refused so is, unless memory runs out
    abbrev pub OnlyRefused : List Token → Result Value Fault → Type 0
    OnlyRefused ts result = (told : Refusal) → Refuses ts told → MatchResult result (λ v. ⊥) (λ e. (tells e ≡ None) ⊎ (tells e ≡ Some told))
