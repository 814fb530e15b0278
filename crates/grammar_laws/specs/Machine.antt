-- A machine with one step a token stands between a grammar and the code that reads it. A state is what has been read.
use Rattle.std.specs.Prelude.{◌≡◌, ℕ, Bool, true, false, not, if◌then◌else◌, List, [], ◌∷◌, ◌++◌, Option, Some, None, is_some, IfSome, Result, Ok, Err}
use Rattle.std.specs.Option.{option_and_then}
use Rattle.grammar_laws.specs.Reading.{Mark, Refusal, Words, refusal_at}

-- how a run over tokens ends
pub data Outcome (State : Type 0) : Type 0 where
  Read : State → Outcome State
  Stopped : Refusal → Outcome State

abbrev pub on_step : {State : Type 0} → (State → Outcome State) → Refusal → Option State → Outcome State
on_step more told None = Stopped told
on_step more told (Some st) = more st

abbrev pub same_bit : Bool → Bool → Bool
same_bit mine true = mine
same_bit mine false = not mine

module _ {What Token State : Type 0} (what : Token → What) (step : State → What → Option State) (limits : State → What → Bool)
    (answer : State → Token → List Token → Refusal) where
  -- from a state over tokens, up to the first that the state doesn't take or that its limits don't allow
  abbrev pub run : State → List Token → Outcome State
  run st [] = Read st
  run st (t ∷ ts) =
      if limits st (what t) then on_step (λ next. run next ts) (answer st t ts) (step st (what t))
      else Stopped (answer st t ts)

module _ {What State : Type 0} (step : State → What → Option State) (limits : State → What → Bool) where
  -- from a state over marks, also over what isn't allowed, where the state doesn't allow it either
  abbrev pub go : State → List (Mark What) → Option State
  go st [] = Some st
  go st (m ∷ ms) = if same_bit (limits st m.0) m.1 then option_and_then (λ next. go next ms) (step st m.0) else None

-- the outcome that a fault tells; want of memory tells nothing of it
abbrev pub at_fault : {State : Type 0} → Outcome State → Option Refusal → Outcome State
at_fault o None = o
at_fault o (Some told) = Stopped told

module _ {Fault State : Type 0} (tells : Fault → Option Refusal) where
  -- the outcome that a result tells, with the one that stands at want of memory
  abbrev pub outcome : {X : Type 0} → Outcome State → Result X Fault → (X → Outcome State) → Outcome State
  outcome o (Ok x) f = f x
  outcome o (Err e) f = at_fault o (tells e)

  -- a whole parser's equation: it reads the tree's last state, or stops as the fault tells
  abbrev pub Parses : {Value Tree Input : Type 0} → (State → Input → Outcome State) → State → (Tree → State) → (Value → Tree) → Input → Result Value Fault → Type 0
  Parses running start ended tree_of tokens result = running start tokens ≡ outcome (running start tokens) result (λ v. Read (ended (tree_of v)))

-- What makes a machine that of a grammar. `said` and `signed` are what a state says of the tokens before it: their marks, and
-- the place of a `-` where that is the last of them.
pub record Laws {What Token Tree State : Type 0} (words : Words What Token) (step : State → What → Option State) (limits : State → What → Bool)
    (answer : State → Token → List Token → Refusal) (spell : Tree → List (Mark What)) (start : State) (ended : Tree → State) : Type 0 where
  pub said : State → List (Mark What)
  pub signed : State → Option ℕ
  -- a tree's marks lead to its state, and to no other tree's
  pub goes : (tree : Tree) → go step limits start (spell tree) ≡ Some (ended tree)
  pub ended_once : (tree other : Tree) → ended tree ≡ ended other → tree ≡ other
  -- a step adds its token to what was read
  pub says : (st : State) (t : What) → IfSome (step st t) (λ next. said next ≡ said st ++ (t, limits st t) ∷ [])
  -- each state can be completed
  pub completed : (st : State) → (tree : Tree) × (rest : List (Mark What)) × (spell tree ≡ said st ++ rest)
  pub said_start : said start ≡ []
  pub said_ended : (tree : Tree) → said (ended tree) ≡ spell tree
  -- a state knows a `-` right before it, and a number that it takes is in 128 signed bits
  pub literals : (st : State) (t : What) → IfSome (step st t) (λ next.
      (signed next ≡ words.minus t) × (limits st t ≡ true → words.too_wide (is_some (signed st)) t ≡ false))
  pub signed_start : signed start ≡ None
  pub answers : (st : State) (t : Token) (behind : List Token) → answer st t behind ≡ refusal_at words (signed st) t behind

-- a grammar with its machine
pub record Machine (What Token Tree State : Type 0) : Type 0 where
  pub words : Words What Token
  pub spell : Tree → List (Mark What)
  pub start : State
  pub step : State → What → Option State
  pub limits : State → What → Bool
  pub answer : State → Token → List Token → Refusal
  pub ended : Tree → State
  pub laws : Laws words step limits answer spell start ended

-- the machine's run over tokens, from its first state
abbrev pub run_of : {What Token Tree State : Type 0} → Machine What Token Tree State → List Token → Outcome State
run_of m ts = run m.words.what m.step m.limits m.answer m.start ts
