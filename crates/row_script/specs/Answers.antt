-- What the lines of a script are answered: the rows that a line lists, as the disk gives them, and then its reply.
use Rattle.std.specs.Prelude.{◌≡◌, ℕ, ℤ, ◌≤◌, List, [], ◌∷◌, ◌++◌, length, take, Option, None, Some}
use Rattle.disk_model.specs.Image.{Image}
use Rattle.disk_model.specs.View.{View, EachImage}
use Rattle.row_script.specs.declared.script_line.ScriptLine.{ScriptLine}
use Rattle.row_script.specs.declared.numbers.Numbers.{Numbers}
use Rattle.row_script.specs.Machine.{serve}
use Rattle.row_script.specs.Replies.{rows_text, reply_text_of}
use Rattle.row_script.specs.Rows.{HasNumbers}

-- The disk answers as it was written, and the rows of the numbers stand on it.
pub record Tells (disk : View Image) (numbers : Numbers) : Type 0 where
  pub honest : disk.honest
  pub rows : EachImage disk (HasNumbers numbers)

-- The values that are listed for these rows: the rows, where the disk tells them, and as many values in any case.
pub record ListsRows (tells : Type 0) (rows values : List ℤ) : Type 0 where
  pub count : length values ≡ length rows
  pub are : tells → values ≡ rows

-- the values that were listed so far, for the first of these rows
pub record ListsFront (tells : Type 0) (rows values : List ℤ) : Type 0 where
  pub count : length values ≤ length rows
  pub are : tells → values ≡ take (length values) rows

-- the answer to a line
pub record IsLineAnswer (tells : Type 0) (size : ℕ) (numbers : Numbers) (line : ScriptLine) (text : List ℕ) : Type 0 where
  pub values : List ℤ
  pub lists : ListsRows tells (serve size numbers line).listed values
  pub whole : text ≡ rows_text values ++ reply_text_of (serve size numbers line).reply

-- The answer to a line that was cut off: whole lines of the rows that it lists, from the first on.
pub record IsPart (tells : Type 0) (size : ℕ) (numbers : Numbers) (line : ScriptLine) (text : List ℕ) : Type 0 where
  pub values : List ℤ
  pub lists : ListsFront tells (serve size numbers line).listed values
  pub whole : text ≡ rows_text values

-- a text in two parts
pub record Joins (First Rest : List ℕ → Type 0) (text : List ℕ) : Type 0 where
  pub first : List ℕ
  pub rest : List ℕ
  pub is_first : First first
  pub is_rest : Rest rest
  pub whole : text ≡ first ++ rest

-- the answers to some lines, in order
abbrev pub AreAnswers : Type 0 → ℕ → Numbers → List ScriptLine → List ℕ → Type 0
AreAnswers tells size numbers [] text = text ≡ []
AreAnswers tells size numbers (line ∷ lines) text =
    Joins (IsLineAnswer tells size numbers line) (AreAnswers tells size (serve size numbers line).numbers lines) text

-- the same of the line that was cut off, if one was
abbrev pub IsPartOf : Type 0 → ℕ → Numbers → Option ScriptLine → List ℕ → Type 0
IsPartOf tells size numbers None text = text ≡ []
IsPartOf tells size numbers (Some line) text = IsPart tells size numbers line text
