-- An input as a script: its lines up to the first bad one.
use Rattle.std.specs.Prelude.{⊤, ◌≡◌, ℕ, ◌+◌, ◌&&◌, nat_le, List, [], ◌∷◌, length, Option, None, Some, if◌then◌else◌}
use Rattle.std.specs.Option.{option_map_or}
use Rattle.qsr_value.specs.declared.limits.TheConstants.{MAX_LINE, MAX_LINES}
use Rattle.row_script.specs.declared.script_line.ScriptLine.{ScriptLine}
use Rattle.row_script.specs.Grammar.{line_of}
use Rattle.input_lines.specs.Lines.{without_cr, InputLine, lines_of}

-- what the line of this number says, counted from 1; none where it is bad: where the LF is lacking, where it is too
-- long or one line too many, and where it is none of a script's
abbrev pub line_said : ℕ → InputLine → Option ScriptLine
line_said number line =
    if line.ended && nat_le (length line.text) MAX_LINE && nat_le number MAX_LINES then line_of (without_cr line.text) else None

-- the lines before the first bad one, of lines of which the first has this number
abbrev pub script_from : ℕ → List InputLine → List ScriptLine
script_from number [] = []
script_from number (line ∷ lines) = option_map_or (λ script_line. script_line ∷ script_from (number + 1) lines) (line_said number line) []

abbrev pub script_lines_of : List ℕ → List ScriptLine
script_lines_of bytes = script_from 1 (lines_of bytes)

-- after so many lines, the next one of the unread input is bad
pub record BeginsBad (served : ℕ) (unread : List ℕ) : Type 0 where
  pub line : InputLine
  pub rest : List InputLine
  pub first : lines_of unread ≡ line ∷ rest
  pub bad : line_said (served + 1) line ≡ None

-- the same, where the source tells its bytes
abbrev pub BeginsBadTold : ℕ → Option (List ℕ) → Type 0
BeginsBadTold served None = ⊤
BeginsBadTold served (Some unread) = BeginsBad served unread
