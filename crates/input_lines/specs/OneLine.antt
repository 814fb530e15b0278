-- The one line that an input is to be.
use Rattle.std.specs.Prelude.{⊤, ◌≡◌, ℕ, Bool, true, false, not, ◌&&◌, nat_lt, List, [], ◌∷◌, length, Option, Some, None, Result, Ok, Err}
use Rattle.std.specs.Str.{is_utf8}
use Rattle.qsr_value.specs.Causes.{RoseByOne}
use Rattle.qsr_value.specs.declared.limits.TheConstants.{MAX_LINE}
use Rattle.input_lines.specs.declared.line_fault.LineFault.{LineFault}
use Rattle.input_lines.specs.declared.line_fault.LineFault.TheVariants.{BadLine, Failed, Memory}
use Rattle.input_lines.specs.Lines.{InputLine, lines_of, text_of_line}

-- The text of the first line, which is to be UTF-8 and not too long, or its number.
abbrev pub text_or_one : Bool → List ℕ → Result (List ℕ) ℕ
text_or_one true text = Ok text
text_or_one false text = Err 1

abbrev pub first_text : InputLine → Result (List ℕ) ℕ
first_text line = text_or_one (not (nat_lt MAX_LINE (length line.text)) && is_utf8 (text_of_line line)) (text_of_line line)

-- the second line is a bad one, unless the first is
abbrev pub no_second : Result (List ℕ) ℕ → Result (List ℕ) ℕ
no_second (Ok text) = Err 2
no_second (Err number) = Err number

-- The text of the one line that these lines are, or the number of the first bad line. Where there is none it is empty.
abbrev pub only_line : List InputLine → Result (List ℕ) ℕ
only_line [] = Ok []
only_line (line ∷ []) = first_text line
only_line (line ∷ second ∷ lines) = no_second (first_text line)

-- what the one line of an input is, where the source tells its bytes
abbrev pub IsOnlyLine : Option (List ℕ) → Result (List ℕ) ℕ → Type 0
IsOnlyLine None read = ⊤
IsOnlyLine (Some bytes) read = only_line (lines_of bytes) ≡ read

-- Of a fault in the place of the line: a bad line is told only where the input has it, by its number; or a call has failed.
abbrev pub IsLineFault : (Result (List ℕ) ℕ → Type 0) → LineFault → Type 0
IsLineFault reads (BadLine number) = reads (Err number)
IsLineFault reads Failed = ⊤
IsLineFault reads Memory = ⊤

-- The source's count of faults rose by one where its fault is told, and else it stood.
abbrev pub LineCause : LineFault → ℕ → ℕ → Type 0
LineCause (BadLine number) source source' = source' ≡ source
LineCause Failed source source' = RoseByOne source source'
LineCause Memory source source' = source' ≡ source
