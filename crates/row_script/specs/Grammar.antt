-- What a line of a script says.
use Rattle.std.specs.Prelude.{ℕ, List, drop, Option, Some, None, codes, nat_eq, if◌then◌else◌}
use Rattle.std.specs.List.{starts_with}
use Rattle.std.specs.Option.{option_map}
use Rattle.std.specs.Cmp.Lexicographic.{pointwise}
use Rattle.row_script.specs.declared.script_line.ScriptLine.{ScriptLine}
use Rattle.row_script.specs.declared.script_line.ScriptLine.TheVariants.{Row, Turn, Rows}
use Rattle.qsr_value.specs.Number.{count_of, number_of}

-- `row V`
abbrev pub row_line_of : List ℕ → Option ScriptLine
row_line_of text = option_map Row (number_of text)

-- `turn N`
abbrev pub turn_of : List ℕ → Option ScriptLine
turn_of text = option_map Turn (count_of text)

-- `rows`
abbrev pub rows_of : List ℕ → Option ScriptLine
rows_of text = if pointwise nat_eq text (codes "rows") then Some Rows else None

abbrev pub line_of : List ℕ → Option ScriptLine
line_of text =
    if starts_with nat_eq text (codes "row ") then row_line_of (drop 4 text)
    else (if starts_with nat_eq text (codes "turn ") then turn_of (drop 5 text) else rows_of text)
