-- A script as a machine: what each line does to the numbers and what it is answered.
use Rattle.std.specs.Prelude.{ℕ, ℤ, ◌+◌, ◌*◌, ◌==◌, min, nat_le, List, [], ◌∷◌, ◌++◌, length, take, if◌then◌else◌}
use Rattle.row_script.specs.declared.reply.Reply.{Reply}
use Rattle.row_script.specs.declared.reply.Reply.TheVariants.{Added, TableFull, Paused, Done, Listed}
use Rattle.row_script.specs.declared.turns.TheConstants.{ROW_BYTES}
use Rattle.row_script.specs.declared.script_line.ScriptLine.{ScriptLine}
use Rattle.row_script.specs.declared.numbers.Numbers.{Numbers}
use Rattle.row_script.specs.declared.script_line.ScriptLine.TheVariants.{Row, Turn, Rows}

abbrev pub no_numbers : Numbers
no_numbers = record { rows = []; acknowledged = 0 }

-- what a line does: the numbers after it, the rows that it lists, and the reply
pub record Served : Type 0 where
  pub numbers : Numbers
  pub listed : List ℤ
  pub reply : Reply

-- how many rows are acknowledged after a turn
abbrev pub behind_turn : Numbers → ℕ → ℕ
behind_turn numbers count = min (length numbers.rows) (numbers.acknowledged + count)

-- one line, over a disk of so many bytes
abbrev pub serve : ℕ → Numbers → ScriptLine → Served
serve size numbers (Row value) =
    if nat_le (ROW_BYTES * (length numbers.rows + 1)) size
    then record { numbers = record { rows = numbers.rows ++ value ∷ []; acknowledged = numbers.acknowledged }; listed = []; reply = Added }
    else record { numbers = numbers; listed = []; reply = TableFull }
serve size numbers (Turn count) =
    let now = behind_turn numbers count in
    record {
      numbers = record { rows = numbers.rows; acknowledged = now };
      listed = [];
      reply = if now == length numbers.rows then Done now else Paused now;
    }
serve size numbers Rows =
    record { numbers = numbers; listed = take numbers.acknowledged numbers.rows; reply = Listed numbers.acknowledged }

-- the numbers after some lines
abbrev pub numbers_after : ℕ → Numbers → List ScriptLine → Numbers
numbers_after size numbers [] = numbers
numbers_after size numbers (line ∷ lines) = numbers_after size (serve size numbers line).numbers lines

-- how many rows some lines list
abbrev pub count_listed : ℕ → Numbers → List ScriptLine → ℕ
count_listed size numbers [] = 0
count_listed size numbers (line ∷ lines) = length (serve size numbers line).listed + count_listed size (serve size numbers line).numbers lines
