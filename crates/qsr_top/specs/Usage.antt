-- What the program does with words that name no command.
use Rattle.std.specs.Prelude.{◌≡◌, ◌⊎◌, ℕ, List, Option}
use Rattle.std.specs.Io.KnownBytes.{Appends}
use Rattle.qsr_io.specs.Given.{GivesFront}
use Rattle.row_script.specs.declared.end.End.{End}
use Rattle.row_script.specs.declared.end.End.TheVariants.{SinkFault}
use Rattle.row_script.specs.Ends.{end_text, status_of}

-- An end is said: its line was written and its status is answered, or the sink failed within the line.
abbrev pub Says : End → ℕ → Option (List ℕ) → Option (List ℕ) → Type 0
Says end status old new =
    ((status ≡ status_of end) × Appends old new (end_text end)) ⊎ ((status ≡ status_of SinkFault) × GivesFront old new (end_text end))
