-- The statuses of the process, and what is said of each end.
use Rattle.std.specs.Prelude.{⊤, ◌≡◌, ◌⊎◌, ℕ, ◌≤◌, List, [], Option, None, Some, codes}
use Rattle.qsr_value.specs.Causes.{RoseByOne}
use Rattle.row_script.specs.declared.end.End.{End}
use Rattle.row_script.specs.declared.end.End.TheVariants.{Finished, BadLine, Usage, Refused, NotStore, DiskFault, SourceFault, SinkFault, NoMemory}
use Rattle.row_script.specs.declared.script_line.ScriptLine.{ScriptLine}
use Rattle.row_script.specs.declared.script_line.ScriptLine.TheVariants.{Row, Turn, Rows}

abbrev pub status_of : End → ℕ
status_of Finished = 0
status_of BadLine = 1
status_of Usage = 2
status_of Refused = 8
status_of NotStore = 7
status_of DiskFault = 3
status_of SourceFault = 4
status_of SinkFault = 5
status_of NoMemory = 6

-- the line that is written of an end behind the replies
abbrev pub end_text : End → List ℕ
end_text Finished = []
end_text BadLine = []
end_text Usage = codes "usage: qsr FILE COMMAND\n"
end_text Refused = []
end_text NotStore = []
end_text DiskFault = codes "disk fault\n"
end_text SourceFault = codes "source fault\n"
end_text SinkFault = []
end_text NoMemory = codes "no memory\n"

-- a count that stood, or rose by one
abbrev pub RoseOnceAtMost : ℕ → ℕ → Type 0
RoseOnceAtMost old new = (new ≡ old) ⊎ RoseByOne old new

-- The cause of an end of a script, by the counts of faults of its disk, its source and its sink before and after: one of
-- them rose by one where its fault is told, and else each stood. So no fault is passed over; only where the sink has
-- failed can one of the disk or the source have come before, which can't be told any more.
abbrev pub EndCausedBy : End → ℕ → ℕ → ℕ → ℕ → ℕ → ℕ → Type 0
EndCausedBy Finished disk disk' source source' sink sink' = (disk' ≡ disk) × (source' ≡ source) × (sink' ≡ sink)
EndCausedBy BadLine disk disk' source source' sink sink' = (disk' ≡ disk) × (source' ≡ source) × (sink' ≡ sink)
EndCausedBy NoMemory disk disk' source source' sink sink' = (disk' ≡ disk) × (source' ≡ source) × (sink' ≡ sink)
EndCausedBy DiskFault disk disk' source source' sink sink' = RoseByOne disk disk' × (source' ≡ source) × (sink' ≡ sink)
EndCausedBy SourceFault disk disk' source source' sink sink' = (disk' ≡ disk) × RoseByOne source source' × (sink' ≡ sink)
EndCausedBy SinkFault disk disk' source source' sink sink' = RoseOnceAtMost disk disk' × RoseOnceAtMost source source' × RoseByOne sink sink'
EndCausedBy Usage disk disk' source source' sink sink' = ⊥
EndCausedBy Refused disk disk' source source' sink sink' = ⊥
EndCausedBy NotStore disk disk' source source' sink sink' = ⊥

-- the cause of an end of a line, by the counts of the disk and the sink
abbrev pub CausedByLine : End → ℕ → ℕ → ℕ → ℕ → Type 0
CausedByLine Finished disk disk' sink sink' = (disk' ≡ disk) × (sink' ≡ sink)
CausedByLine BadLine disk disk' sink sink' = (disk' ≡ disk) × (sink' ≡ sink)
CausedByLine NoMemory disk disk' sink sink' = (disk' ≡ disk) × (sink' ≡ sink)
CausedByLine DiskFault disk disk' sink sink' = RoseByOne disk disk' × (sink' ≡ sink)
CausedByLine SinkFault disk disk' sink sink' = (disk' ≡ disk) × RoseByOne sink sink'
CausedByLine SourceFault disk disk' sink sink' = ⊥
CausedByLine Usage disk disk' sink sink' = ⊥
CausedByLine Refused disk disk' sink sink' = ⊥
CausedByLine NotStore disk disk' sink sink' = ⊥

-- the cause of an end of a turn
abbrev pub CutsTurn : End → ℕ → ℕ → Type 0
CutsTurn NoMemory disk disk' = disk' ≡ disk
CutsTurn DiskFault disk disk' = RoseByOne disk disk'
CutsTurn Finished disk disk' = ⊥
CutsTurn BadLine disk disk' = ⊥
CutsTurn SourceFault disk disk' = ⊥
CutsTurn SinkFault disk disk' = ⊥
CutsTurn Usage disk disk' = ⊥
CutsTurn Refused disk disk' = ⊥
CutsTurn NotStore disk disk' = ⊥

-- Where a run has ended so: within a line, which it cut off, or between two lines.
--   a fault of the disk comes within a line that calls it
abbrev pub EndsIn : End → Option ScriptLine → Type 0
EndsIn Finished cut = cut ≡ None
EndsIn BadLine cut = cut ≡ None
EndsIn SourceFault cut = cut ≡ None
EndsIn DiskFault None = ⊥
EndsIn DiskFault (Some (Row value)) = ⊥
EndsIn DiskFault (Some (Turn count)) = ⊤
EndsIn DiskFault (Some Rows) = ⊤
EndsIn SinkFault cut = ⊤
EndsIn NoMemory cut = ⊤
EndsIn Usage cut = ⊥
EndsIn Refused cut = ⊥
EndsIn NotStore cut = ⊥

-- The cause of a status, by the counts of faults of the disk, the source and the sink before and after: a fault is told only
-- where that count rose by one, and where a count rose its fault is told, or that of the sink.
pub record StatusCause (status disk disk' source source' sink sink' : ℕ) : Type 0 where
  pub disk_fault : status ≡ status_of DiskFault → RoseByOne disk disk'
  pub disk_told : (status ≡ status_of DiskFault) ⊎ (status ≡ status_of SinkFault) ⊎ (disk' ≡ disk)
  pub source_fault : status ≡ status_of SourceFault → RoseByOne source source'
  pub source_told : (status ≡ status_of SourceFault) ⊎ (status ≡ status_of SinkFault) ⊎ (source' ≡ source)
  pub sink_fault : status ≡ status_of SinkFault → RoseByOne sink sink'
  pub sink_told : (status ≡ status_of SinkFault) ⊎ (sink' ≡ sink)
  pub usage : status ≡ status_of Usage → ⊥
  pub disk_count : disk ≤ disk'
  pub source_count : source ≤ source'
  pub sink_count : sink ≤ sink'
