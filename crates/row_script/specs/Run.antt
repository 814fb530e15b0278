-- What a run of a script has read, written and left on the disk, by how it ended.
use Rattle.std.specs.Prelude.{⊤, ◌≡◌, ℕ, ◌+◌, ◌<◌, ◌==◌, List, [], ◌∷◌, ◌++◌, length, take, Option, None, Some, count_by}
use Rattle.std.specs.Io.{StartsWith}
use Rattle.std.specs.Io.KnownBytes.{Appends}
use Rattle.qsr_value.specs.Causes.{count_after}
use Rattle.disk_model.specs.Image.{Image}
use Rattle.disk_model.specs.View.{View, EachImage, LeavesOnly}
use Rattle.row_script.specs.declared.end.End.{End}
use Rattle.row_script.specs.declared.end.End.TheVariants.{Finished, BadLine, Usage, Refused, NotStore, DiskFault, SourceFault, SinkFault, NoMemory}
use Rattle.row_script.specs.declared.reply.Reply.TheVariants.{BadLine as BadLineReply}
use Rattle.row_script.specs.declared.script_line.ScriptLine.{ScriptLine}
use Rattle.row_script.specs.declared.script_line.ScriptLine.TheVariants.{Row, Turn, Rows}
use Rattle.row_script.specs.Answers.{AreAnswers, IsPartOf}
use Rattle.row_script.specs.Ends.{EndsIn, end_text}
use Rattle.input_lines.specs.Lines.{lines_of}
use Rattle.row_script.specs.Machine.{count_listed, no_numbers, numbers_after}
use Rattle.row_script.specs.Replies.{reply_text_of}
use Rattle.row_script.specs.Rows.{HasSome, HasNumbers}
use Rattle.row_script.specs.Script.{script_lines_of}

-- how many lines end in these bytes
abbrev pub ends_in : List ℕ → ℕ
ends_in bytes = count_by (λ byte. byte == 10) bytes

-- The input of a run that has ended so after these lines: its first lines, of which none is bad.
--   finished: all lines, and no byte is left
--   bad line: all lines before the first bad one, and there is one
--   source fault: each line whose LF was read
abbrev pub ReadsTo : List ℕ → List ℕ → List ScriptLine → End → Type 0
ReadsTo bytes left done Finished = (length done ≡ length (lines_of bytes)) × (left ≡ [])
ReadsTo bytes left done BadLine = (length done ≡ length (script_lines_of bytes)) × (length done < length (lines_of bytes))
ReadsTo bytes left done SourceFault = length done + ends_in left ≡ ends_in bytes
ReadsTo bytes left done DiskFault = ⊤
ReadsTo bytes left done SinkFault = ⊤
ReadsTo bytes left done NoMemory = ⊤
ReadsTo bytes left done Usage = ⊥
ReadsTo bytes left done Refused = ⊥
ReadsTo bytes left done NotStore = ⊥

-- the lines that a run has come to: those that were served, and the one that it cut off
abbrev pub lines_come_to : List ScriptLine → Option ScriptLine → List ScriptLine
lines_come_to done None = done
lines_come_to done (Some line) = done ++ line ∷ []

-- these are the first lines of the script
abbrev pub IsFront : List ScriptLine → List ScriptLine → Type 0
IsFront lines script = take (length lines) script ≡ lines

-- the lines that a run has come to, by the bytes that its source had and has left, where it tells them
abbrev pub Reads : Option (List ℕ) → Option (List ℕ) → List ScriptLine → Option ScriptLine → End → Type 0
Reads None left done cut end = ⊤
Reads (Some bytes) None done cut end = ⊥
Reads (Some bytes) (Some left) done cut end = IsFront (lines_come_to done cut) (script_lines_of bytes) × ReadsTo bytes left done end

-- what a run says behind the answers
abbrev pub last_text : List ScriptLine → End → List ℕ
last_text done BadLine = reply_text_of (BadLineReply (length done + 1))
last_text done Finished = end_text Finished
last_text done Usage = end_text Usage
last_text done Refused = end_text Refused
last_text done NotStore = end_text NotStore
last_text done DiskFault = end_text DiskFault
last_text done SourceFault = end_text SourceFault
last_text done SinkFault = end_text SinkFault
last_text done NoMemory = end_text NoMemory

-- all that a run says that has served these lines, answered this text and ended so
abbrev pub whole_text : List ScriptLine → List ℕ → End → List ℕ
whole_text done said end = said ++ last_text done end

-- The sink was given a front of what a run says that has read so.
pub record IsCutOff (left left' : Option (List ℕ)) (done : List ScriptLine) (cut : Option ScriptLine) (said text : List ℕ) : Type 0 where
  pub end : End
  pub ends : EndsIn end cut
  pub reads : Reads left left' done cut end
  pub front : StartsWith (whole_text done said end) text

-- what the sink was given by a run that has read so, served these lines, answered this text and ended so
abbrev pub Writes : Option (List ℕ) → Option (List ℕ) → List ScriptLine → Option ScriptLine → List ℕ → End → List ℕ → Type 0
Writes left left' done cut said SinkFault text = IsCutOff left left' done cut said text
Writes left left' done cut said Finished text = text ≡ whole_text done said Finished
Writes left left' done cut said BadLine text = text ≡ whole_text done said BadLine
Writes left left' done cut said Usage text = text ≡ whole_text done said Usage
Writes left left' done cut said Refused text = text ≡ whole_text done said Refused
Writes left left' done cut said NotStore text = text ≡ whole_text done said NotStore
Writes left left' done cut said DiskFault text = text ≡ whole_text done said DiskFault
Writes left left' done cut said SourceFault text = text ≡ whole_text done said SourceFault
Writes left left' done cut said NoMemory text = text ≡ whole_text done said NoMemory

-- The disk's count of writes: one write for each row that is acknowledged. Within a `turn` that was cut off it is open.
abbrev pub HasWritten : Option ScriptLine → ℕ → ℕ → ℕ → Type 0
HasWritten None rows old new = new ≡ count_after rows old
HasWritten (Some (Row value)) rows old new = new ≡ count_after rows old
HasWritten (Some (Turn count)) rows old new = ⊤
HasWritten (Some Rows) rows old new = new ≡ count_after rows old

-- The disk's count of reads: one read for each row that was listed. Within a `rows` that was cut off it is open.
abbrev pub HasRead : Option ScriptLine → ℕ → ℕ → ℕ → Type 0
HasRead None rows old new = new ≡ count_after rows old
HasRead (Some (Row value)) rows old new = new ≡ count_after rows old
HasRead (Some (Turn count)) rows old new = new ≡ count_after rows old
HasRead (Some Rows) rows old new = ⊤

-- A run of a script over a disk of so many bytes, by what the source had and has left, what the sink had been given and
-- has, the disk, and the disk's counts of reads and writes.
pub record Ran (size : ℕ) (left_old left_new given_old given_new : Option (List ℕ)) (disk_old disk_new : View Image) (reads_old reads_new writes_old writes_new : ℕ) (end : End) : Type 0 where
  -- the lines that were served, and the answers to them
  pub done : List ScriptLine
  pub answers : List ℕ
  pub are_answers : AreAnswers disk_old.honest size no_numbers done answers
  -- the line that was cut off, if one was, and the part of its answer
  pub cut : Option ScriptLine
  pub part : List ℕ
  pub is_part : IsPartOf disk_old.honest size (numbers_after size no_numbers done) cut part
  pub ends : EndsIn end cut
  pub reads : Reads left_old left_new done cut end
  pub text : List ℕ
  pub gives : Appends given_old given_new text
  pub writes : Writes left_old left_new done cut (answers ++ part) end text
  -- a crash at any moment leaves the rows that are acknowledged after some of the lines
  pub crash : LeavesOnly disk_old disk_new (HasSome size done)
  -- and a crash now those that are acknowledged after all
  pub last : EachImage disk_new (HasNumbers (numbers_after size no_numbers done))
  pub written : HasWritten cut (numbers_after size no_numbers done).acknowledged writes_old writes_new
  pub read : HasRead cut (count_listed size no_numbers done) reads_old reads_new
