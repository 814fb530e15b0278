-- Where a run of a script stands between two lines.
use Rattle.std.specs.Prelude.{⊤, ◌≡◌, ◌⊎◌, ℕ, ◌+◌, List, [], ◌∷◌, ◌++◌, length, Option, None, Some}
use Rattle.std.specs.Io.{StartsWith}
use Rattle.std.specs.Io.KnownBytes.{Appends}
use Rattle.qsr_value.specs.Causes.{count_after}
use Rattle.disk_model.specs.Image.{Image}
use Rattle.disk_model.specs.View.{View, EachImage, LeavesOnly}
use Rattle.row_script.specs.declared.end.End.{End}
use Rattle.row_script.specs.declared.end.End.TheVariants.{Finished, BadLine, Usage, Refused, NotStore, DiskFault, SourceFault, SinkFault, NoMemory}
use Rattle.row_script.specs.declared.script_line.ScriptLine.{ScriptLine}
use Rattle.row_script.specs.declared.numbers.Numbers.{Numbers}
use Rattle.row_script.specs.Answers.{AreAnswers, IsLineAnswer, IsPart, IsPartOf}
use Rattle.row_script.specs.Ends.{EndsIn, end_text}
use Rattle.input_lines.specs.Lines.{lines_of}
use Rattle.row_script.specs.Machine.{count_listed, no_numbers, serve, numbers_after}
use Rattle.row_script.specs.Rows.{HasSome, HasNumbers, WritesRows}
use Rattle.row_script.specs.Run.{ends_in, whole_text, HasRead, HasWritten, IsCutOff, Reads, Writes}
use Rattle.row_script.specs.Script.{script_from, script_lines_of}

-- These lines were served of the input, and these bytes are unread.
pub record IsAt (bytes unread : List ℕ) (done : List ScriptLine) : Type 0 where
  pub script : done ++ script_from (length done + 1) (lines_of unread) ≡ script_lines_of bytes
  pub lines : length done + length (lines_of unread) ≡ length (lines_of bytes)
  pub ends : length done + ends_in unread ≡ ends_in bytes

-- the same, where the source tells its bytes
abbrev pub IsAtTold : Option (List ℕ) → Option (List ℕ) → List ScriptLine → Type 0
IsAtTold None unread done = ⊤
IsAtTold (Some bytes) None done = ⊥
IsAtTold (Some bytes) (Some unread) done = IsAt bytes unread done

-- The sink was given all of the text but for what is still held.
pub record Sent (old now : Option (List ℕ)) (held text : List ℕ) : Type 0 where
  pub told : List ℕ
  pub given : Appends old now told
  pub whole : told ++ held ≡ text

-- The sink was given a front of the text.
pub record SentFront (old now : Option (List ℕ)) (text : List ℕ) : Type 0 where
  pub front : List ℕ
  pub given : Appends old now front
  pub starts : StartsWith text front

-- A line was answered: what was held before and the answer were sent, or are held.
pub record Answers (tells : Type 0) (size : ℕ) (numbers : Numbers) (line : ScriptLine) (given now : Option (List ℕ)) (held held' : List ℕ) : Type 0 where
  pub text : List ℕ
  pub answer : IsLineAnswer tells size numbers line text
  pub sent : Sent given now held' (held ++ text)

-- what became of a text after which a run has ended so
abbrev pub SentUpTo : End → Option (List ℕ) → Option (List ℕ) → List ℕ → List ℕ → Type 0
SentUpTo NoMemory given now held text = Sent given now held text
SentUpTo DiskFault given now held text = Sent given now held text
SentUpTo SinkFault given now held text = SentFront given now text
SentUpTo Finished given now held text = ⊥
SentUpTo BadLine given now held text = ⊥
SentUpTo SourceFault given now held text = ⊥
SentUpTo Usage given now held text = ⊥
SentUpTo Refused given now held text = ⊥
SentUpTo NotStore given now held text = ⊥

-- A line was cut off so: what was held before and a part of the answer were sent, or are held.
pub record CutsOff (tells : Type 0) (size : ℕ) (numbers : Numbers) (line : ScriptLine) (end : End) (given now : Option (List ℕ)) (held held' : List ℕ) : Type 0 where
  pub ends : EndsIn end (Some line)
  pub text : List ℕ
  pub part : IsPart tells size numbers line text
  pub sent : SentUpTo end given now held' (held ++ text)

-- A run stands after these lines, which it has answered with this text: by what its source had and what is unread, by
-- what its sink had and has, by the answers that are held, by the count of the lines and by the numbers.
pub record ScriptStands (size : ℕ) (left unread given now : Option (List ℕ)) (held : List ℕ) (served : ℕ) (numbers : Numbers) (done : List ScriptLine) (answers : List ℕ) : Type 0 where
  pub count : length done ≡ served
  pub built : numbers ≡ numbers_after size no_numbers done
  pub input : IsAtTold left unread done
  pub sent : Sent given now held answers

-- The text of a run that has ended so, but for what is said of the end, was sent or is held.
pub record IsSaid (end : End) (given now : Option (List ℕ)) (held : List ℕ) (done : List ScriptLine) (said : List ℕ) : Type 0 where
  pub text : List ℕ
  pub sent : Sent given now held text
  pub whole : text ++ end_text end ≡ whole_text done said end

-- The sink has cut off the text of a run.
pub record IsCut (left left' : Option (List ℕ)) (end : End) (given now : Option (List ℕ)) (done : List ScriptLine) (cut : Option ScriptLine) (said : List ℕ) : Type 0 where
  pub is : end ≡ SinkFault
  pub front : List ℕ
  pub gives : Appends given now front
  pub cut_off : IsCutOff left left' done cut said front

-- A run has ended so after these lines, perhaps within a further one, and has answered this text. What is said of the
-- end is not written yet.
pub record Closes (left unread : Option (List ℕ)) (end : End) (given now : Option (List ℕ)) (held : List ℕ) (done : List ScriptLine) (cut : Option ScriptLine) (said : List ℕ) : Type 0 where
  pub ends : EndsIn end cut
  pub reads : Reads left unread done cut end
  pub says : IsSaid end given now held done said ⊎ IsCut left unread end given now done cut said

-- The same, where all is written that is said of it.
pub record IsClosed (left unread : Option (List ℕ)) (end : End) (given now : Option (List ℕ)) (done : List ScriptLine) (cut : Option ScriptLine) (said : List ℕ) : Type 0 where
  pub ends : EndsIn end cut
  pub reads : Reads left unread done cut end
  pub text : List ℕ
  pub gives : Appends given now text
  pub writes : Writes left unread done cut said end text

-- wherever the run has come to stand, it stands after the same lines still
abbrev pub GoesOn : ℕ → Option (List ℕ) → Option (List ℕ) → List ℕ → ℕ → Numbers → Option (List ℕ) → Option (List ℕ) → List ℕ → ℕ → Numbers → Type 0
GoesOn size unread given held served numbers unread' given' held' served' numbers' =
    (left first : Option (List ℕ)) (done : List ScriptLine) (answers : List ℕ) → ScriptStands size left unread first given held served numbers done answers
    → ScriptStands size left unread' first given' held' served' numbers' done answers

-- Wherever the run has come to stand, it stands one line further, and the device was called as that line asks.
pub record Advances (tells : Type 0) (size : ℕ) (unread given : Option (List ℕ)) (held : List ℕ) (served : ℕ) (numbers : Numbers) (unread' given' : Option (List ℕ)) (held' : List ℕ) (served' : ℕ) (numbers' : Numbers) (reads reads' writes writes' : ℕ) : Type 0 where
  pub line : ScriptLine
  pub text : List ℕ
  pub answer : IsLineAnswer tells size numbers line text
  pub stands : (left first : Option (List ℕ)) (done : List ScriptLine) (answers : List ℕ) → ScriptStands size left unread first given held served numbers done answers
      → ScriptStands size left unread' first given' held' served' numbers' (done ++ line ∷ []) (answers ++ text)
  pub read : reads' ≡ count_after (length (serve size numbers line).listed) reads
  pub written : WritesRows numbers.acknowledged numbers'.acknowledged writes writes'

-- wherever the run has come to stand, it has ended so
abbrev pub EndsBy : ℕ → Option (List ℕ) → Option (List ℕ) → List ℕ → ℕ → Numbers → Option (List ℕ) → Option ScriptLine → List ℕ → End → Option (List ℕ) → List ℕ → Type 0
EndsBy size unread given held served numbers left' cut part end given' held' =
    (left first : Option (List ℕ)) (done : List ScriptLine) (answers : List ℕ) → ScriptStands size left unread first given held served numbers done answers
    → Closes left left' end first given' held' done cut (answers ++ part)

-- Wherever the run has come to stand, it has ended so, and the device was called as far as the line was served that was
-- cut off.
pub record Breaks (tells : Type 0) (size : ℕ) (unread given : Option (List ℕ)) (held : List ℕ) (served : ℕ) (numbers : Numbers) (left' : Option (List ℕ)) (end : End) (given' : Option (List ℕ)) (held' : List ℕ) (reads reads' writes writes' : ℕ) : Type 0 where
  pub cut : Option ScriptLine
  pub part : List ℕ
  pub is_part : IsPartOf tells size numbers cut part
  pub closes : EndsBy size unread given held served numbers left' cut part end given' held'
  pub read : HasRead cut 0 reads reads'
  pub written : HasWritten cut 0 writes writes'

-- A run so far, from its start: it stands after some lines, and a crash at any moment leaves what it has acknowledged.
pub record RunSoFar (size : ℕ) (left unread given now : Option (List ℕ)) (held : List ℕ) (served : ℕ) (numbers : Numbers) (disk_old disk_now : View Image) (reads_old reads_now writes_old writes_now : ℕ) : Type 0 where
  pub done : List ScriptLine
  pub answers : List ℕ
  pub are_answers : AreAnswers disk_old.honest size no_numbers done answers
  pub stands : ScriptStands size left unread given now held served numbers done answers
  pub crash : LeavesOnly disk_old disk_now (HasSome size done)
  pub last : EachImage disk_now (HasNumbers numbers)
  pub read : reads_now ≡ count_after (count_listed size no_numbers done) reads_old
  pub written : writes_now ≡ count_after numbers.acknowledged writes_old

-- A run that has ended so, but for what is said of the end.
pub record RunEnded (size : ℕ) (left unread : Option (List ℕ)) (end : End) (given now : Option (List ℕ)) (held : List ℕ) (disk_old disk_now : View Image) (reads_old reads_now writes_old writes_now : ℕ) : Type 0 where
  pub done : List ScriptLine
  pub answers : List ℕ
  pub are_answers : AreAnswers disk_old.honest size no_numbers done answers
  pub cut : Option ScriptLine
  pub part : List ℕ
  pub is_part : IsPartOf disk_old.honest size (numbers_after size no_numbers done) cut part
  pub closes : Closes left unread end given now held done cut (answers ++ part)
  pub crash : LeavesOnly disk_old disk_now (HasSome size done)
  pub last : EachImage disk_now (HasNumbers (numbers_after size no_numbers done))
  pub read : HasRead cut (count_listed size no_numbers done) reads_old reads_now
  pub written : HasWritten cut (numbers_after size no_numbers done).acknowledged writes_old writes_now
