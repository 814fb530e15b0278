-- How a run is closed: what is said of its end, and what it has come to as a whole.
use Rattle.std.proofs.Common.{◌≡◌, ℕ, List, [], ◌++◌, Option, None, Some, ap, refl, sym, ◌∙◌, subst, append-nil, inl, inr}
use Rattle.std.proofs.KnownBytes.{Appends-nil, Appends-trans}
use Rattle.std.specs.Io.KnownBytes.{Appends}
use Rattle.disk_model.specs.Image.{Image}
use Rattle.disk_model.specs.View.{View}
use Rattle.disk_model.proofs.Runs.{no_call}
use Rattle.qsr_io.specs.Given.{GivesFront}
use Rattle.row_script.specs.declared.end.End.{End}
use Rattle.row_script.specs.declared.end.End.TheVariants.{Finished, BadLine, Usage, Refused, NotStore, DiskFault, SourceFault, SinkFault, NoMemory}
use Rattle.row_script.specs.declared.script_line.ScriptLine.{ScriptLine}
use Rattle.row_script.specs.Ends.{EndsIn, end_text}
use Rattle.row_script.specs.Machine.{no_numbers}
use Rattle.row_script.specs.Progress.{SentFront, Closes, IsClosed, RunEnded}
use Rattle.row_script.specs.Run.{whole_text, Ran, Reads, Writes}
use Rattle.row_script.proofs.AnswerLemmas.{Sent-flush, SentFront-gives, SentFront-then}
use Rattle.row_script.proofs.CrashLemmas.{RunEnded-line, RunSoFar-start}
use Rattle.row_script.proofs.StepLemmas.{Breaks-between, EndsBy-memory}

-- what is read where the sink failed in the end
reads_cut : (bytes left : Option (List ℕ)) (done : List ScriptLine) (cut : Option ScriptLine) (end : End) → Reads bytes left done cut end → Reads bytes left done cut SinkFault
reads_cut None left done cut end reads = tt
reads_cut (Some bytes) None done cut end reads = reads
reads_cut (Some bytes) (Some left) done cut end reads = (reads.0, tt)

-- what the sink didn't cut off is what the run has written
writes_whole : (left left' : Option (List ℕ)) (done : List ScriptLine) (cut : Option ScriptLine) (said : List ℕ) (end : End) (text : List ℕ) → (end ≡ SinkFault → ⊥)
    → text ≡ whole_text done said end → Writes left left' done cut said end text
writes_whole left left' done cut said Finished text goes is = is
writes_whole left left' done cut said BadLine text goes is = is
writes_whole left left' done cut said Usage text goes is = is
writes_whole left left' done cut said Refused text goes is = is
writes_whole left left' done cut said NotStore text goes is = is
writes_whole left left' done cut said DiskFault text goes is = is
writes_whole left left' done cut said SourceFault text goes is = is
writes_whole left left' done cut said SinkFault text goes is = absurd (goes refl)
writes_whole left left' done cut said NoMemory text goes is = is

-- all is written
pub IsClosed-all : {left unread : Option (List ℕ)} {end : End} {first given now : Option (List ℕ)} (mid : Option (List ℕ)) {held : List ℕ} {done : List ScriptLine} {cut : Option ScriptLine} {said : List ℕ}
    → (end ≡ SinkFault → ⊥) → Closes left unread end first given held done cut said → Appends given mid held → Appends mid now (end_text end)
    → IsClosed left unread end first now done cut said
IsClosed-all {left = left} {unread = unread} {end = end} {first = first} {given = given} {now = now} mid {held = held} {done = done} {cut = cut} {said = said} goes closes sends says =
    elim closes.says [
      | inl told ↦ record {
        ends = closes.ends;
        reads = closes.reads;
        text = told.text ++ end_text end;
        gives = Appends-trans first mid now told.text (end_text end)
            (subst (Appends first mid) told.sent.whole (Appends-trans first given mid told.sent.told held told.sent.given sends)) says;
        writes = writes_whole left unread done cut said end (told.text ++ end_text end) goes told.whole;
      }
      | inr failed ↦ absurd (goes failed.is)
    ]

-- the sink fails, where a run has said all but a part of the text that was still to come
IsClosed-front : (end : End) {left unread : Option (List ℕ)} {first now : Option (List ℕ)} {done : List ScriptLine} {cut : Option ScriptLine} {said : List ℕ}
    → EndsIn end cut → Reads left unread done cut end → SentFront first now (whole_text done said end) → IsClosed left unread SinkFault first now done cut said
IsClosed-front end {left = left} {unread = unread} {done = done} {cut = cut} ends reads sent = record {
  ends = tt;
  reads = reads_cut left unread done cut end reads;
  text = sent.front;
  gives = sent.given;
  writes = record { end = end; ends = ends; reads = reads; front = sent.starts };
}

-- the sink fails within the answers
pub IsClosed-answers : {left unread : Option (List ℕ)} {end : End} {first given now : Option (List ℕ)} {held : List ℕ} {done : List ScriptLine} {cut : Option ScriptLine} {said : List ℕ}
    → (end ≡ SinkFault → ⊥) → Closes left unread end first given held done cut said → GivesFront given now held
    → IsClosed left unread SinkFault first now done cut said
IsClosed-answers {end = end} {first = first} {given = given} {now = now} {held = held} {done = done} {cut = cut} {said = said} goes closes gives =
    elim closes.says [
      | inl told ↦
          let sent = SentFront-then [] told.sent (SentFront-gives given now (held ++ []) (subst (GivesFront given now) (sym (append-nil held)) gives)) (end_text end) in
          IsClosed-front end closes.ends closes.reads
          (subst (SentFront first now) (ap (λ text. text ++ end_text end) (append-nil told.text) ∙ told.whole) sent)
      | inr failed ↦ absurd (goes failed.is)
    ]

-- the sink fails within what is said of the end
pub IsClosed-end : {left unread : Option (List ℕ)} {end : End} {first given now : Option (List ℕ)} (mid : Option (List ℕ)) {held : List ℕ} {done : List ScriptLine} {cut : Option ScriptLine} {said : List ℕ}
    → (end ≡ SinkFault → ⊥) → Closes left unread end first given held done cut said → Appends given mid held → GivesFront mid now (end_text end)
    → IsClosed left unread SinkFault first now done cut said
IsClosed-end {end = end} {first = first} {given = given} {now = now} mid {held = held} {done = done} {cut = cut} {said = said} goes closes sends gives =
    elim closes.says [
      | inl told ↦
          let before = Sent-flush told.sent sends in
          let sent = SentFront-then (end_text end) before (SentFront-gives mid now (end_text end) gives) [] in
          IsClosed-front end closes.ends closes.reads (subst (SentFront first now) (append-nil (told.text ++ end_text end) ∙ told.whole) sent)
      | inr failed ↦ absurd (goes failed.is)
    ]

-- the sink had failed before
pub IsClosed-before : {left unread first given : Option (List ℕ)} {held : List ℕ} {done : List ScriptLine} {cut : Option ScriptLine} {said : List ℕ}
    → Closes left unread SinkFault first given held done cut said → IsClosed left unread SinkFault first given done cut said
IsClosed-before {first = first} {given = given} {held = held} closes =
    elim closes.says [
      | inl told ↦
          let none : SentFront given given (held ++ []) = record { front = []; given = Appends-nil given; starts = refl } in
          let sent = SentFront-then [] told.sent none [] in
          IsClosed-front SinkFault closes.ends closes.reads (subst (SentFront first given) (append-nil (told.text ++ []) ∙ told.whole) sent)
      | inr cut ↦ record { ends = tt; reads = closes.reads; text = cut.front; gives = cut.gives; writes = cut.cut_off }
    ]

-- a whole run
pub Ran-closed : {size : ℕ} {left unread : Option (List ℕ)} {end result : End} {given mid now : Option (List ℕ)} {held : List ℕ} {old new : View Image} {reads reads' writes writes' : ℕ}
    → (ended : RunEnded size left unread end given mid held old new reads reads' writes writes')
    → IsClosed left unread result given now ended.done ended.cut (ended.answers ++ ended.part)
    → Ran size left unread given now old new reads reads' writes writes' result
Ran-closed ended closed = record {
  done = ended.done;
  answers = ended.answers;
  are_answers = ended.are_answers;
  cut = ended.cut;
  part = ended.part;
  is_part = ended.is_part;
  ends = closed.ends;
  reads = closed.reads;
  text = closed.text;
  gives = closed.gives;
  writes = closed.writes;
  crash = ended.crash;
  last = ended.last;
  written = ended.written;
  read = ended.read;
}

-- memory is wanting at once
at_once : (size : ℕ) (left given : Option (List ℕ)) (disk : View Image) (reads writes : ℕ) → RunEnded size left left NoMemory given given [] disk disk reads reads writes writes
at_once size left given disk reads writes =
    RunEnded-line (RunSoFar-start size left given disk reads writes) disk left given [] NoMemory reads writes
    (Breaks-between (EndsBy-memory size [] left given [] 0 no_numbers)) (λ each. no_call disk each)

pub Ran-at_once : (size : ℕ) (left given now : Option (List ℕ)) (disk : View Image) (reads writes : ℕ) → Appends given now (end_text NoMemory)
    → Ran size left left given now disk disk reads reads writes writes NoMemory
Ran-at_once size left given now disk reads writes says =
    let ended = at_once size left given disk reads writes in
    Ran-closed ended (IsClosed-all given (λ is. cc) ended.closes (Appends-nil given) says)

pub Ran-cut_at_once : (size : ℕ) (left given now : Option (List ℕ)) (disk : View Image) (reads writes : ℕ) → GivesFront given now (end_text NoMemory)
    → Ran size left left given now disk disk reads reads writes writes SinkFault
Ran-cut_at_once size left given now disk reads writes gives =
    let ended = at_once size left given disk reads writes in
    Ran-closed ended (IsClosed-end given (λ is. cc) ended.closes (Appends-nil given) gives)
