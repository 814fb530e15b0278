-- What a crash leaves of a run of a script, from line to line.
use Rattle.std.proofs.Common.{◌≡◌, ℕ, ◌+◌, List, [], ◌∷◌, ◌++◌, length, Option, None, Some, ap, refl, sym, ◌∙◌, subst, arith, length-append}
use Rattle.std.proofs.lemmas.List.{take-append-le, take_all}
use Rattle.std.proofs.KnownBytes.{Appends-nil}
use Rattle.std.specs.Io.KnownBytes.{prepend_known}
use Rattle.disk_model.specs.Image.{Image}
use Rattle.disk_model.specs.View.{View, EachImage, LeavesOnly}
use Rattle.disk_model.proofs.Runs.{no_call, and_then, count_after-more, weaker_run, each_now}
use Rattle.row_script.specs.declared.end.End.{End}
use Rattle.row_script.specs.declared.script_line.ScriptLine.{ScriptLine}
use Rattle.row_script.specs.declared.numbers.Numbers.{Numbers}
use Rattle.row_script.specs.Machine.{count_listed, no_numbers, serve, numbers_after}
use Rattle.row_script.specs.Progress.{IsAtTold, Advances, Breaks, RunSoFar, RunEnded}
use Rattle.row_script.specs.Rows.{HasSome, HasNumbers, WritesRows}
use Rattle.row_script.specs.Run.{HasRead, HasWritten}
use Rattle.row_script.specs.Answers.{IsLineAnswer, IsPartOf, Tells}
use Rattle.qsr_value.specs.Causes.{count_after}
use Rattle.row_script.specs.declared.script_line.ScriptLine.TheVariants.{Row, Turn, Rows}
use Rattle.row_script.proofs.AnswerLemmas.{AreAnswers-more, IsAnswer-told, IsPartOf-told}
use Rattle.row_script.proofs.ProgressLemmas.{count_listed-more}

HasNumbers-empty : (c : Image) → HasNumbers no_numbers c
HasNumbers-empty c = record { each = λ k lt. absurd (omega arith) }

-- one line more
HasSome-more : (size : ℕ) (done : List ScriptLine) (line : ScriptLine) (c : Image) → HasSome size done c → HasSome size (done ++ line ∷ []) c
HasSome-more size done line c has =
    let inside = has.within in
    record {
      count = has.count;
      within = omega (arith, inside, length-append done (line ∷ []));
      rows = subst (λ (front : List ScriptLine). HasNumbers (numbers_after size no_numbers front) c) (sym (take-append-le has.count done (line ∷ []) inside)) has.rows;
    }

-- after all lines
HasSome-all : (size : ℕ) (done : List ScriptLine) (c : Image) → HasNumbers (numbers_after size no_numbers done) c → HasSome size done c
HasSome-all size done c has = record {
  count = length done;
  within = omega arith;
  rows = subst (λ (front : List ScriptLine). HasNumbers (numbers_after size no_numbers front) c) (sym (take_all (length done) done (omega arith))) has;
}

-- the start of a run
at_start : (left : Option (List ℕ)) → IsAtTold left (prepend_known [] left) []
at_start None = tt
at_start (Some bytes) = record { script = refl; lines = omega arith; ends = omega arith }

pub RunSoFar-start : (size : ℕ) (left given : Option (List ℕ)) (disk : View Image) (reads writes : ℕ)
    → RunSoFar size left (prepend_known [] left) given given [] 0 no_numbers disk disk reads reads writes writes
RunSoFar-start size left given disk reads writes = record {
  done = [];
  answers = [];
  are_answers = refl;
  stands = record {
    count = refl;
    built = refl;
    input = at_start left;
    sent = record { told = []; given = Appends-nil given; whole = refl };
  };
  crash = no_call disk (λ c now. HasSome-all size [] c (HasNumbers-empty c));
  last = λ c now. HasNumbers-empty c;
  read = refl;
  written = refl;
}

-- more rows are acknowledged
writes_more : (before after first old new : ℕ) → old ≡ count_after before first → WritesRows before after old new → new ≡ count_after after first
writes_more before after first old new so_far writes =
    writes.each ∙ ap (count_after writes.rows) so_far ∙ sym (count_after-more writes.rows before first)
    ∙ ap (λ calls. count_after calls first) (let more = writes.more in omega (arith, more))

-- more rows were read
reads_more : (before more first old new : ℕ) → old ≡ count_after before first → new ≡ count_after more old → new ≡ count_after (before + more) first
reads_more before more first old new so_far reads =
    reads ∙ ap (count_after more) so_far ∙ sym (count_after-more more before first) ∙ ap (λ calls. count_after calls first) (omega arith)

-- what the start of a run tells is told still
tells_still : {size : ℕ} {done : List ScriptLine} {numbers : Numbers} {old mid : View Image} → LeavesOnly old mid (HasSome size done) → EachImage mid (HasNumbers numbers)
    → old.honest → Tells mid numbers
tells_still run last honest = record { honest = run.honest.1 honest; rows = last }

-- a run goes on by a line
pub RunSoFar-line : {size : ℕ} {left unread given now : Option (List ℕ)} {held : List ℕ} {served : ℕ} {numbers : Numbers} {old mid : View Image} {first_reads reads first_writes writes : ℕ}
    → RunSoFar size left unread given now held served numbers old mid first_reads reads first_writes writes
    → (new : View Image) (unread' now' : Option (List ℕ)) (held' : List ℕ) (served' : ℕ) (numbers' : Numbers) (reads' writes' : ℕ)
    → Advances (Tells mid numbers) size unread now held served numbers unread' now' held' served' numbers' reads reads' writes writes'
    → (EachImage mid (HasNumbers numbers) → LeavesOnly mid new (HasNumbers numbers))
    → (EachImage mid (HasNumbers numbers) → EachImage new (HasNumbers numbers'))
    → RunSoFar size left unread' given now' held' served' numbers' old new first_reads reads' first_writes writes'
RunSoFar-line {size = size} {left = left} {given = given} {numbers = numbers} {old = old} {first_reads = first_reads} {reads = reads} {first_writes = first_writes} {writes = writes} run new unread' now' held' served' numbers' reads' writes' next crash last =
    let built = run.stands.built in
    record {
      done = run.done ++ next.line ∷ [];
      answers = run.answers ++ next.text;
      are_answers = AreAnswers-more old.honest size no_numbers run.done next.line run.answers next.text run.are_answers
          (subst (λ (numbers : Numbers). IsLineAnswer old.honest size numbers next.line next.text) built (IsAnswer-told (tells_still run.crash run.last) next.answer));
      stands = next.stands left given run.done run.answers run.stands;
      crash = and_then (weaker_run run.crash (λ c has. HasSome-more size run.done next.line c has)) (crash run.last)
          (λ c has. HasSome-more size run.done next.line c (HasSome-all size run.done c (subst (λ (numbers : Numbers). HasNumbers numbers c) built has)));
      last = last run.last;
      read = subst (λ (rows : ℕ). reads' ≡ count_after rows first_reads) (sym (count_listed-more size no_numbers run.done next.line))
          (reads_more (count_listed size no_numbers run.done) (length (serve size (numbers_after size no_numbers run.done) next.line).listed) first_reads reads reads' run.read
          (subst (λ (numbers : Numbers). reads' ≡ count_after (length (serve size numbers next.line).listed) reads) built next.read));
      written = writes_more numbers.acknowledged numbers'.acknowledged first_writes writes writes' run.written next.written;
    }

-- what the disk was asked to read and to write by a run that has ended
ended_writes : (cut : Option ScriptLine) (rows first writes writes' : ℕ) → writes ≡ count_after rows first → HasWritten cut 0 writes writes' → HasWritten cut rows first writes'
ended_writes None rows first writes writes' so_far none = none ∙ so_far
ended_writes (Some (Row value)) rows first writes writes' so_far none = none ∙ so_far
ended_writes (Some (Turn count)) rows first writes writes' so_far none = tt
ended_writes (Some Rows) rows first writes writes' so_far none = none ∙ so_far

ended_reads : (cut : Option ScriptLine) (rows first reads reads' : ℕ) → reads ≡ count_after rows first → HasRead cut 0 reads reads' → HasRead cut rows first reads'
ended_reads None rows first reads reads' so_far none = none ∙ so_far
ended_reads (Some (Row value)) rows first reads reads' so_far none = none ∙ so_far
ended_reads (Some (Turn count)) rows first reads reads' so_far none = none ∙ so_far
ended_reads (Some Rows) rows first reads reads' so_far none = tt

-- a run ends
pub RunEnded-line : {size : ℕ} {left unread given now : Option (List ℕ)} {held : List ℕ} {served : ℕ} {numbers : Numbers} {old mid : View Image} {first_reads reads first_writes writes : ℕ}
    → RunSoFar size left unread given now held served numbers old mid first_reads reads first_writes writes
    → (new : View Image) (left' now' : Option (List ℕ)) (held' : List ℕ) (end : End) (reads' writes' : ℕ)
    → Breaks (Tells mid numbers) size unread now held served numbers left' end now' held' reads reads' writes writes'
    → (EachImage mid (HasNumbers numbers) → LeavesOnly mid new (HasNumbers numbers))
    → RunEnded size left left' end given now' held' old new first_reads reads' first_writes writes'
RunEnded-line {size = size} {left = left} {given = given} {numbers = numbers} {old = old} {first_reads = first_reads} {reads = reads} {first_writes = first_writes} {writes = writes} run new left' now' held' end reads' writes' breaks crash =
    let built = run.stands.built in
    record {
      done = run.done;
      answers = run.answers;
      are_answers = run.are_answers;
      cut = breaks.cut;
      part = breaks.part;
      is_part = subst (λ (numbers : Numbers). IsPartOf old.honest size numbers breaks.cut breaks.part) built (IsPartOf-told size numbers breaks.cut breaks.part (tells_still run.crash run.last) breaks.is_part);
      closes = breaks.closes left given run.done run.answers run.stands;
      crash = and_then run.crash (crash run.last) (λ c has. HasSome-all size run.done c (subst (λ (numbers : Numbers). HasNumbers numbers c) built has));
      last = λ c now. subst (λ (numbers : Numbers). HasNumbers numbers c) built (each_now (crash run.last) c now);
      read = ended_reads breaks.cut (count_listed size no_numbers run.done) first_reads reads reads' run.read breaks.read;
      written = ended_writes breaks.cut (numbers_after size no_numbers run.done).acknowledged first_writes writes writes'
          (run.written ∙ ap (λ (numbers : Numbers). count_after numbers.acknowledged first_writes) built) breaks.written;
    }
