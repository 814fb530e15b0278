-- How a run goes on by a line, or ends, in the words of the calls that serve a script.
use Rattle.std.proofs.Common.{◌≡◌, ◌≢◌, ◌⊎◌, ◌&&◌, Bool, true, false, nat_le, ℕ, ◌+◌, ◌<◌, List, [], ◌∷◌, ◌++◌, length, take, drop, Option, None, Some, ap, refl, sym, ◌∙◌, subst, arith, append-nil, length-append, inl, inr}
use Rattle.std.proofs.lemmas.Bool.Decides.{nat_tests}
use Rattle.std.proofs.lemmas.List.{drop-append-le}
use Rattle.std.specs.Prelude.{All}
use Rattle.std.specs.Io.{StartsWith}
use Rattle.std.specs.Io.KnownBytes.{Appends, Keeps, prepend_known}
use Rattle.qsr_io.specs.Given.{GivesFront}
use Rattle.qsr_value.specs.Causes.{count_after}
use Rattle.row_script.specs.declared.end.End.{End}
use Rattle.row_script.specs.declared.end.End.TheVariants.{Finished, BadLine, Usage, Refused, NotStore, DiskFault, SourceFault, SinkFault, NoMemory}
use Rattle.qsr_value.specs.declared.limits.TheConstants.{MAX_LINE, MAX_LINES}
use Rattle.input_lines.specs.declared.next_line.NextLine.TheVariants.{Whole, TooLong, Unended}
use Rattle.row_script.specs.declared.reply.Reply.TheVariants.{BadLine as BadLineReply}
use Rattle.row_script.specs.declared.script_line.ScriptLine.{ScriptLine}
use Rattle.row_script.specs.declared.numbers.Numbers.{Numbers}
use Rattle.row_script.specs.Ends.{EndsIn}
use Rattle.input_lines.specs.Lines.{InputLine, whole, unended, lines_of}
use Rattle.row_script.specs.Machine.{serve, no_numbers}
use Rattle.input_lines.specs.NextLine.{BeginsWholeTold, IsNextTold}
use Rattle.row_script.specs.Progress.{IsAt, IsAtTold, SentUpTo, Answers, CutsOff, Closes, IsSaid, IsCut, ScriptStands, GoesOn, Advances, EndsBy, Breaks}
use Rattle.row_script.specs.Replies.{reply_text_of}
use Rattle.row_script.specs.Rows.{WritesRows}
use Rattle.row_script.specs.Run.{HasRead, HasWritten, Reads, ReadsTo}
use Rattle.row_script.specs.Script.{BeginsBadTold, line_said}
use Rattle.row_script.proofs.AnswerLemmas.{Sent-flush, Sent-more, Sent-then, SentFront-gives, SentUpTo-then}
use Rattle.row_script.proofs.ProgressLemmas.{numbers_after-more, ends_in-partial, IsAt-line, front_of_script, script_of-bad}

-- the input behind a line
IsAtTold-line : (bytes left : Option (List ℕ)) (held : List ℕ) (len : ℕ) (done : List ScriptLine) (line : ScriptLine)
    → IsAtTold bytes (prepend_known held left) done → BeginsWholeTold len held left → line_said (length done + 1) (whole (take len held)) ≡ Some line
    → IsAtTold bytes (prepend_known (drop (len + 1) held) left) (done ++ line ∷ [])
IsAtTold-line None left held len done line at begins says = tt
IsAtTold-line (Some bytes) None held len done line at begins says = absurd at
IsAtTold-line (Some bytes) (Some left) held len done line at begins says =
    let inside = begins.within in
    let rest : drop (len + 1) (held ++ left) ≡ drop (len + 1) held ++ left = drop-append-le (len + 1) held left (omega (arith, inside)) in
    let next : lines_of (held ++ left) ≡ whole (take len held) ∷ lines_of (drop (len + 1) held ++ left) = rw (← rest) begins.first in
    IsAt-line bytes (held ++ left) (drop (len + 1) held ++ left) (take len held) done line at next says

-- a line is served: the run stands after it
Stands-line : {tells : Type 0} {size : ℕ} {numbers : Numbers} {line : ScriptLine} {given given' : Option (List ℕ)} {held held' : List ℕ}
    → (answers : Answers tells size numbers line given given' held held')
    → (input : List ℕ) (left : Option (List ℕ)) (served len : ℕ) → BeginsWholeTold len input left → line_said (served + 1) (whole (take len input)) ≡ Some line
    → (source first : Option (List ℕ)) (done : List ScriptLine) (text : List ℕ) → ScriptStands size source (prepend_known input left) first given held served numbers done text
    → ScriptStands size source (prepend_known (drop (len + 1) input) left) first given' held' (served + 1) (serve size numbers line).numbers (done ++ line ∷ []) (text ++ answers.text)
Stands-line {size = size} {numbers = numbers} {line = line} answers input left served len begins says source first done text at =
    let counts : length done ≡ served = at.count in
    let says' : line_said (length done + 1) (whole (take len input)) ≡ Some line = rw counts says in
    record {
      count = length-append done (line ∷ []) ∙ ap (λ n. n + 1) counts;
      built = ap (λ (numbers : Numbers). (serve size numbers line).numbers) at.built ∙ sym (numbers_after-more size no_numbers done line);
      input = IsAtTold-line source left input len done line at.input begins says';
      sent = Sent-then answers.text at.sent answers.sent;
    }

pub Advances-line : {tells : Type 0} {size : ℕ} {numbers : Numbers} {line : ScriptLine} {given given' : Option (List ℕ)} {held held' : List ℕ} {reads reads' writes writes' : ℕ}
    → Answers tells size numbers line given given' held held'
    → (input : List ℕ) (left : Option (List ℕ)) (served len : ℕ) → BeginsWholeTold len input left → line_said (served + 1) (whole (take len input)) ≡ Some line
    → reads' ≡ count_after (length (serve size numbers line).listed) reads
    → WritesRows numbers.acknowledged (serve size numbers line).numbers.acknowledged writes writes'
    → Advances tells size (prepend_known input left) given held served numbers
    (prepend_known (drop (len + 1) input) left) given' held' (served + 1) (serve size numbers line).numbers reads reads' writes writes'
Advances-line {line = line} answers input left served len begins says read written = record {
  line = line;
  text = answers.text;
  answer = answers.answer;
  stands = Stands-line answers input left served len begins says;
  read = read;
  written = written;
}

-- what is read where a run stands
reads_front : (bytes unread left : Option (List ℕ)) (held : List ℕ) (done : List ScriptLine) (end : End)
    → IsAtTold bytes (prepend_known held left) done
    → ((bytes left : List ℕ) → IsAt bytes (held ++ left) done → ReadsTo bytes left done end)
    → Reads bytes left done None end
reads_front None unread left held done end at to = tt
reads_front (Some bytes) unread None held done end at to = absurd at
reads_front (Some bytes) unread (Some left) held done end at to = (front_of_script bytes (held ++ left) done at, to bytes left at)

-- what is read where a line is cut off
cut_to : (bytes left : List ℕ) (done : List ScriptLine) (line : ScriptLine) (end : End) → EndsIn end (Some line) → ReadsTo bytes left done end
cut_to bytes left done line NoMemory ends = tt
cut_to bytes left done line DiskFault ends = tt
cut_to bytes left done line SinkFault ends = tt
cut_to bytes left done line Finished ends = cc
cut_to bytes left done line BadLine ends = cc
cut_to bytes left done line SourceFault ends = cc
cut_to bytes left done line Usage ends = absurd ends
cut_to bytes left done line Refused ends = absurd ends
cut_to bytes left done line NotStore ends = absurd ends

reads_cut_line : (bytes left : Option (List ℕ)) (held : List ℕ) (len : ℕ) (done : List ScriptLine) (line : ScriptLine) (end : End)
    → IsAtTold bytes (prepend_known held left) done → BeginsWholeTold len held left → line_said (length done + 1) (whole (take len held)) ≡ Some line
    → EndsIn end (Some line) → Reads bytes left done (Some line) end
reads_cut_line None left held len done line end at begins says ends = tt
reads_cut_line (Some bytes) None held len done line end at begins says ends = absurd at
reads_cut_line (Some bytes) (Some left) held len done line end at begins says ends =
    let further = IsAtTold-line (Some bytes) (Some left) held len done line at begins says in
    (front_of_script bytes (drop (len + 1) held ++ left) (done ++ line ∷ []) further, cut_to bytes left done line end ends)

-- what is line_said of a run that ended within a line
cut_says : (end : End) {left left' first now : Option (List ℕ)} {held line_said : List ℕ} (done : List ScriptLine) (cut : Option ScriptLine) → EndsIn end cut → Reads left left' done cut end
    → SentUpTo end first now held line_said → IsSaid end first now held done line_said ⊎ IsCut left left' end first now done cut line_said
cut_says NoMemory {line_said = line_said} done cut ends reads sent = inl (record { text = line_said; sent = sent; whole = refl })
cut_says DiskFault {line_said = line_said} done cut ends reads sent = inl (record { text = line_said; sent = sent; whole = refl })
cut_says SinkFault {line_said = line_said} done cut ends reads sent = inr (record {
  is = refl;
  front = sent.front;
  gives = sent.given;
  cut_off = record { end = SinkFault; ends = ends; reads = reads; front = subst (λ (text : List ℕ). StartsWith text sent.front) (sym (append-nil line_said)) sent.starts };
})
cut_says Finished done cut ends reads sent = absurd sent
cut_says BadLine done cut ends reads sent = absurd sent
cut_says SourceFault done cut ends reads sent = absurd sent
cut_says Usage done cut ends reads sent = absurd sent
cut_says Refused done cut ends reads sent = absurd sent
cut_says NotStore done cut ends reads sent = absurd sent

-- a line is cut off
pub Breaks-line : {tells : Type 0} {size : ℕ} {numbers : Numbers} {line : ScriptLine} {end : End} {given given' : Option (List ℕ)} {held held' : List ℕ} {reads reads' writes writes' : ℕ}
    → CutsOff tells size numbers line end given given' held held'
    → (input : List ℕ) (left : Option (List ℕ)) (served len : ℕ) → BeginsWholeTold len input left → line_said (served + 1) (whole (take len input)) ≡ Some line
    → HasRead (Some line) 0 reads reads' → HasWritten (Some line) 0 writes writes'
    → Breaks tells size (prepend_known input left) given held served numbers left end given' held' reads reads' writes writes'
Breaks-line {line = line} {end = end} {given' = given'} {held' = held'} cuts input left served len begins says read written = record {
  cut = Some line;
  part = cuts.text;
  is_part = cuts.part;
  closes = λ source first done text at.
      let counts : length done ≡ served = at.count in
      let reads = reads_cut_line source left input len done line end at.input begins (rw counts says) cuts.ends in
      record {
        ends = cuts.ends;
        reads = reads;
        says = cut_says end done (Some line) cuts.ends reads (SentUpTo-then end given' held' cuts.text at.sent cuts.sent);
      };
  read = read;
  written = written;
}

-- a run ends between two lines
between : {left unread : Option (List ℕ)} {end : End} {given now : Option (List ℕ)} {held : List ℕ} {done : List ScriptLine} {answers : List ℕ}
    → Closes left unread end given now held done None answers → Closes left unread end given now held done None (answers ++ [])
between {left = left} {unread = unread} {end = end} {given = given} {now = now} {held = held} {done = done} {answers = answers} closes =
    subst (Closes left unread end given now held done None) (sym (append-nil answers)) closes

-- the device was not called
pub Breaks-between : {tells : Type 0} {size : ℕ} {unread given : Option (List ℕ)} {held : List ℕ} {served : ℕ} {numbers : Numbers} {left : Option (List ℕ)} {end : End} {given' : Option (List ℕ)} {held' : List ℕ} {reads writes : ℕ}
    → EndsBy size unread given held served numbers left None [] end given' held'
    → Breaks tells size unread given held served numbers left end given' held' reads reads writes writes
Breaks-between closes = record { cut = None; part = []; is_part = refl; closes = closes; read = refl; written = refl }

-- memory is wanting between two lines
pub EndsBy-memory : (size : ℕ) (input : List ℕ) (left given : Option (List ℕ)) (held : List ℕ) (served : ℕ) (numbers : Numbers)
    → EndsBy size (prepend_known input left) given held served numbers left None [] NoMemory given held
EndsBy-memory size input left given held served numbers source first done answers at = between (record {
  ends = tt;
  reads = reads_front source None left input done NoMemory at.input (λ bytes left at. tt);
  says = inl (record { text = answers; sent = at.sent; whole = refl });
})

-- the next line is bad
bad_reads : (bytes left : Option (List ℕ)) (held : List ℕ) (done : List ScriptLine)
    → IsAtTold bytes (prepend_known held left) done → BeginsBadTold (length done) (prepend_known held left) → Reads bytes left done None BadLine
bad_reads None left held done at begins = tt
bad_reads (Some bytes) None held done at begins = absurd at
bad_reads (Some bytes) (Some left) held done at begins =
    let all = script_of-bad bytes (held ++ left) done begins.line begins.rest at begins.first begins.bad in
    let more = ap length begins.first in (
      front_of_script bytes (held ++ left) done at,
      (ap length all, let before = at.lines in omega (arith, before, more)),
    )

pub EndsBy-bad : (size : ℕ) (input : List ℕ) (left given : Option (List ℕ)) (held : List ℕ) (served : ℕ) (numbers : Numbers)
    → BeginsBadTold served (prepend_known input left)
    → EndsBy size (prepend_known input left) given held served numbers left None [] BadLine given (held ++ reply_text_of (BadLineReply (served + 1)))
EndsBy-bad size input left given held served numbers begins source first done answers at =
    let counts = at.count in
    between (record {
      ends = refl;
      reads = bad_reads source left input done at.input (subst (λ (n : ℕ). BeginsBadTold n (prepend_known input left)) (sym counts) begins);
      says = inl (record {
        text = answers ++ reply_text_of (BadLineReply (served + 1));
        sent = Sent-more (reply_text_of (BadLineReply (served + 1))) at.sent;
        whole = append-nil (answers ++ reply_text_of (BadLineReply (served + 1))) ∙ ap (λ n. answers ++ reply_text_of (BadLineReply (n + 1))) (sym counts);
      });
    })

-- the answers are sent, and the input is read on
IsAtTold-read : (bytes unread read : Option (List ℕ)) (done : List ScriptLine) → IsAtTold bytes unread done → Keeps unread read → IsAtTold bytes read done
IsAtTold-read None unread read done at keeps = tt
IsAtTold-read (Some bytes) None read done at keeps = absurd at
IsAtTold-read (Some bytes) (Some before) None done at keeps = absurd keeps
IsAtTold-read (Some bytes) (Some before) (Some after) done at keeps = subst (λ (unread : List ℕ). IsAt bytes unread done) (sym keeps) at

pub GoesOn-read : (size : ℕ) (unread read given now : Option (List ℕ)) (held none : List ℕ) (served : ℕ) (numbers : Numbers)
    → Keeps unread read → Appends given now held → none ≡ []
    → GoesOn size unread given held served numbers read now none served numbers
GoesOn-read size unread read given now held none served numbers keeps sends empty source first done answers at = record {
  count = at.count;
  built = at.built;
  input = IsAtTold-read source unread read done at.input keeps;
  sent = rw empty (Sent-flush at.sent sends);
}

-- the answers are sent, and the source fails
source_reads : (bytes left : Option (List ℕ)) (held : List ℕ) (done : List ScriptLine)
    → IsAtTold bytes (prepend_known held left) done → All (λ byte. byte ≢ 10) held → Reads bytes left done None SourceFault
source_reads None left held done at partial = tt
source_reads (Some bytes) None held done at partial = absurd at
source_reads (Some bytes) (Some left) held done at partial =
    (front_of_script bytes (held ++ left) done at, let before = at.ends in let same = ends_in-partial held left partial in omega (arith, before, same))

pub EndsBy-source : (size : ℕ) (unread : Option (List ℕ)) (input : List ℕ) (left given now : Option (List ℕ)) (held none : List ℕ) (served : ℕ) (numbers : Numbers)
    → Keeps unread (prepend_known input left) → Appends given now held → none ≡ [] → All (λ byte. byte ≢ 10) input
    → EndsBy size unread given held served numbers left None [] SourceFault now none
EndsBy-source size unread input left given now held none served numbers keeps sends empty partial source first done answers at = between (record {
  ends = refl;
  reads = source_reads source left input done (IsAtTold-read source unread (prepend_known input left) done at.input keeps) partial;
  says = inl (record { text = answers; sent = rw empty (Sent-flush at.sent sends); whole = refl });
})

-- the sink fails within what was held
pub EndsBy-sink : (size : ℕ) (input : List ℕ) (left given now : Option (List ℕ)) (held kept : List ℕ) (served : ℕ) (numbers : Numbers)
    → GivesFront given now held → EndsBy size (prepend_known input left) given held served numbers left None [] SinkFault now kept
EndsBy-sink size input left given now held kept served numbers gives source first done answers at =
    let all : GivesFront given now (held ++ []) = subst (GivesFront given now) (sym (append-nil held)) gives in
    let sent = SentUpTo-then SinkFault now kept [] at.sent (SentFront-gives given now (held ++ []) all) in
    let reads = reads_front source None left input done SinkFault at.input (λ bytes left at. tt) in
    let whole : SentUpTo SinkFault first now kept (answers ++ []) = sent in
    record {
      ends = tt;
      reads = reads;
      says = cut_says SinkFault done None tt reads whole;
    }

-- what comes next, where it is told
pub whole_next : (len : ℕ) (held : List ℕ) (left : Option (List ℕ)) → IsNextTold (Whole len) held left → BeginsWholeTold len held left
whole_next len held None next = tt
whole_next len held (Some left) next = next

pub bad_whole : (served len : ℕ) (held : List ℕ) (left : Option (List ℕ)) → IsNextTold (Whole len) held left → line_said (served + 1) (whole (take len held)) ≡ None
    → BeginsBadTold served (prepend_known held left)
bad_whole served len held None next says = tt
bad_whole served len held (Some left) next says =
    record { line = whole (take len held); rest = lines_of (drop (len + 1) (held ++ left)); first = next.first; bad = says }

false_and : (a b c : Bool) → b ≡ false → ((a && b) && c) ≡ false
false_and true b c is = rw is refl
false_and false b c is = refl

said-long : (number : ℕ) (line : InputLine) → MAX_LINE < length line.text → line_said number line ≡ None
said-long number line long =
    let no : nat_le (length line.text) MAX_LINE ≡ false = grind (arith, nat_tests) in
    rw (false_and line.ended (nat_le (length line.text) MAX_LINE) (nat_le number MAX_LINES) no) refl

pub bad_long : (served : ℕ) (held : List ℕ) (left : Option (List ℕ)) → IsNextTold TooLong held left → BeginsBadTold served (prepend_known held left)
bad_long served held None next = tt
bad_long served held (Some left) next = record { line = next.line; rest = next.rest; first = next.first; bad = said-long (served + 1) next.line next.long }

pub bad_unended : (served : ℕ) (held : List ℕ) (left : Option (List ℕ)) → IsNextTold Unended held left → BeginsBadTold served (prepend_known held left)
bad_unended served held None next = tt
bad_unended served held (Some left) next = record { line = unended held; rest = []; first = next; bad = refl }

-- a run that has read on, and then goes on by a line or ends
pub Advances-behind : {tells : Type 0} {size : ℕ} {unread given : Option (List ℕ)} {held : List ℕ} {served : ℕ} {numbers : Numbers} {unread' given' : Option (List ℕ)} {held' : List ℕ}
    {last now : Option (List ℕ)} {kept : List ℕ} {count : ℕ} {after : Numbers} {reads reads' writes writes' : ℕ}
    → GoesOn size unread given held served numbers unread' given' held' served numbers
    → Advances tells size unread' given' held' served numbers last now kept count after reads reads' writes writes'
    → Advances tells size unread given held served numbers last now kept count after reads reads' writes writes'
Advances-behind goes next = record {
  line = next.line;
  text = next.text;
  answer = next.answer;
  stands = λ left first done answers at. next.stands left first done answers (goes left first done answers at);
  read = next.read;
  written = next.written;
}

pub Breaks-behind : {tells : Type 0} {size : ℕ} {unread given : Option (List ℕ)} {held : List ℕ} {served : ℕ} {numbers : Numbers} {unread' given' : Option (List ℕ)} {held' : List ℕ}
    {last now : Option (List ℕ)} {kept : List ℕ} {end : End} {reads reads' writes writes' : ℕ}
    → GoesOn size unread given held served numbers unread' given' held' served numbers
    → Breaks tells size unread' given' held' served numbers last end now kept reads reads' writes writes'
    → Breaks tells size unread given held served numbers last end now kept reads reads' writes writes'
Breaks-behind goes next = record {
  cut = next.cut;
  part = next.part;
  is_part = next.is_part;
  closes = λ left first done answers at. next.closes left first done answers (goes left first done answers at);
  read = next.read;
  written = next.written;
}
