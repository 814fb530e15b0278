-- The answers to lines: how they are put together, and how a list of rows grows.
use Rattle.std.proofs.Common.{◌≡◌, ◌⊎◌, ℕ, ◌+◌, ◌<◌, ◌≤◌, ℤ, pos, List, [], ◌∷◌, ◌++◌, length, take, drop, Option, None, Some, ap, refl, sym, ◌∙◌, subst, arith, append_assoc, append-nil, length-append, inl, inr}
use Rattle.std.proofs.Math.Seq.{take-append_seam}
use Rattle.std.proofs.lemmas.Grind.{flat_map-append}
use Rattle.std.proofs.lemmas.List.{length-take-le, take-append-drop, take_more, take-append-le}
use Rattle.std.proofs.KnownBytes.{Appends-nil, Appends-trans}
use Rattle.std.specs.List.{slice_index_or}
use Rattle.std.specs.Io.{StartsWith}
use Rattle.std.specs.Io.KnownBytes.{Appends}
use Rattle.qsr_io.specs.Given.{GivesFront}
use Rattle.row_script.specs.declared.end.End.{End}
use Rattle.row_script.specs.declared.end.End.TheVariants.{Finished, BadLine, Usage, Refused, NotStore, DiskFault, SourceFault, SinkFault, NoMemory}
use Rattle.row_script.specs.declared.reply.Reply.TheVariants.{Listed}
use Rattle.row_script.specs.declared.script_line.ScriptLine.{ScriptLine}
use Rattle.row_script.specs.declared.script_line.ScriptLine.TheVariants.{Rows, Turn}
use Rattle.row_script.specs.declared.numbers.Numbers.{Numbers}
use Rattle.row_script.specs.Answers.{AreAnswers, IsLineAnswer, IsPartOf}
use Rattle.row_script.specs.Ends.{CutsTurn, EndsIn}
use Rattle.row_script.specs.Machine.{serve, numbers_after}
use Rattle.row_script.specs.Progress.{Answers, CutsOff, Sent, SentFront, SentUpTo}
use Rattle.row_script.specs.Replies.{row_text, rows_text, reply_text_of}

-- one line more is answered
pub AreAnswers-more : (tells : Type 0) (size : ℕ) (numbers : Numbers) (done : List ScriptLine) (line : ScriptLine) (text more : List ℕ)
    → AreAnswers tells size numbers done text → IsLineAnswer tells size (numbers_after size numbers done) line more
    → AreAnswers tells size numbers (done ++ line ∷ []) (text ++ more)
AreAnswers-more tells size numbers [] line text more are answer =
    record { first = more; rest = []; is_first = answer; is_rest = refl; whole = ap (λ text. text ++ more) are ∙ sym (append-nil more) }
AreAnswers-more tells size numbers (first ∷ done) line text more are answer = record {
  first = are.first;
  rest = are.rest ++ more;
  is_first = are.is_first;
  is_rest = AreAnswers-more tells size (serve size numbers first).numbers done line are.rest more are.is_rest answer;
  whole = ap (λ text. text ++ more) are.whole ∙ append_assoc are.first are.rest more;
}

-- the same, where the rows are told whenever they were
pub IsAnswer-told : {a b : Type 0} {size : ℕ} {numbers : Numbers} {line : ScriptLine} {text : List ℕ} → (b → a) → IsLineAnswer a size numbers line text → IsLineAnswer b size numbers line text
IsAnswer-told goes answer = record {
  values = answer.values;
  lists = record { count = answer.lists.count; are = λ told. answer.lists.are (goes told) };
  whole = answer.whole;
}

pub IsPartOf-told : {a b : Type 0} (size : ℕ) (numbers : Numbers) (cut : Option ScriptLine) (text : List ℕ) → (b → a) → IsPartOf a size numbers cut text → IsPartOf b size numbers cut text
IsPartOf-told size numbers None text goes part = part
IsPartOf-told size numbers (Some line) text goes part = record {
  values = part.values;
  lists = record { count = part.lists.count; are = λ told. part.lists.are (goes told) };
  whole = part.whole;
}

-- more text is held
pub Sent-more : {old now : Option (List ℕ)} {held text : List ℕ} (more : List ℕ) → Sent old now held text → Sent old now (held ++ more) (text ++ more)
Sent-more {held = held} more sent = record {
  told = sent.told;
  given = sent.given;
  whole = sym (append_assoc sent.told held more) ∙ ap (λ text. text ++ more) sent.whole;
}

-- of what was held and of more text a part is sent
pub Sent-then : {old mid new : Option (List ℕ)} {held held' text : List ℕ} (more : List ℕ) → Sent old mid held text → Sent mid new held' (held ++ more) → Sent old new held' (text ++ more)
Sent-then {old = old} {mid = mid} {new = new} {held = held} {held' = held'} more sent next = record {
  told = sent.told ++ next.told;
  given = Appends-trans old mid new sent.told next.told sent.given next.given;
  whole = append_assoc sent.told next.told held' ∙ ap (λ back. sent.told ++ back) next.whole ∙ sym (append_assoc sent.told held more)
      ∙ ap (λ text. text ++ more) sent.whole;
}

-- what was held is sent
pub Sent-flush : {old mid new : Option (List ℕ)} {held text : List ℕ} → Sent old mid held text → Appends mid new held → Sent old new [] text
Sent-flush {old = old} {mid = mid} {new = new} {held = held} sent more = record {
  told = sent.told ++ held;
  given = Appends-trans old mid new sent.told held sent.given more;
  whole = append-nil (sent.told ++ held) ∙ sent.whole;
}

-- a front of the last part, behind all the parts before it, is a front of the whole
StartsWith-behind : (told text front rest : List ℕ) → StartsWith text front → StartsWith ((told ++ text) ++ rest) (told ++ front)
StartsWith-behind told text front rest starts =
    let parts : text ≡ front ++ drop (length front) text = sym (take-append-drop (length front) text) ∙ ap (λ head. head ++ drop (length front) text) starts in
    let whole : (told ++ text) ++ rest ≡ (told ++ front) ++ (drop (length front) text ++ rest) =
    ap (λ text. (told ++ text) ++ rest) parts ∙ append_assoc told (front ++ drop (length front) text) rest
    ∙ ap (λ back. told ++ back) (append_assoc front (drop (length front) text) rest) ∙ sym (append_assoc told front (drop (length front) text ++ rest)) in
    ap (take (length (told ++ front))) whole ∙ take-append_seam (told ++ front) (drop (length front) text ++ rest)

pub SentFront-then : {old mid new : Option (List ℕ)} {held text : List ℕ} (more : List ℕ) → Sent old mid held text → SentFront mid new (held ++ more) → (rest : List ℕ) → SentFront old new ((text ++ more) ++ rest)
SentFront-then {old = old} {mid = mid} {new = new} {held = held} {text = text} more sent next rest =
    let whole : sent.told ++ (held ++ more) ≡ text ++ more = sym (append_assoc sent.told held more) ∙ ap (λ text. text ++ more) sent.whole in
    record {
      front = sent.told ++ next.front;
      given = Appends-trans old mid new sent.told next.front sent.given next.given;
      starts = subst (λ (text : List ℕ). StartsWith (text ++ rest) (sent.told ++ next.front)) whole (StartsWith-behind sent.told (held ++ more) next.front rest next.starts);
    }

-- what a sink was given that failed
pub SentFront-gives : (old new : Option (List ℕ)) (text : List ℕ) → GivesFront old new text → SentFront old new text
SentFront-gives old new text gives = record {
  front = take gives.0 text;
  given = gives.2;
  starts = ap (take (length (take gives.0 text))) (sym (take-append-drop gives.0 text)) ∙ take-append_seam (take gives.0 text) (drop gives.0 text);
}

pub SentUpTo-then : (end : End) {old mid : Option (List ℕ)} {held text : List ℕ} (new : Option (List ℕ)) (held' more : List ℕ) → Sent old mid held text → SentUpTo end mid new held' (held ++ more) → SentUpTo end old new held' (text ++ more)
SentUpTo-then NoMemory new held' more sent next = Sent-then more sent next
SentUpTo-then DiskFault new held' more sent next = Sent-then more sent next
SentUpTo-then SinkFault {text = text} new held' more sent next =
    let all = SentFront-then more sent next [] in
    record { front = all.front; given = all.given; starts = subst (λ (text : List ℕ). StartsWith text all.front) (append-nil (text ++ more)) all.starts }
SentUpTo-then Finished new held' more sent next = absurd next
SentUpTo-then BadLine new held' more sent next = absurd next
SentUpTo-then SourceFault new held' more sent next = absurd next
SentUpTo-then Usage new held' more sent next = absurd next
SentUpTo-then Refused new held' more sent next = absurd next
SentUpTo-then NotStore new held' more sent next = absurd next

-- what is said of a line that was cut off without a fault of the sink
kept_up_to : {end : End} {given now : Option (List ℕ)} {held text : List ℕ} → (end ≡ NoMemory) ⊎ (end ≡ DiskFault) → Sent given now held text → SentUpTo end given now held text
kept_up_to {given = given} {now = now} {held = held} {text = text} (inl is) sent = subst (λ (end : End). SentUpTo end given now held text) (sym is) sent
kept_up_to {given = given} {now = now} {held = held} {text = text} (inr is) sent = subst (λ (end : End). SentUpTo end given now held text) (sym is) sent

-- such a line is cut off
pub CutsOff-reply : (tells : Type 0) (size : ℕ) (numbers : Numbers) (line : ScriptLine) (end : End) (given : Option (List ℕ)) (held held' : List ℕ)
    → EndsIn end (Some line) → (end ≡ NoMemory) ⊎ (end ≡ DiskFault) → held' ≡ held → CutsOff tells size numbers line end given given held held'
CutsOff-reply tells size numbers line end given held held' ends which same = record {
  ends = ends;
  text = [];
  part = record { values = []; lists = record { count = omega arith; are = λ told. refl }; whole = refl };
  sent = kept_up_to which (record { told = []; given = Appends-nil given; whole = same ∙ sym (append-nil held) });
}

-- A list so far: the rows before a place were listed.
pub record Listing (tells : Type 0) (rows : List ℤ) (place : ℕ) (given now : Option (List ℕ)) (held held' : List ℕ) : Type 0 where
  pub values : List ℤ
  pub count : length values ≡ place
  pub are : tells → values ≡ take place rows
  pub sent : Sent given now held' (held ++ rows_text values)

rows_text-more : (held : List ℕ) (values more : List ℤ) → (held ++ rows_text values) ++ rows_text more ≡ held ++ rows_text (values ++ more)
rows_text-more held values more = append_assoc held (rows_text values) (rows_text more) ∙ ap (λ text. held ++ text) (sym (flat_map-append row_text values more))

-- one value more
pub Listing-more : {tells : Type 0} {rows : List ℤ} {place : ℕ} {given mid new : Option (List ℕ)} {held held_mid held' : List ℕ} → Listing tells rows place given mid held held_mid
    → (value : ℤ) → (tells → value ≡ slice_index_or rows place (pos 0)) → place < length rows → Sent mid new held' (held_mid ++ row_text value)
    → Listing tells rows (place + 1) given new held held'
Listing-more {tells = tells} {rows = rows} {place = place} {given = given} {new = new} {held = held} {held' = held'} so_far value told inside sent =
    let one : row_text value ≡ rows_text (value ∷ []) = sym (append-nil (row_text value)) in
    record {
      values = so_far.values ++ value ∷ [];
      count = length-append so_far.values (value ∷ []) ∙ ap (λ n. n + 1) so_far.count;
      are = λ tells. ap (λ values. values ++ value ∷ []) (so_far.are tells) ∙ ap (λ value. take place rows ++ value ∷ []) (told tells) ∙ sym (take_more rows place (pos 0) inside);
      sent = subst (Sent given new held') (ap (λ text. (held ++ rows_text so_far.values) ++ text) one ∙ rows_text-more held so_far.values (value ∷ [])) (Sent-then (row_text value) so_far.sent sent);
    }

-- all rows were listed
pub Answers-listed : {tells : Type 0} (size : ℕ) (numbers : Numbers) {place : ℕ} {given now : Option (List ℕ)} {held mid held' : List ℕ} → numbers.acknowledged ≤ length numbers.rows
    → place ≡ numbers.acknowledged → Listing tells numbers.rows place given now held mid → held' ≡ mid ++ reply_text_of (Listed numbers.acknowledged)
    → Answers tells size numbers Rows given now held held'
Answers-listed size numbers {given = given} {now = now} {held = held} {mid = mid} {held' = held'} within all listing reply =
    let said : Sent given now (mid ++ reply_text_of (Listed numbers.acknowledged)) ((held ++ rows_text listing.values) ++ reply_text_of (Listed numbers.acknowledged)) = Sent-more (reply_text_of (Listed numbers.acknowledged)) listing.sent in
    record {
      text = rows_text listing.values ++ reply_text_of (Listed numbers.acknowledged);
      answer = record {
        values = listing.values;
        lists = record {
          count = listing.count ∙ all ∙ sym (length-take-le numbers.acknowledged numbers.rows within);
          are = λ told. listing.are told ∙ ap (λ n. take n numbers.rows) all;
        };
        whole = refl;
      };
      sent = subst (λ (held' : List ℕ). Sent given now held' (held ++ (rows_text listing.values ++ reply_text_of (Listed numbers.acknowledged)))) (sym reply)
          (subst (Sent given now (mid ++ reply_text_of (Listed numbers.acknowledged))) (append_assoc held (rows_text listing.values) (reply_text_of (Listed numbers.acknowledged))) said);
    }

-- the list is cut off behind a row
pub CutsOff-listed : {tells : Type 0} (size : ℕ) (numbers : Numbers) (end : End) {place : ℕ} {given now : Option (List ℕ)} {held held' : List ℕ} → numbers.acknowledged ≤ length numbers.rows
    → place ≤ numbers.acknowledged → EndsIn end (Some Rows) → (values : List ℤ) → length values ≡ place → (tells → values ≡ take place numbers.rows)
    → SentUpTo end given now held' (held ++ rows_text values)
    → CutsOff tells size numbers Rows end given now held held'
CutsOff-listed size numbers end {place = place} within below ends values count are sent =
    let all : length (take numbers.acknowledged numbers.rows) ≡ numbers.acknowledged = length-take-le numbers.acknowledged numbers.rows within in
    let front : take place (take numbers.acknowledged numbers.rows) ≡ take place numbers.rows =
    sym (take-append-le place (take numbers.acknowledged numbers.rows) (drop numbers.acknowledged numbers.rows) (omega (arith, all, below)))
    ∙ ap (take place) (take-append-drop numbers.acknowledged numbers.rows) in
    record {
      ends = ends;
      text = rows_text values;
      part = record {
        values = values;
        lists = record {
          count = omega (arith, all, count, below);
          are = λ told. are told ∙ sym (ap (λ n. take n (take numbers.acknowledged numbers.rows)) count ∙ front);
        };
        whole = refl;
      };
      sent = sent;
    }

-- a fault within a list, by what became of its text
ends_in_list : (end : End) (given now : Option (List ℕ)) (held text : List ℕ) → SentUpTo end given now held text → EndsIn end (Some Rows)
ends_in_list NoMemory given now held text sent = tt
ends_in_list DiskFault given now held text sent = tt
ends_in_list SinkFault given now held text sent = tt
ends_in_list Finished given now held text sent = absurd sent
ends_in_list BadLine given now held text sent = absurd sent
ends_in_list SourceFault given now held text sent = absurd sent
ends_in_list Usage given now held text sent = absurd sent
ends_in_list Refused given now held text sent = absurd sent
ends_in_list NotStore given now held text sent = absurd sent

-- the list is cut off within a row's line, or behind it
pub CutsOff-row : {tells : Type 0} (size : ℕ) (numbers : Numbers) (end : End) {place : ℕ} {given mid now : Option (List ℕ)} {held held_mid held' : List ℕ} → numbers.acknowledged ≤ length numbers.rows
    → place < numbers.acknowledged → Listing tells numbers.rows place given mid held held_mid
    → (value : ℤ) → (tells → value ≡ slice_index_or numbers.rows place (pos 0))
    → (rows : List ℤ) → (rows ≡ []) ⊎ (rows ≡ value ∷ []) → SentUpTo end mid now held' (held_mid ++ rows_text rows)
    → CutsOff tells size numbers Rows end given now held held'
CutsOff-row size numbers end {place = place} {given = given} {mid = mid} {now = now} {held = held} {held_mid = held_mid} {held' = held'} within inside so_far value told rows (inl none) sent =
    let text : (held ++ rows_text so_far.values) ++ rows_text rows ≡ held ++ rows_text so_far.values =
    ap (λ rows. (held ++ rows_text so_far.values) ++ rows_text rows) none ∙ append-nil (held ++ rows_text so_far.values) in
    CutsOff-listed size numbers end within (omega (arith, inside)) (ends_in_list end mid now held' (held_mid ++ rows_text rows) sent) so_far.values so_far.count so_far.are
    (subst (SentUpTo end given now held') text (SentUpTo-then end now held' (rows_text rows) so_far.sent sent))
CutsOff-row size numbers end {place = place} {given = given} {mid = mid} {now = now} {held = held} {held_mid = held_mid} {held' = held'} within inside so_far value told rows (inr one) sent =
    let text : (held ++ rows_text so_far.values) ++ rows_text rows ≡ held ++ rows_text (so_far.values ++ value ∷ []) =
    ap (λ rows. (held ++ rows_text so_far.values) ++ rows_text rows) one ∙ rows_text-more held so_far.values (value ∷ []) in
    CutsOff-listed size numbers end within (omega (arith, inside)) (ends_in_list end mid now held' (held_mid ++ rows_text rows) sent) (so_far.values ++ value ∷ [])
    (length-append so_far.values (value ∷ []) ∙ ap (λ n. n + 1) so_far.count)
    (λ tells. ap (λ values. values ++ value ∷ []) (so_far.are tells) ∙ ap (λ value. take place numbers.rows ++ value ∷ []) (told tells) ∙ sym (take_more numbers.rows place (pos 0) (omega (arith, inside, within))))
    (subst (SentUpTo end given now held') text (SentUpTo-then end now held' (rows_text rows) so_far.sent sent))

-- a turn is cut off
pub CutsOff-turn : (tells : Type 0) (size : ℕ) (numbers : Numbers) (count : ℕ) (end : End) (given : Option (List ℕ)) (held held' : List ℕ) (faults faults' : ℕ)
    → CutsTurn end faults faults' → held' ≡ held → CutsOff tells size numbers (Turn count) end given given held held'
CutsOff-turn tells size numbers count NoMemory given held held' faults faults' cause same = CutsOff-reply tells size numbers (Turn count) NoMemory given held held' tt (inl refl) same
CutsOff-turn tells size numbers count DiskFault given held held' faults faults' cause same = CutsOff-reply tells size numbers (Turn count) DiskFault given held held' tt (inr refl) same
CutsOff-turn tells size numbers count Finished given held held' faults faults' cause same = absurd cause
CutsOff-turn tells size numbers count BadLine given held held' faults faults' cause same = absurd cause
CutsOff-turn tells size numbers count SourceFault given held held' faults faults' cause same = absurd cause
CutsOff-turn tells size numbers count SinkFault given held held' faults faults' cause same = absurd cause
CutsOff-turn tells size numbers count Usage given held held' faults faults' cause same = absurd cause
CutsOff-turn tells size numbers count Refused given held held' faults faults' cause same = absurd cause
CutsOff-turn tells size numbers count NotStore given held held' faults faults' cause same = absurd cause
