-- How the bytes that are held and what is left of an input tell its one line.
use Rattle.std.proofs.Common.{◌≡◌, ℕ, ◌+◌, ◌≤◌, Bool, true, false, not, ◌&&◌, List, [], ◌∷◌, ◌++◌, length, take, drop, Option, None, Some, Result, Ok, Err, refl, sym, ap, subst, arith, ◌∙◌, append-nil}
use Rattle.std.proofs.lemmas.Bool.{le-ltb}
use Rattle.std.proofs.lemmas.List.{append_cancel_left, drop-append-le, length-take}
use Rattle.std.proofs.lemmas.Str.{IsUtf8-from_ascii, IsUtf8-from_is_utf8, is_utf8-from_IsUtf8}
use Rattle.std.specs.Prelude.{IfErr, IfOk, nat_lt}
use Rattle.std.specs.Io.KnownBytes.{IsAtEnd, Keeps, prepend_known}
use Rattle.std.specs.Str.{IsUtf8, is_utf8}
use Rattle.qsr_value.specs.declared.limits.TheConstants.{MAX_LINE}
use Rattle.input_lines.specs.declared.next_line.NextLine.{NextLine}
use Rattle.input_lines.specs.declared.next_line.NextLine.TheVariants.{Unended, End}
use Rattle.input_lines.specs.declared.line_fault.LineFault.{LineFault}
use Rattle.input_lines.specs.declared.line_fault.LineFault.TheVariants.{BadLine, Failed, Memory}
use Rattle.input_lines.specs.OneLine.{IsLineFault, IsOnlyLine, first_text, only_line, text_or_one}
use Rattle.input_lines.specs.Lines.{without_cr, lines_of, unended, whole}
use Rattle.input_lines.specs.NextLine.{BeginsWhole, BeginsWholeTold, IsNextTold}
use Rattle.input_lines.proofs.LineLemmas.{both_empty, last_is_all}

-- bytes that are UTF-8, and such as aren't
pub text_read : (bytes text : List ℕ) → text ≡ bytes → IsUtf8 bytes → text_or_one (is_utf8 bytes) bytes ≡ Ok text
text_read bytes text same utf8 = rw (is_utf8-from_IsUtf8 bytes utf8, same) refl

none_by : (test : Bool) (bytes : List ℕ) → (test ≡ true → ⊥) → text_or_one test bytes ≡ Err 1
none_by true bytes never = absurd (never refl)
none_by false bytes never = refl

pub no_text_read : (bytes : List ℕ) → (IsUtf8 bytes → ⊥) → text_or_one (is_utf8 bytes) bytes ≡ Err 1
no_text_read bytes not_utf8 = none_by (is_utf8 bytes) bytes (λ is. not_utf8 (IsUtf8-from_is_utf8 bytes is))

pub IsLineFault-weaker : (reads reads' : Result (List ℕ) ℕ → Type 0) (fault : LineFault) → ((number : ℕ) → reads (Err number) → reads' (Err number)) → IsLineFault reads fault → IsLineFault reads' fault
IsLineFault-weaker reads reads' (BadLine number) weaker none = weaker number none
IsLineFault-weaker reads reads' Failed weaker none = tt
IsLineFault-weaker reads reads' Memory weaker none = tt

-- the same input, held otherwise
pub IsOnlyLine-kept : (a b : Option (List ℕ)) (read : Result (List ℕ) ℕ) → Keeps a b → IsOnlyLine b read → IsOnlyLine a read
IsOnlyLine-kept None b read keeps is = tt
IsOnlyLine-kept (Some a) None read keeps is = absurd keeps
IsOnlyLine-kept (Some a) (Some b) read keeps is = ap (λ bytes. only_line (lines_of bytes)) (sym keeps) ∙ is

pub IsOnlyLine-same : (left : Option (List ℕ)) (read read' : Result (List ℕ) ℕ) → read ≡ read' → IsOnlyLine left read → IsOnlyLine left read'
IsOnlyLine-same left read read' same is = subst (IsOnlyLine left) same is

-- a line that isn't too long
short_line : (test : Bool) (utf8 : Bool) (text : List ℕ) → test ≡ false → text_or_one (not test && utf8) text ≡ text_or_one utf8 text
short_line true utf8 text is = cc
short_line false utf8 text is = refl

whole_text : (text : List ℕ) → length text ≤ MAX_LINE → first_text (whole text) ≡ text_or_one (is_utf8 (without_cr text)) (without_cr text)
whole_text text short = short_line (nat_lt MAX_LINE (length text)) (is_utf8 (without_cr text)) (without_cr text) (le-ltb MAX_LINE (length text) short)

last_text : (text : List ℕ) → length text ≤ MAX_LINE → first_text (unended text) ≡ text_or_one (is_utf8 text) text
last_text text short = short_line (nat_lt MAX_LINE (length text)) (is_utf8 text) text (le-ltb MAX_LINE (length text) short)

taken_short : (len : ℕ) (held : List ℕ) → len ≤ MAX_LINE → length (take len held) ≤ MAX_LINE
taken_short len held short = omega (arith, short, length-take len held)

at_end : (held : List ℕ) (left : Option (List ℕ)) → IsNextTold End held left → IsAtEnd left
at_end held None next = tt
at_end held (Some left) next = both_empty held left next

-- the lines behind the first
behind_first : (len : ℕ) (held left now : List ℕ) → BeginsWhole len held (held ++ left) → now ≡ drop (len + 1) held ++ left
    → lines_of (held ++ left) ≡ whole (take len held) ∷ lines_of now
behind_first len held left now begins keeps =
    let behind : drop (len + 1) (held ++ left) ≡ now = drop-append-le (len + 1) held left (omega (arith, begins.within)) ∙ sym keeps in
    begins.first ∙ ap (λ bytes. whole (take len held) ∷ lines_of bytes) behind

-- a whole line, and then the end of the input
pub line_alone : (len : ℕ) (held now : List ℕ) (left left' : Option (List ℕ)) (text : List ℕ) → len ≤ MAX_LINE
    → text_or_one (is_utf8 (without_cr (take len held))) (without_cr (take len held)) ≡ Ok text
    → Keeps (prepend_known (drop (len + 1) held) left) (prepend_known now left') → IsNextTold End now left' → BeginsWholeTold len held left
    → IsOnlyLine (prepend_known held left) (Ok text) × IsAtEnd left'
line_alone len held now None left' text short reads keeps next begins = (tt, at_end now left' next)
line_alone len held now (Some left) None text short reads keeps next begins = absurd keeps
line_alone len held now (Some left) (Some left') text short reads keeps next begins = (
  ap only_line (behind_first len held left (now ++ left') begins keeps) ∙ ap (λ bytes. only_line (whole (take len held) ∷ lines_of bytes)) next
      ∙ whole_text (take len held) (taken_short len held short) ∙ reads,
  at_end now (Some left') next,
)

pub alone_line : {E : Type 0} (result : Result (List ℕ) E) (text : List ℕ) (next : NextLine) (len : ℕ) (held now : List ℕ) (left left' : Option (List ℕ)) → len ≤ MAX_LINE
    → IfOk result (λ same. (same ≡ text) × (next ≡ End)) → text_or_one (is_utf8 (without_cr (take len held))) (without_cr (take len held)) ≡ Ok text
    → Keeps (prepend_known (drop (len + 1) held) left) (prepend_known now left') → IsNextTold next now left'
    → IfOk result (λ text. BeginsWholeTold len held left → IsOnlyLine (prepend_known held left) (Ok text) × IsAtEnd left')
alone_line (Ok same) text next len held now left left' short is reads keeps found =
    line_alone len held now left left' same short (reads ∙ ap Ok (sym is.0)) keeps (subst (λ (next : NextLine). IsNextTold next now left') is.1 found)
alone_line (Err e) text next len held now left left' short is reads keeps found = tt

-- A last line that no LF ends, and no line at all.
pub last_alone : (held : List ℕ) (left : Option (List ℕ)) → length held ≤ MAX_LINE → IsNextTold Unended held left
    → IsOnlyLine (prepend_known held left) (text_or_one (is_utf8 held) held) × IsAtEnd left
last_alone held None short next = (tt, tt)
last_alone held (Some left) short next =
    (ap only_line next ∙ last_text held short, append_cancel_left held left [] (last_is_all (held ++ left) held next ∙ sym (append-nil held)))

none_read : text_or_one (is_utf8 []) [] ≡ Ok []
none_read = rw (is_utf8-from_IsUtf8 [] (IsUtf8-from_ascii [] (λ i. omega arith))) refl

pub none_alone : (held : List ℕ) (left : Option (List ℕ)) → IsNextTold End held left → IsOnlyLine (prepend_known held left) (text_or_one (is_utf8 []) []) × IsAtEnd left
none_alone held None next = (tt, tt)
none_alone held (Some left) next = (ap (λ bytes. only_line (lines_of bytes)) next ∙ sym none_read, both_empty held left next)

-- ---- what is told of the first text is told of the input

pub read_is : {E : Type 0} (result : Result (List ℕ) E) (left left' : Option (List ℕ)) (read : Result (List ℕ) ℕ) → IsOnlyLine left read × IsAtEnd left'
    → IfOk result (λ text. read ≡ Ok text) → IfOk result (λ text. IsOnlyLine left (Ok text) × IsAtEnd left')
read_is (Ok text) left left' read is same = (IsOnlyLine-same left read (Ok text) same is.0, is.1)
read_is (Err e) left left' read is same = tt

pub none_is : (result : Result (List ℕ) LineFault) (left : Option (List ℕ)) (read : Result (List ℕ) ℕ) → IsOnlyLine left read
    → IfErr result (IsLineFault (λ other. read ≡ other)) → IfErr result (IsLineFault (IsOnlyLine left))
none_is (Ok text) left read is none = tt
none_is (Err fault) left read is none = IsLineFault-weaker (λ other. read ≡ other) (IsOnlyLine left) fault (λ number same. IsOnlyLine-same left read (Err number) same is) none

-- the text that is given on
pub text_given : {E : Type 0} (result : Result (List ℕ) E) (bytes : List ℕ) → IsUtf8 bytes → IfOk result (λ text. text ≡ bytes)
    → IfOk result (λ text. text_or_one (is_utf8 bytes) bytes ≡ Ok text)
text_given (Ok text) bytes utf8 same = text_read bytes text same utf8
text_given (Err e) bytes utf8 same = tt

-- the same input, held otherwise, of all that is told of it
pub line_kept : {E : Type 0} (result : Result (List ℕ) E) (a b left' : Option (List ℕ)) → Keeps a b → IfOk result (λ text. IsOnlyLine b (Ok text) × IsAtEnd left')
    → IfOk result (λ text. IsOnlyLine a (Ok text) × IsAtEnd left')
line_kept (Ok text) a b left' keeps is = (IsOnlyLine-kept a b (Ok text) keeps is.0, is.1)
line_kept (Err e) a b left' keeps is = tt

pub none_kept : (result : Result (List ℕ) LineFault) (a b : Option (List ℕ)) → Keeps a b → IfErr result (IsLineFault (IsOnlyLine b)) → IfErr result (IsLineFault (IsOnlyLine a))
none_kept (Ok text) a b keeps none = tt
none_kept (Err fault) a b keeps none = IsLineFault-weaker (IsOnlyLine b) (IsOnlyLine a) fault (λ number is. IsOnlyLine-kept a b (Err number) keeps is) none

-- nothing was held at first
pub kept_first : (held now : List ℕ) (left left' : Option (List ℕ)) → held ≡ [] → Keeps (prepend_known held left) (prepend_known now left') → Keeps left (prepend_known now left')
kept_first held now None left' none keeps = tt
kept_first held now (Some left) None none keeps = absurd keeps
kept_first held now (Some left) (Some left') none keeps = keeps ∙ ap (λ bytes. bytes ++ left) none
