-- How rows that are read of an input add up, line by line.
use Rattle.std.proofs.Common.{◌≡◌, ℕ, ◌+◌, List, [], ◌∷◌, ◌++◌, Option, None, Some, Result, Ok, Err, ap, refl, sym, ◌∙◌, append_assoc, append-nil}
use Rattle.std.proofs.lemmas.List.{append_cancel_left}
use Rattle.std.specs.Io.KnownBytes.{IsAtEnd, prepend_known}
use Rattle.qsr_value.specs.declared.row.Value.{Value}
use Rattle.qsr_value.specs.declared.schema.Column.{Column}
use Rattle.input_lines.specs.declared.next_line.NextLine.TheVariants.{Unended, End}
use Rattle.qsr_top.specs.declared.told.Told.{Told}
use Rattle.qsr_top.specs.declared.told.Told.TheVariants.{Created, Loaded, Exists, RowTooWide, CatalogueFull, NoTable, BadField, TableFull, BadLine, NotStore, DiskFault, SourceFault, NoMemory}
use Rattle.input_lines.specs.Lines.{unended, lines_of}
use Rattle.qsr_top.specs.Load.{IsInput, row_in, rows_in}
use Rattle.input_lines.specs.NextLine.{IsNextTold}
use Rattle.qsr_top.specs.RowsRead.{IsReadFault, IsUnread, ReadsRows, in_front}
use Rattle.input_lines.proofs.LineLemmas.{both_empty, last_is_all}

in_front-none : (read : Result (List (List Value)) Told) → in_front [] read ≡ read
in_front-none (Ok rows) = refl
in_front-none (Err told) = refl

in_front-twice : (rows more : List (List Value)) (read : Result (List (List Value)) Told) → in_front rows (in_front more read) ≡ in_front (rows ++ more) read
in_front-twice rows more (Ok rest) = ap Ok (sym (append_assoc rows more rest))
in_front-twice rows more (Err told) = refl

-- nothing was read yet
pub ReadsRows-start : (columns : List Column) (number : ℕ) (left : Option (List ℕ)) → ReadsRows columns number left number left []
ReadsRows-start columns number None = tt
ReadsRows-start columns number (Some bytes) = sym (in_front-none (rows_in columns number (lines_of bytes)))

-- rows, and then more
pub ReadsRows-then : (columns : List Column) (first next last : ℕ) (a b c : Option (List ℕ)) (rows more : List (List Value))
    → ReadsRows columns first a next b rows → ReadsRows columns next b last c more → ReadsRows columns first a last c (rows ++ more)
ReadsRows-then columns first next last None b c rows more reads further = tt
ReadsRows-then columns first next last (Some a) None c rows more reads further = absurd reads
ReadsRows-then columns first next last (Some a) (Some b) None rows more reads further = absurd further
ReadsRows-then columns first next last (Some a) (Some b) (Some c) rows more reads further =
    reads ∙ ap (in_front rows) further ∙ in_front-twice rows more (rows_in columns last (lines_of c))

-- what an input is of which rows were read, by what is unread
pub IsUnread-behind : (columns : List Column) (first next : ℕ) (a b : Option (List ℕ)) (rows : List (List Value)) (read : Result (List (List Value)) Told)
    → ReadsRows columns first a next b rows → IsUnread columns next b read → IsUnread columns first a (in_front rows read)
IsUnread-behind columns first next None b rows read reads is = tt
IsUnread-behind columns first next (Some a) None rows read reads is = absurd reads
IsUnread-behind columns first next (Some a) (Some b) rows read reads is = reads ∙ ap (in_front rows) is

pub IsUnread-input : (columns : List Column) (left : Option (List ℕ)) (read : Result (List (List Value)) Told) → IsUnread columns 1 left read → IsInput columns left read
IsUnread-input columns None read is = tt
IsUnread-input columns (Some bytes) read is = is

pub IsReadFault-weaker : {stops stops' : Told → Type 0} {full full' : Type 0} (told : Told) → ((told : Told) → stops told → stops' told) → (full → full') → IsReadFault stops full told → IsReadFault stops' full' told
IsReadFault-weaker (BadField line column) weaker room fault = weaker (BadField line column) fault
IsReadFault-weaker (BadLine number) weaker room fault = weaker (BadLine number) fault
IsReadFault-weaker TableFull weaker room fault = room fault
IsReadFault-weaker DiskFault weaker room fault = tt
IsReadFault-weaker SourceFault weaker room fault = tt
IsReadFault-weaker NoMemory weaker room fault = tt
IsReadFault-weaker Created weaker room fault = absurd fault
IsReadFault-weaker (Loaded rows) weaker room fault = absurd fault
IsReadFault-weaker Exists weaker room fault = absurd fault
IsReadFault-weaker (RowTooWide bytes) weaker room fault = absurd fault
IsReadFault-weaker CatalogueFull weaker room fault = absurd fault
IsReadFault-weaker NoTable weaker room fault = absurd fault
IsReadFault-weaker (NotStore page) weaker room fault = absurd fault

-- the row of the last line, which no LF ends
pub ReadsRows-last : (columns : List Column) (number : ℕ) (held now : List ℕ) (left : Option (List ℕ)) (row : List Value)
    → now ≡ [] → row_in columns number (unended held) ≡ Ok row → IsNextTold Unended held left
    → ReadsRows columns number (prepend_known held left) (number + 1) (prepend_known now left) (row ∷ [])
ReadsRows-last columns number held now None row none is next = tt
ReadsRows-last columns number held now (Some left) row none is next =
    let more : left ≡ [] = append_cancel_left held left [] (last_is_all (held ++ left) held next ∙ sym (append-nil held)) in
    rw (next, is, none, more) refl

-- the end of the input
pub IsUnread-none : (columns : List Column) (number : ℕ) (held : List ℕ) (left : Option (List ℕ)) → IsNextTold End held left
    → IsUnread columns number (prepend_known held left) (Ok []) × IsAtEnd left
IsUnread-none columns number held None next = (tt, tt)
IsUnread-none columns number held (Some left) next = (ap (λ bytes. rows_in columns number (lines_of bytes)) next, both_empty held left next)
