-- How a run of a script goes on from line to line: the input, the machine and the replies.
use Rattle.std.proofs.Common.{◌≡◌, ◌≢◌, ℕ, ◌+◌, ◌==◌, Bool, true, false, List, [], ◌∷◌, ◌++◌, length, take, Option, None, Some, ap, refl, sym, ◌∙◌, arith, append_assoc, append-nil, length-append, cond}
use Rattle.std.proofs.Math.Seq.{take-append_seam}
use Rattle.std.proofs.lemmas.List.Sums.{sum_by-cons}
use Rattle.std.proofs.lemmas.List.Elements.{recursion_from_All}
use Rattle.std.proofs.lemmas.Bool.Decides.{nat_tests}
use Rattle.std.specs.Option.{option_map_or}
use Rattle.std.specs.Prelude.{All, count_by}
use Rattle.std.specs.List.{AllByRecursion}
use Rattle.row_script.specs.declared.script_line.ScriptLine.{ScriptLine}
use Rattle.row_script.specs.declared.numbers.Numbers.{Numbers}
use Rattle.input_lines.specs.Lines.{InputLine, whole, longer, lines_of}
use Rattle.row_script.specs.Machine.{count_listed, serve, numbers_after}
use Rattle.row_script.specs.Progress.{IsAt}
use Rattle.row_script.specs.Run.{ends_in}
use Rattle.row_script.specs.Script.{line_said, script_from, script_lines_of}

-- the machine over one more line
pub numbers_after-more : (size : ℕ) (numbers : Numbers) (done : List ScriptLine) (line : ScriptLine)
    → numbers_after size numbers (done ++ line ∷ []) ≡ (serve size (numbers_after size numbers done) line).numbers
numbers_after-more size numbers [] line = refl
numbers_after-more size numbers (first ∷ done) line = numbers_after-more size (serve size numbers first).numbers done line

-- one line more may list more rows
pub count_listed-more : (size : ℕ) (numbers : Numbers) (done : List ScriptLine) (line : ScriptLine)
    → count_listed size numbers (done ++ line ∷ []) ≡ count_listed size numbers done + length (serve size (numbers_after size numbers done) line).listed
count_listed-more size numbers [] line = omega arith
count_listed-more size numbers (first ∷ done) line =
    let more = count_listed-more size (serve size numbers first).numbers done line in omega (arith, more)

-- the LFs of an input are the ends of its lines
abbrev count_ended : List InputLine → ℕ
count_ended lines = count_by (λ line. line.ended) lines

count_ended-cons : (line : InputLine) (lines : List InputLine) → count_ended (line ∷ lines) ≡ cond line.ended 1 0 + count_ended lines
count_ended-cons line lines = sum_by-cons (λ (line : InputLine). cond line.ended 1 0) line lines

count_ended-longer : (byte : ℕ) (lines : List InputLine) → count_ended (longer byte lines) ≡ count_ended lines
count_ended-longer byte [] = refl
count_ended-longer byte (line ∷ lines) = refl

ends_in-cons : (byte : ℕ) (bytes : List ℕ) → ends_in (byte ∷ bytes) ≡ cond (byte == 10) 1 0 + ends_in bytes
ends_in-cons byte bytes = sum_by-cons (λ (byte : ℕ). cond (byte == 10) 1 0) byte bytes

ended_by : (byte : ℕ) (bytes : List ℕ) (is_lf : Bool) → (byte == 10) ≡ is_lf → ends_in bytes ≡ count_ended (lines_of bytes)
    → ends_in (byte ∷ bytes) ≡ count_ended (cond is_lf (whole [] ∷ lines_of bytes) (longer byte (lines_of bytes)))
ended_by byte bytes true is rest =
    ends_in-cons byte bytes ∙ rw is (ap (λ n. 1 + n) rest ∙ sym (count_ended-cons (whole []) (lines_of bytes)))
ended_by byte bytes false is rest =
    ends_in-cons byte bytes ∙ rw is (let none : 0 + ends_in bytes ≡ ends_in bytes = omega arith in none ∙ rest ∙ sym (count_ended-longer byte (lines_of bytes)))

ends_in-lines : (bytes : List ℕ) → ends_in bytes ≡ count_ended (lines_of bytes)
ends_in-lines [] = refl
ends_in-lines (byte ∷ bytes) = ended_by byte bytes (byte == 10) refl (ends_in-lines bytes)

-- one line less, one LF less
ends_in-line : (unread rest text : List ℕ) → lines_of unread ≡ whole text ∷ lines_of rest → ends_in unread ≡ 1 + ends_in rest
ends_in-line unread rest text first =
    ends_in-lines unread ∙ ap count_ended first ∙ count_ended-cons (whole text) (lines_of rest) ∙ ap (λ n. 1 + n) (sym (ends_in-lines rest))

-- bytes with no LF end no line
ends_by : (held left : List ℕ) → AllByRecursion (λ byte. byte ≢ 10) held → ends_in (held ++ left) ≡ ends_in left
ends_by [] left all = refl
ends_by (byte ∷ held) left all =
    let no : (byte == 10) ≡ false = grind (arith, nat_tests) in
    ends_in-cons byte (held ++ left) ∙ rw no (let more = ends_by held left all.1 in omega (arith, more))

pub ends_in-partial : (held left : List ℕ) → All (λ byte. byte ≢ 10) held → ends_in (held ++ left) ≡ ends_in left
ends_in-partial held left all = ends_by held left (recursion_from_All _ held all)

-- the script behind a line that is good, and that is bad
script_from-line : (number : ℕ) (unread : List ℕ) (line : InputLine) (rest : List InputLine) (says : Option ScriptLine)
    → lines_of unread ≡ line ∷ rest → line_said number line ≡ says
    → script_from number (lines_of unread) ≡ option_map_or (λ script_line. script_line ∷ script_from (number + 1) rest) says []
script_from-line number unread line rest says first is =
    ap (script_from number) first ∙ ap (λ said_line. option_map_or (λ script_line. script_line ∷ script_from (number + 1) rest) said_line []) is

-- the next line is served
pub IsAt-line : (bytes unread rest line_text : List ℕ) (done : List ScriptLine) (line : ScriptLine)
    → IsAt bytes unread done → lines_of unread ≡ whole line_text ∷ lines_of rest → line_said (length done + 1) (whole line_text) ≡ Some line
    → IsAt bytes rest (done ++ line ∷ [])
IsAt-line bytes unread rest line_text done line at first says =
    let long : length (done ++ line ∷ []) ≡ length done + 1 = length-append done (line ∷ []) in
    let next = script_from-line (length done + 1) unread (whole line_text) (lines_of rest) (Some line) first says in
    let count_lines = ap length first in
    record {
      script = rw long (append_assoc done (line ∷ []) (script_from (length done + 1 + 1) (lines_of rest)) ∙ ap (λ more. done ++ more) (sym next) ∙ at.script);
      lines = let before = at.lines in omega (arith, before, count_lines, long);
      ends = let before = at.ends in omega (arith, before, ends_in-line unread rest line_text first, long);
    }

-- what was served are the first lines of the script
pub front_of_script : (bytes unread : List ℕ) (done : List ScriptLine) → IsAt bytes unread done → take (length done) (script_lines_of bytes) ≡ done
front_of_script bytes unread done at =
    ap (take (length done)) (sym at.script) ∙ take-append_seam done (script_from (length done + 1) (lines_of unread))

-- the next line is bad: what was served is the whole script
pub script_of-bad : (bytes unread : List ℕ) (done : List ScriptLine) (line : InputLine) (rest : List InputLine)
    → IsAt bytes unread done → lines_of unread ≡ line ∷ rest → line_said (length done + 1) line ≡ None → done ≡ script_lines_of bytes
script_of-bad bytes unread done line rest at first says =
    let none = script_from-line (length done + 1) unread line rest None first says in
    sym (append-nil done) ∙ ap (λ more. done ++ more) (sym none) ∙ at.script
