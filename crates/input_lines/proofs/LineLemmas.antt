-- The first of the lines of an input, by the bytes that it begins with.
use Rattle.std.proofs.Common.{◌≡◌, ◌≢◌, ℕ, ◌+◌, ◌<◌, ◌≤◌, ◌==◌, false, List, [], ◌∷◌, ◌++◌, length, take, drop, get_or, ap, sym, refl, ◌∙◌, arith, add-one, append_assoc, append-nil, inl, inr, suc, if◌then◌else◌}
use Rattle.std.proofs.Math.Seq.{drop-cons}
use Rattle.std.proofs.lemmas.Bool.{cases_eq}
use Rattle.std.proofs.lemmas.List.{take-append-drop, drop-append-le, take-take, get_or-take, length-take}
use Rattle.std.proofs.lemmas.List.Elements.{recursion_from_All}
use Rattle.std.proofs.lemmas.Grind.{common_steps}
use Rattle.std.specs.Prelude.{All}
use Rattle.std.specs.List.{AllByRecursion}
use Rattle.input_lines.specs.Lines.{InputLine, whole, unended, longer, lines_of}
use Rattle.input_lines.specs.NextLine.{BeginsTooLong, BeginsWhole}
use Rattle.qsr_value.specs.declared.limits.TheConstants.{MAX_LINE}

-- a byte that is no LF makes the first line longer
pub lines_of-longer : (byte : ℕ) (bytes : List ℕ) → byte ≢ 10 → lines_of (byte ∷ bytes) ≡ longer byte (lines_of bytes)
lines_of-longer byte bytes not_lf = grind (arith, common_steps)

whole_by : (line rest : List ℕ) → AllByRecursion (λ byte. byte ≢ 10) line → lines_of (line ++ 10 ∷ rest) ≡ whole line ∷ lines_of rest
whole_by [] rest all = refl
whole_by (byte ∷ line) rest all = lines_of-longer byte (line ++ 10 ∷ rest) all.0 ∙ ap (longer byte) (whole_by line rest all.1)

-- bytes with no LF, and then one, are a whole line
pub lines_of-whole : (line rest : List ℕ) → All (λ byte. byte ≢ 10) line → lines_of (line ++ 10 ∷ rest) ≡ whole line ∷ lines_of rest
lines_of-whole line rest all = whole_by line rest (recursion_from_All _ line all)

unended_by : (byte : ℕ) (line : List ℕ) → AllByRecursion (λ byte. byte ≢ 10) (byte ∷ line) → lines_of (byte ∷ line) ≡ unended (byte ∷ line) ∷ []
unended_by byte [] all = lines_of-longer byte [] all.0
unended_by byte (next ∷ line) all = lines_of-longer byte (next ∷ line) all.0 ∙ ap (longer byte) (unended_by next line all.1)

-- bytes with no LF at the input's end are its last line
pub lines_of-unended : (line : List ℕ) → (length line == 0) ≡ false → All (λ byte. byte ≢ 10) line → lines_of line ≡ unended line ∷ []
lines_of-unended [] some all = cc
lines_of-unended (byte ∷ line) some all = unended_by byte line (recursion_from_All _ (byte ∷ line) all)

-- how long the first line is
first_length : List InputLine → ℕ
first_length [] = 0
first_length (line ∷ lines) = length line.text

first_length-longer : (byte : ℕ) (lines : List InputLine) → first_length (longer byte lines) ≡ suc (first_length lines)
unfolding first_length
first_length-longer byte [] = refl
first_length-longer byte (line ∷ lines) = refl

as_long_as : (held rest : List ℕ) → AllByRecursion (λ byte. byte ≢ 10) held → length held ≤ first_length (lines_of (held ++ rest))
unfolding first_length
as_long_as [] rest all = omega arith
as_long_as (byte ∷ held) rest all =
    rw (lines_of-longer byte (held ++ rest) all.0, first_length-longer byte (lines_of (held ++ rest))) (let more = as_long_as held rest all.1 in omega arith)

long_by : (lines : List InputLine) → MAX_LINE < first_length lines → BeginsTooLong lines
unfolding first_length
long_by [] h = absurd (omega arith)
long_by (line ∷ lines) h = record { line = line; rest = lines; first = refl; long = h }

-- more bytes with no LF than a line may have
pub BeginsTooLong-window : (bytes more : List ℕ) (m : ℕ) → All (λ byte. byte ≢ 10) (take m bytes) → MAX_LINE < length (take m bytes) → BeginsTooLong (lines_of (bytes ++ more))
BeginsTooLong-window bytes more m all long =
    let window = take m bytes in
    let parts : bytes ++ more ≡ window ++ (drop m bytes ++ more) = ap (λ xs. xs ++ more) (sym (take-append-drop m bytes)) ∙ append_assoc window (drop m bytes) more in
    rw parts (long_by (lines_of (window ++ (drop m bytes ++ more)))
    (let enough = as_long_as window (drop m bytes ++ more) (recursion_from_All _ window all) in omega arith))

-- a line and its LF within as many bytes as a line may have
pub BeginsWhole-window : (bytes more : List ℕ) (m len : ℕ) → m ≤ MAX_LINE + 1 → len < length (take m bytes) → get_or (take m bytes) len 0 ≡ 10
    → All (λ byte. byte ≢ 10) (take len (take m bytes)) → BeginsWhole len bytes (bytes ++ more)
BeginsWhole-window bytes more m len short within lf all =
    let sizes = length-take m bytes in
    let below : len < m = omega arith in
    let inside : len < length bytes = omega arith in
    let line = take len bytes in
    let same : take len (take m bytes) ≡ line = take-take len m bytes (omega arith) in
    let ends : get_or bytes len 0 ≡ 10 = sym (get_or-take m bytes len 0 below) ∙ lf in
    let rest = drop (len + 1) bytes in
    let parts : bytes ≡ line ++ 10 ∷ rest = sym (take-append-drop len bytes) ∙ ap (λ xs. line ++ xs) (rw (add-one, ← ends) (drop-cons bytes len 0 inside)) in
    let behind : drop (len + 1) (bytes ++ more) ≡ rest ++ more = drop-append-le (len + 1) bytes more (omega arith) in
    let joined : bytes ++ more ≡ line ++ 10 ∷ (rest ++ more) = ap (λ xs. xs ++ more) parts ∙ append_assoc line (10 ∷ rest) more in
    record {
      within = inside;
      short = omega arith;
      first = rw behind (ap lines_of joined ∙ lines_of-whole line (rest ++ more) (rw same at all));
    }

-- the bytes that lines have
line_bytes : InputLine → List ℕ
line_bytes line = line.text ++ (if line.ended then 10 ∷ [] else [])

joined : List InputLine → List ℕ
joined [] = []
joined (line ∷ lines) = line_bytes line ++ joined lines

joined-longer : (byte : ℕ) (lines : List InputLine) → joined (longer byte lines) ≡ byte ∷ joined lines
unfolding joined line_bytes
joined-longer byte [] = refl
joined-longer byte (line ∷ lines) = refl

joined-lines_of : (bytes : List ℕ) → joined (lines_of bytes) ≡ bytes
unfolding joined line_bytes
joined-lines_of [] = refl
joined-lines_of (byte ∷ bytes) = elim (cases_eq byte 10) [
  | inl lf ↦ rw lf (ap (λ rest. 10 ∷ rest) (joined-lines_of bytes))
  | inr other ↦ ap joined (lines_of-longer byte bytes other) ∙ joined-longer byte (lines_of bytes) ∙ ap (λ rest. byte ∷ rest) (joined-lines_of bytes)
]

-- the last line, which no LF ends, is all that there is
pub last_is_all : (bytes text : List ℕ) → lines_of bytes ≡ unended text ∷ [] → bytes ≡ text
unfolding joined line_bytes
last_is_all bytes text is = sym (joined-lines_of bytes) ∙ ap joined is ∙ append-nil (text ++ []) ∙ append-nil text

-- nothing is left of nothing
pub both_empty : (held left : List ℕ) → held ++ left ≡ [] → left ≡ []
both_empty [] left none = none
both_empty (byte ∷ held) left none = cc
