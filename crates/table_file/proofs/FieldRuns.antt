-- The fields of a line, one after another.
use Rattle.std.proofs.Common.{◌≡◌, ℕ, zero, suc, ◌+◌, ◌-◌, ◌<◌, ◌≤◌, Bool, true, false, cond, List, [], ◌∷◌, ◌++◌, length, take, drop, get_or, Option, Some, None, Result, Ok, Err, refl, sym, ap, subst, ◌∙◌, add-one, append-nil, append_assoc, arith, length-drop, ◌&&◌, nat_le}
use Rattle.std.proofs.Math.Dec.{eqb}
use Rattle.std.proofs.Math.ListN.{drop_of_length-le}
use Rattle.std.proofs.Math.Seq.{drop-cons}
use Rattle.std.proofs.lemmas.Bool.{le-leb, ne_eqb}
use Rattle.std.proofs.lemmas.List.{drop-drop, take_all}
use Rattle.std.proofs.lemmas.Str.{IsUtf8-from_is_utf8, is_utf8-from_IsUtf8}
use Rattle.std.specs.List.{slice_get}
use Rattle.std.specs.Prelude.{IfSome}
use Rattle.std.specs.Str.{IsUtf8, is_utf8}
use Rattle.qsr_value.specs.declared.kind.ColKind.TheVariants as kinds
use Rattle.qsr_value.specs.declared.row.Value.{Value}
use Rattle.qsr_value.specs.declared.row.Value.TheVariants.{Text}
use Rattle.qsr_value.specs.declared.schema.Column.{Column}
use Rattle.qsr_value.specs.Values.{AreTexts, Fits, IsOfKind, IsText}
use Rattle.qsr_value.proofs.Lists.{drop-get, slice_to_end, take-get}
use Rattle.qsr_value.proofs.NumberLemmas.{and_right, none_if_not}
use Rattle.qsr_value.proofs.Readings.{AreTexts-more, Fits-more}
use Rattle.table_file.specs.Fields.{fields_of, longer_field, read_row, row_of, value_of_field, with_value}
use Rattle.table_file.specs.FieldsLeft.{fields_behind, fields_from}

-- a text's first field ends before its first tab, or at its end
pub first_field : (text : List ℕ) (n : ℕ) → n ≤ length text → ((k : ℕ) → k < n → get_or text k 0 ≡ 9 → ⊥) → (n < length text → get_or text n 0 ≡ 9)
    → fields_of text ≡ take n text ∷ fields_behind (drop n text)
first_field [] zero within before found = refl
first_field [] (suc n) within before found = absurd (omega arith)
first_field (byte ∷ bytes) zero within before found =
    let tab : byte ≡ 9 = found (omega arith) in
    rw tab refl
first_field (byte ∷ bytes) (suc n) within before found =
    let rest = first_field bytes n (omega arith) (λ k below. before (suc k) (omega arith)) (λ inside. found (omega arith)) in
    let other : eqb byte 9 ≡ false = ne_eqb byte 9 (before 0 (omega arith)) in
    rw (other, rest) refl

-- what follows a field that ends before the text does
pub field_follows : (text : List ℕ) (end : ℕ) → end < length text → fields_of (drop (end + 1) text) ≡ fields_behind (drop end text)
field_follows text end inside = rw (add-one, drop-cons text end 0) refl

-- the field that begins at a byte, and those that follow it
pub field_at : (text : List ℕ) (at n : ℕ) {left : List (List ℕ)} → let rest : List ℕ = take (length text - at) (drop at text) in
    fields_of rest ≡ take n rest ∷ fields_behind (drop n rest) → left ≡ fields_behind (drop (at + n) text) → fields_of (drop at text) ≡ take (at + n - at) (drop at text) ∷ left
field_at text at n fields left_is =
    let all = slice_to_end text at in
    let count : at + n - at ≡ n = omega arith in
    let here = rw all at fields in
    here ∙ ap (λ k. take k (drop at text) ∷ fields_behind (drop n (drop at text))) (sym count)
    ∙ ap (λ xs. take (at + n - at) (drop at text) ∷ fields_behind xs) (drop-drop n at text)
    ∙ ap (λ fields. take (at + n - at) (drop at text) ∷ fields) (sym left_is)

-- values that were read before the others, or what is wrong with those
abbrev pub behind : List Value → Result (List Value) ℕ → Result (List Value) ℕ
behind values (Ok rest) = Ok (values ++ rest)
behind values (Err wrong) = Err wrong

behind-none : (rest : Result (List Value) ℕ) → behind [] rest ≡ rest
behind-none (Ok rest) = refl
behind-none (Err wrong) = refl

behind-value : (values : List Value) (number : ℕ) (value : Value) (rest : Result (List Value) ℕ)
    → behind values (with_value number (Some value) rest) ≡ behind (values ++ value ∷ []) rest
behind-value values number value (Ok rest) = ap Ok (sym (append_assoc values (value ∷ []) rest))
behind-value values number value (Err wrong) = refl

-- The fields before the column at this place were read as these values, and the next field begins here.
pub record HasReadFields (schema : List Column) (text : List ℕ) (place : ℕ) (next : Option ℕ) (row : List Value) : Type 0 where
  pub fits : Fits (take place schema) row
  pub texts : AreTexts row
  pub within : IfSome next (λ at. at ≤ length text)
  pub read : read_row schema text ≡ behind row (row_of (place + 1) (drop place schema) (fields_from text next))

pub HasReadFields-start : (schema : List Column) (text : List ℕ) → HasReadFields schema text 0 (Some 0) []
HasReadFields-start schema text = record { fits = tt; texts = tt; within = omega arith; read = sym (behind-none (read_row schema text)) }

-- the next column, and the field that begins here
next_column : {schema : List Column} {text : List ℕ} {place : ℕ} {next : Option ℕ} {row : List Value} {column : Column} {field : List ℕ} {left : List (List ℕ)}
    → HasReadFields schema text place next row → slice_get schema place ≡ Some column → fields_from text next ≡ field ∷ left
    → read_row schema text ≡ behind row (with_value (place + 1) (value_of_field column.kind field) (row_of (place + 1 + 1) (drop (place + 1) schema) left))
next_column {schema = schema} {place = place} {row = row} {column = column} {field = field} {left = left} was column_is fields_are =
    was.read ∙ ap (λ fields. behind row (row_of (place + 1) (drop place schema) fields)) fields_are
    ∙ ap (λ columns. behind row (row_of (place + 1) columns (field ∷ left))) (drop-get schema place column column_is)

-- it is a value of it
pub HasReadFields-more : {schema : List Column} {text : List ℕ} {place : ℕ} {next after : Option ℕ} {row : List Value} {column : Column} {field : List ℕ} {value : Value}
    → HasReadFields schema text place next row → slice_get schema place ≡ Some column → fields_from text next ≡ field ∷ fields_from text after
    → Some value ≡ value_of_field column.kind field → IsOfKind column.kind value × IsText value → IfSome after (λ at. at ≤ length text)
    → HasReadFields schema text (place + 1) after (row ++ value ∷ [])
HasReadFields-more {schema = schema} {text = text} {place = place} {after = after} {row = row} {column = column} {value = value} was column_is fields_are value_is fits within =
    let rest : Result (List Value) ℕ = row_of (place + 1 + 1) (drop (place + 1) schema) (fields_from text after) in
    record {
      fits = subst (λ columns. Fits columns (row ++ value ∷ [])) (sym (take-get schema place column column_is)) (Fits-more (take place schema) row column value was.fits fits.0);
      texts = AreTexts-more row value was.texts fits.1;
      within = within;
      read = next_column was column_is fields_are ∙ ap (λ found. behind row (with_value (place + 1) found rest)) (sym value_is)
          ∙ behind-value row (place + 1) value rest;
    }

-- it is no value of it
pub HasReadFields-bad : {schema : List Column} {text : List ℕ} {place : ℕ} {next : Option ℕ} {row : List Value} {column : Column} {field : List ℕ} {left : List (List ℕ)}
    → HasReadFields schema text place next row → slice_get schema place ≡ Some column → fields_from text next ≡ field ∷ left
    → None ≡ value_of_field column.kind field → read_row schema text ≡ Err (place + 1)
HasReadFields-bad {schema = schema} {place = place} {row = row} {left = left} was column_is fields_are value_is =
    next_column was column_is fields_are
    ∙ ap (λ found. behind row (with_value (place + 1) found (row_of (place + 1 + 1) (drop (place + 1) schema) left))) (sym value_is)

missing_field : (columns : List Column) (row : List Value) (number : ℕ) → 0 < length columns → behind row (row_of number columns []) ≡ Err number
missing_field [] row number some = absurd (omega arith)
missing_field (column ∷ columns) row number some = refl

-- no field is left for it
pub HasReadFields-missing : {schema : List Column} {text : List ℕ} {place : ℕ} {next : Option ℕ} {row : List Value}
    → HasReadFields schema text place next row → place < length schema → next ≡ None → read_row schema text ≡ Err (place + 1)
HasReadFields-missing {schema = schema} {text = text} {place = place} {row = row} was inside none =
    was.read ∙ ap (λ from. behind row (row_of (place + 1) (drop place schema) (fields_from text from))) none
    ∙ missing_field (drop place schema) row (place + 1) (omega (arith, length-drop place schema))

-- no column is left
no_column : {schema : List Column} {text : List ℕ} {place : ℕ} {next : Option ℕ} {row : List Value} → HasReadFields schema text place next row
    → length schema ≤ place → read_row schema text ≡ behind row (row_of (place + 1) [] (fields_from text next))
no_column {schema = schema} {text = text} {place = place} {next = next} {row = row} was past =
    was.read ∙ ap (λ columns. behind row (row_of (place + 1) columns (fields_from text next))) (drop_of_length-le schema past)

pub HasReadFields-all : {schema : List Column} {text : List ℕ} {place : ℕ} {row : List Value} → HasReadFields schema text place None row → length schema ≤ place
    → (read_row schema text ≡ Ok row) × (Fits schema row × AreTexts row)
HasReadFields-all {schema = schema} {place = place} {row = row} was past =
    (no_column was past ∙ ap Ok (append-nil row), (subst (λ columns. Fits columns row) (take_all place schema past) was.fits, was.texts))

-- a text has a field
one_more : (fields : List (List ℕ)) (byte : ℕ) (row : List Value) (number : ℕ) → behind row (row_of number [] (longer_field byte fields)) ≡ Err number
one_more [] byte row number = refl
one_more (field ∷ fields) byte row number = refl

by_tab : (tab : Bool) (bytes : List ℕ) (byte : ℕ) (row : List Value) (number : ℕ)
    → behind row (row_of number [] (cond tab ([] ∷ fields_of bytes) (longer_field byte (fields_of bytes)))) ≡ Err number
by_tab true bytes byte row number = refl
by_tab false bytes byte row number = one_more (fields_of bytes) byte row number

one_field : (text : List ℕ) (row : List Value) (number : ℕ) → behind row (row_of number [] (fields_of text)) ≡ Err number
one_field [] row number = refl
one_field (byte ∷ bytes) row number = by_tab (eqb byte 9) bytes byte row number

-- a field too many is left
pub HasReadFields-too_many : {schema : List Column} {text : List ℕ} {place at : ℕ} {row : List Value} → HasReadFields schema text place (Some at) row
    → length schema ≡ place → read_row schema text ≡ Err (length schema + 1)
HasReadFields-too_many {schema = schema} {text = text} {place = place} {at = at} {row = row} was all =
    no_column was (omega arith) ∙ one_field (drop at text) row (place + 1) ∙ ap (λ n. Err (n + 1)) (sym all)

-- a text that isn't too long
pub text_stands : (max : ℕ) (field text : List ℕ) → length field ≤ max → text ≡ field → IsUtf8 field → Some (Text text) ≡ value_of_field (kinds.Text max) field
text_stands max field text within same utf8 = rw (le-leb (length field) max within, is_utf8-from_IsUtf8 field utf8, same) refl

pub no_text : (max : ℕ) (field : List ℕ) → (IsUtf8 field → ⊥) → None ≡ value_of_field (kinds.Text max) field
no_text max field not_utf8 =
    none_if_not (nat_le (length field) max && is_utf8 field) (Text field)
    (λ passes. not_utf8 (IsUtf8-from_is_utf8 field (and_right (nat_le (length field) max) (is_utf8 field) passes)))
