-- Names and columns that words are are those that a catalogue may have.
use Rattle.std.proofs.Common.{◌≡◌, ◌⊎◌, ℕ, zero, suc, ◌<◌, ◌≤◌, Bool, true, false, not, ◌&&◌, ◌||◌, List, [], ◌∷◌, length, Option, None, Some, inl, inr, ⊎_elim, refl, arith}
use Rattle.std.proofs.lemmas.Bool.{eqb-true, leb-true}
use Rattle.std.proofs.lemmas.Str.{IsUtf8-from_ascii}
use Rattle.std.specs.Prelude.{IfOk, IfSome, Result, Ok, Err, nat_le, nat_eq, codes, drop, if◌then◌else◌, ◌==◌}
use Rattle.std.specs.Char.{is_ascii_digit, is_ascii_lowercase}
use Rattle.std.specs.Cmp.Lexicographic.{pointwise}
use Rattle.std.specs.List.{AllByRecursion, list_all, starts_with}
use Rattle.std.specs.Option.{option_and_then}
use Rattle.std.specs.Str.{IsAscii}
use Rattle.qsr_value.specs.declared.kind.ColKind.{ColKind}
use Rattle.qsr_value.specs.declared.kind.ColKind.TheVariants.{Int, Text}
use Rattle.qsr_value.specs.declared.schema.Column.{Column}
use Rattle.table_file.specs.CatalogueBytes.{IsColumn, IsName, IsStoredKind}
use Rattle.qsr_value.specs.Number.{count_of}
use Rattle.qsr_value.specs.declared.failure.Memory.{Memory}
use Rattle.qsr_top.specs.Words.{AreColumns, ReadsColumns, column_before, column_kind, columns_of, is_name, is_name_byte, kind_of, some_columns, text_kind}

-- both of two tests
both : (a b : Bool) → (a && b) ≡ true → (a ≡ true) × (b ≡ true)
both true b is = (refl, is)
both false b is = cc

either : (a b : Bool) → (a || b) ≡ true → (a ≡ true) ⊎ (b ≡ true)
either true b is = inl refl
either false b is = inr is

-- a byte of a name is ASCII
in_range : (low high byte : ℕ) → (nat_le low byte && nat_le byte high) ≡ true → byte ≤ high
in_range low high byte is = leb-true byte high (both (nat_le low byte) (nat_le byte high) is).1

ascii_byte : (byte : ℕ) → is_name_byte byte ≡ true → byte < 128
ascii_byte byte is =
    ⊎_elim
    (λ others. ⊎_elim (λ lower. omega (arith, in_range 97 122 byte lower)) (λ digit. omega (arith, in_range 48 57 byte digit))
    (either (is_ascii_lowercase byte) (is_ascii_digit byte) others))
    (λ line. omega (arith, eqb-true byte 95 line))
    (either (is_ascii_lowercase byte || is_ascii_digit byte) (byte == 95) is)

ascii_name : (name : List ℕ) → list_all is_name_byte name ≡ true → IsAscii name
ascii_name [] is i = omega arith
ascii_name (byte ∷ bytes) is zero = ascii_byte byte (both (is_name_byte byte) (list_all is_name_byte bytes) is).0
ascii_name (byte ∷ bytes) is (suc i) = ascii_name bytes (both (is_name_byte byte) (list_all is_name_byte bytes) is).1 i

pub name_is : (name : List ℕ) → is_name name ≡ true → IsName name
name_is [] is = cc
name_is (first ∷ rest) is =
    let two = both (not (is_ascii_digit first) && nat_le (length rest) 15) (list_all is_name_byte (first ∷ rest)) is in
    let short = leb-true (length rest) 15 (both (not (is_ascii_digit first)) (nat_le (length rest) 15) two.0).1 in
    record {
      some = omega arith;
      most = omega (arith, short);
      text = IsUtf8-from_ascii (first ∷ rest) (ascii_name (first ∷ rest) two.1);
    }

-- what the values of a column are to be is one that a column of a table may have
text_within : (max : ℕ) (test : Bool) → (test ≡ true → (1 ≤ max) × (max ≤ 998)) → IfSome (if test then Some (Text max) else None) IsStoredKind
text_within max true within = within refl
text_within max false within = tt

text_is : (max : ℕ) → IfSome (text_kind max) IsStoredKind
text_is max = text_within max (nat_le 1 max && nat_le max 998) (λ is.
    let two = both (nat_le 1 max) (nat_le max 998) is in (leb-true 1 max two.0, leb-true max 998 two.1))

counted_is : (count : Option ℕ) → IfSome (option_and_then text_kind count) IsStoredKind
counted_is None = tt
counted_is (Some max) = text_is max

chosen : {X : Type 0} (test : Bool) (x y : Option X) (P : X → Type 0) → IfSome x P → IfSome y P → IfSome (if test then x else y) P
chosen true x y P first second = first
chosen false x y P first second = second

kind_is : (word : List ℕ) → IfSome (kind_of word) IsStoredKind
kind_is word =
    chosen (pointwise nat_eq word (codes "int")) (Some Int) (if starts_with nat_eq word (codes "text:") then option_and_then text_kind (count_of (drop 5 word)) else None) IsStoredKind tt
    (chosen (starts_with nat_eq word (codes "text:")) (option_and_then text_kind (count_of (drop 5 word))) None IsStoredKind (counted_is (count_of (drop 5 word))) tt)

named_before : (name : List ℕ) (kind : Option ColKind) (columns : Option (List Column)) → IsName name → IfSome kind IsStoredKind → IfSome columns (AllByRecursion IsColumn)
    → IfSome (column_before name kind columns) (AllByRecursion IsColumn)
named_before name None columns named stored are = tt
named_before name (Some kind) None named stored are = tt
named_before name (Some kind) (Some columns) named stored are = (record { name = named; kind = stored }, are)

before_is : (name : List ℕ) (kind : Option ColKind) (columns : Option (List Column)) (test : Bool) → (test ≡ true → IsName name) → IfSome kind IsStoredKind
    → IfSome columns (AllByRecursion IsColumn) → IfSome (column_before name (if test then kind else None) columns) (AllByRecursion IsColumn)
before_is name kind columns true named stored are = named_before name kind columns (named refl) stored are
before_is name kind columns false named stored are = tt

column_is : (name kind : List ℕ) (columns : Option (List Column)) → IfSome columns (AllByRecursion IsColumn) → IfSome (column_before name (column_kind name kind) columns) (AllByRecursion IsColumn)
column_is name kind columns are = before_is name (kind_of kind) columns (is_name name) (name_is name) (kind_is kind) are

columns_are : (words : List (List ℕ)) → IfSome (columns_of words) (AllByRecursion IsColumn)
unfolding columns_of
columns_are [] = tt
columns_are (name ∷ []) = tt
columns_are (name ∷ kind ∷ words) = column_is name kind (columns_of words) (columns_are words)

-- 1 to 16 columns
count_is : (columns : List Column) → (nat_le 1 (length columns) && nat_le (length columns) 16) ≡ true → (1 ≤ length columns) × (length columns ≤ 16)
count_is columns is =
    let two = both (nat_le 1 (length columns)) (nat_le (length columns) 16) is in
    (leb-true 1 (length columns) two.0, leb-true (length columns) 16 two.1)

-- columns that are read of words are columns that a table may have
counted_fit : (columns : List Column) (test : Bool) (read : Result (List Column) Memory) → (test ≡ true → (1 ≤ length columns) × (length columns ≤ 16)) → AllByRecursion IsColumn columns
    → ReadsColumns (if test then Some columns else None) (Some read) → IfOk read AreColumns
counted_fit columns true (Ok them) within each read = let count = within refl in rw read (count.0, count.1, each)
counted_fit columns true (Err memory) within each read = tt
counted_fit columns false read within each reads = absurd reads

read_fit : (columns : Option (List Column)) (read : Option (Result (List Column) Memory)) → IfSome columns (AllByRecursion IsColumn) → ReadsColumns (option_and_then some_columns columns) read
    → IfSome read (λ read. IfOk read AreColumns)
read_fit columns None each reads = tt
read_fit None (Some read) each reads = absurd reads
read_fit (Some columns) (Some read) each reads = counted_fit columns (nat_le 1 (length columns) && nat_le (length columns) 16) read (count_is columns) each reads

pub columns_fit : (words : List (List ℕ)) (read : Option (Result (List Column) Memory)) → ReadsColumns (option_and_then some_columns (columns_of words)) read
    → IfSome read (λ read. IfOk read AreColumns)
columns_fit words read = read_fit (columns_of words) read (columns_are words)
