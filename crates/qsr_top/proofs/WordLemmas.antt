-- Words by pairs.
use Rattle.std.proofs.Common.{◌≡◌, ℕ, ◌-◌, ◌*◌, false, ◌<◌, ◌≤◌, suc, List, [], ◌∷◌, ◌++◌, length, map, Option, None, Some, true, refl, sym, ap, subst, arith, ◌∙◌}
use Rattle.std.proofs.lemmas.Bool.{eqb-true, le-leb, lt-leb}
use Rattle.std.proofs.lemmas.List.{append-nil, append_assoc, length-map}
use Rattle.std.proofs.Math.Seq.{take-length}
use Rattle.std.proofs.Math.Bool.{and-false}
use Rattle.std.specs.Prelude.{slice_index_or, take, drop, IfSome, Result, Ok, Err, nat_le, ◌==◌, if◌then◌else◌}
use Rattle.std.specs.Option.{option_and_then, option_map}
use Rattle.qsr_value.specs.declared.kind.ColKind.{ColKind}
use Rattle.qsr_value.specs.declared.failure.Memory.{Memory}
use Rattle.qsr_value.specs.declared.schema.Column.{Column}
use Rattle.qsr_top.specs.Words.{AreRead, NamedCommand, ReadsColumns, column_before, column_kind, columns_of, command_of, create, load, some_columns}

-- no command is named by fewer than two words
pub short_command : {X : Type 0} (f : X → List ℕ) (xs : List X) → length xs < 2 → command_of (map f xs) ≡ None
short_command f [] short = refl
short_command f (file ∷ []) short = refl
short_command f (file ∷ command ∷ xs) short = absurd (omega (arith, short))

-- the first two words are a column, and those behind them the others
pub by_two : {X : Type 0} (f : X → List ℕ) (xs : List X) (x y : X) (name kind : List ℕ) → 2 ≤ length xs → x ≡ slice_index_or xs 0 x → y ≡ slice_index_or xs 1 y
    → name ≡ f x → kind ≡ f y → columns_of (map f xs) ≡ column_before name (column_kind name kind) (columns_of (map f (take (length xs - 2) (drop 2 xs))))
unfolding columns_of
by_two f [] x y name kind long first second names kinds = absurd (omega (arith, long))
by_two f (a ∷ []) x y name kind long first second names kinds = absurd (omega (arith, long))
by_two f (a ∷ b ∷ xs) x y name kind long first second names kinds =
    let name_is : name ≡ f a = names ∙ ap f first in
    let kind_is : kind ≡ f b = kinds ∙ ap f second in
    let same : take (length (a ∷ b ∷ xs) - 2) xs ≡ xs = let count : length (a ∷ b ∷ xs) - 2 ≡ length xs = omega arith in rw count (take-length xs) in
    rw (name_is, kind_is, same) refl

-- fewer words are no columns, or none at all
pub few_words : {X : Type 0} (f : X → List ℕ) (xs : List X) → length xs < 2 → columns_of (map f xs) ≡ (if length xs == 0 then Some [] else None)
unfolding columns_of
few_words f [] short = refl
few_words f (a ∷ []) short = refl
few_words f (a ∷ b ∷ xs) short = absurd (omega (arith, short))

-- columns have two words each
pair_before : (name : List ℕ) (kind : Option ColKind) (n : ℕ) (columns : Option (List Column)) → IfSome columns (λ columns. n ≡ 2 * length columns)
    → IfSome (column_before name kind columns) (λ columns. suc (suc n) ≡ 2 * length columns)
pair_before name None n columns two = record {}
pair_before name (Some kind) n None two = record {}
pair_before name (Some kind) n (Some columns) two = omega (arith, two)

pub two_words_each : (words : List (List ℕ)) → IfSome (columns_of words) (λ columns. length words ≡ 2 * length columns)
unfolding columns_of
two_words_each [] = refl
two_words_each (name ∷ []) = record {}
two_words_each (name ∷ kind ∷ words) = pair_before name (column_kind name kind) (length words) (columns_of words) (two_words_each words)

-- 1 to 32 words are 1 to 16 columns, where they are columns, and others are not
counted : (n : ℕ) (columns : Option (List Column)) → 1 ≤ n → n ≤ 32 → IfSome columns (λ columns. n ≡ 2 * length columns) → option_and_then some_columns columns ≡ columns
counted n None some few two = refl
counted n (Some columns) some few two =
    let least : nat_le 1 (length columns) ≡ true = le-leb 1 (length columns) (omega (arith, some, two)) in
    let most : nat_le (length columns) 16 ≡ true = le-leb (length columns) 16 (omega (arith, few, two)) in
    rw (least, most) refl

too_many : (n : ℕ) (columns : Option (List Column)) → 32 < n → IfSome columns (λ columns. n ≡ 2 * length columns) → option_and_then some_columns columns ≡ None
too_many n None many two = refl
too_many n (Some columns) many two =
    let more : nat_le (length columns) 16 ≡ false = lt-leb (length columns) 16 (omega (arith, many, two)) in
    rw (more, and-false (nat_le 1 (length columns))) refl

pub no_words : {X : Type 0} (f : X → List ℕ) (xs : List X) → (length xs == 0) ≡ true → option_and_then some_columns (columns_of (map f xs)) ≡ None
unfolding columns_of
no_words f [] none = refl
no_words f (x ∷ xs) none = absurd (omega (arith, eqb-true (length (x ∷ xs)) 0 none))

pub too_many_words : {X : Type 0} (f : X → List ℕ) (xs : List X) → 32 < length xs → option_and_then some_columns (columns_of (map f xs)) ≡ None
too_many_words f xs many = too_many (length (map f xs)) (columns_of (map f xs)) (omega (arith, many, length-map xs f)) (two_words_each (map f xs))

-- the columns that are read of 1 to 32 words, behind none
counted_read : (n : ℕ) (columns : Option (List Column)) (read : Option (Result (List Column) Memory)) → 1 ≤ n → n ≤ 32 → IfSome columns (λ columns. n ≡ 2 * length columns)
    → ReadsColumns (option_map (λ more. [] ++ more) columns) read → ReadsColumns (option_and_then some_columns columns) read
counted_read n None read some few two reads = reads
counted_read n (Some columns) read some few two reads = rw (counted n (Some columns) some few two) reads

pub words_read : {X : Type 0} (f : X → List ℕ) (xs : List X) (read : Option (Result (List Column) Memory)) → (length xs == 0) ≡ false → length xs ≤ 32
    → ReadsColumns (option_map (λ more. [] ++ more) (columns_of (map f xs))) read → ReadsColumns (option_and_then some_columns (columns_of (map f xs))) read
words_read f [] read some few reads = cc
words_read f (x ∷ xs) read some few reads =
    counted_read (length (map f (x ∷ xs))) (columns_of (map f (x ∷ xs))) read (omega arith) (omega (arith, few, length-map (x ∷ xs) f)) (two_words_each (map f (x ∷ xs))) reads

-- a column and others behind it
pub column_read : (front : List Column) (name : List ℕ) (kind : ColKind) (behind : Option (List Column))
    → option_map (λ more. (front ++ record { name = name; kind = kind } ∷ []) ++ more) behind ≡ option_map (λ more. front ++ more) (column_before name (Some kind) behind)
column_read front name kind None = refl
column_read front name kind (Some behind) = ap Some (append_assoc front (record { name = name; kind = kind } ∷ []) behind)

-- no columns behind some
pub columns_read : (front : List Column) (read : Result (List Column) Memory) → AreRead front read → ReadsColumns (option_map (λ more. front ++ more) (Some [])) (Some read)
columns_read front (Ok them) are = are ∙ sym (append-nil front)
columns_read front (Err memory) are = tt

-- the name and the columns of a command that was read are those of the words
pub create_read : {named : Option NamedCommand} {name held : List ℕ} {columns : List Column} (read : Result (List Column) Memory) → named ≡ Some (create name columns)
    → (them : List Column) × (named ≡ Some (create held them)) × AreRead them read → (held ≡ name) × AreRead columns read
create_read {columns = columns} read is (them, named, are) =
    let same : them ≡ columns = cc in
    (cc, subst (λ (columns : List Column). AreRead columns read) same are)

pub load_read : {named : Option NamedCommand} {name held : List ℕ} → named ≡ Some (load name) → named ≡ Some (load held) → held ≡ name
load_read is named = cc
