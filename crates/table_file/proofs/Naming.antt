-- How a name is looked for, one place after another.
use Rattle.std.proofs.Common.{◌≡◌, ℕ, suc, ◌+◌, ◌<◌, ◌||◌, Bool, true, false, if◌then◌else◌, List, [], ◌∷◌, length, map, drop, get_or, Some, None, Option, refl, sym, ap, ◌∙◌, arith}
use Rattle.std.proofs.lemmas.Bool.{cond-true, cond-false}
use Rattle.std.proofs.Math.Seq.{drop-cons}
use Rattle.std.specs.Option.{option_map, is_some}
use Rattle.qsr_value.specs.declared.schema.Column.{Column}
use Rattle.qsr_value.specs.Names.{is_among, same_name}
use Rattle.table_file.specs.Refusals.{column_names}
use Rattle.table_file.specs.Tables.{place_of}
use Rattle.table_file.specs.declared.entries.TableEntry.{TableEntry}

-- what is left begins with the next
pub drop_next : {A : Type 0} (l : List A) (i : ℕ) (x : A) → i < length l → x ≡ get_or l i x → drop i l ≡ x ∷ drop (i + 1) l
drop_next l i x low is =
    let one : suc i ≡ i + 1 = omega arith in
    drop-cons l i x low ∙ ap (λ y. y ∷ drop (suc i) l) (sym is) ∙ ap (λ (n : ℕ). x ∷ drop n l) one

-- a name among columns: that of the next one, or one behind it
pub among_next : (name : List ℕ) (columns : List Column) (i : ℕ) (column : Column) → i < length columns → column ≡ get_or columns i column
    → is_among name (column_names (drop i columns)) ≡ same_name column.name name || is_among name (column_names (drop (i + 1) columns))
among_next name columns i column low is = ap (λ (l : List Column). is_among name (column_names l)) (drop_next columns i column low is)

pub place_next : (name : List ℕ) (tables : List TableEntry) (i : ℕ) (entry : TableEntry) → i < length tables → entry ≡ get_or tables i entry
    → place_of name (map (λ table. table.name) (drop i tables))
    ≡ if same_name entry.name name then Some 0 else option_map suc (place_of name (map (λ table. table.name) (drop (i + 1) tables)))
place_next name tables i entry low is = ap (λ (l : List TableEntry). place_of name (map (λ table. table.name) l)) (drop_next tables i entry low is)

-- a place behind so many, and one more
pub place_behind : (i : ℕ) (place : Option ℕ) → option_map (λ k. i + k) (option_map suc place) ≡ option_map (λ k. i + 1 + k) place
place_behind i None = refl
place_behind i (Some k) = ap (λ (n : ℕ). Some n) (omega arith)

-- the next table has the name, or the name is to be found behind it
pub found_here : (name : List ℕ) (tables : List TableEntry) (i : ℕ) (entry : TableEntry) (place : Option ℕ) → i < length tables → entry ≡ get_or tables i entry
    → same_name entry.name name ≡ true → place ≡ option_map (λ k. i + k) (place_of name (map (λ table. table.name) (drop i tables))) → place ≡ Some i
found_here name tables i entry place low is same left =
    let none : i + 0 ≡ i = omega arith in
    left ∙ ap (option_map (λ k. i + k)) (place_next name tables i entry low is ∙ cond-true (same_name entry.name name) _ _ same) ∙ ap (λ (n : ℕ). Some n) none

pub found_later : (name : List ℕ) (tables : List TableEntry) (i : ℕ) (entry : TableEntry) (place : Option ℕ) → i < length tables → entry ≡ get_or tables i entry
    → same_name entry.name name ≡ false → place ≡ option_map (λ k. i + k) (place_of name (map (λ table. table.name) (drop i tables)))
    → place ≡ option_map (λ k. i + 1 + k) (place_of name (map (λ table. table.name) (drop (i + 1) tables)))
found_later name tables i entry place low is other left =
    left ∙ ap (option_map (λ k. i + k)) (place_next name tables i entry low is ∙ cond-false (same_name entry.name name) _ _ other)
    ∙ place_behind i (place_of name (map (λ table. table.name) (drop (i + 1) tables)))

among_step : (here : Bool) (place : Option ℕ) (there : Bool) → is_some place ≡ there
    → is_some (if here then Some 0 else option_map suc place) ≡ here || there
among_step true place there same = refl
among_step false None there same = same
among_step false (Some k) there same = same

-- a name is among others where it has a place
pub among_place : (name : List ℕ) (names : List (List ℕ)) → is_some (place_of name names) ≡ is_among name names
among_place name [] = refl
among_place name (other ∷ others) = among_step (same_name other name) (place_of name others) (is_among name others) (among_place name others)
