-- Why a table isn't created.
use Rattle.std.proofs.Common.{◌≡◌, ℕ, ◌<◌, ◌≤◌, ◌||◌, Bool, true, false, cond, List, length, Option, Some, None, refl, ◌∙◌}
use Rattle.std.proofs.lemmas.Bool.{cond-true, cond-false, ltb-false, leb-false, lt-ltb, le-ltb, le-leb, lt-leb}
use Rattle.qsr_value.specs.Columns.{width_of}
use Rattle.qsr_value.specs.declared.schema.Column.{Column}
use Rattle.qsr_value.specs.Names.{is_among}
use Rattle.table_file.specs.Refusals.{column_names, create_refusal, repeats}
use Rattle.table_file.specs.declared.fault.TableFault.TheVariants.{Exists, CatalogFull, RowTooWide}

abbrev pub is_taken : List (List ℕ) → List ℕ → List Column → Bool
is_taken tables name columns = is_among name tables || repeats (column_names columns)

pub told_taken : (tables : List (List ℕ)) (name : List ℕ) (columns : List Column) → is_taken tables name columns ≡ true → create_refusal tables name columns ≡ Some Exists
told_taken tables name columns taken = cond-true (is_taken tables name columns) _ _ taken

pub told_wide : (tables : List (List ℕ)) (name : List ℕ) (columns : List Column) → is_taken tables name columns ≡ false → 1000 < width_of columns
    → create_refusal tables name columns ≡ Some (RowTooWide (width_of columns))
told_wide tables name columns free wide = cond-false (is_taken tables name columns) _ _ free ∙ cond-true _ _ _ (lt-ltb 1000 (width_of columns) wide)

pub told_full : (tables : List (List ℕ)) (name : List ℕ) (columns : List Column) → is_taken tables name columns ≡ false → width_of columns ≤ 1000 → 16 ≤ length tables
    → create_refusal tables name columns ≡ Some CatalogFull
told_full tables name columns free narrow full =
    cond-false (is_taken tables name columns) _ _ free ∙ cond-false _ _ _ (le-ltb 1000 (width_of columns) narrow) ∙ cond-true _ _ _ (le-leb 16 (length tables) full)

pub told_none : (tables : List (List ℕ)) (name : List ℕ) (columns : List Column) → is_taken tables name columns ≡ false → width_of columns ≤ 1000 → length tables < 16
    → create_refusal tables name columns ≡ None
told_none tables name columns free narrow few =
    cond-false (is_taken tables name columns) _ _ free ∙ cond-false _ _ _ (le-ltb 1000 (width_of columns) narrow) ∙ cond-false _ _ _ (lt-leb 16 (length tables) few)

-- nothing is refused where no test found a reason
none_left : {T : Type 0} (b : Bool) (reason : T) (rest : Option T) → cond b (Some reason) rest ≡ None → (b ≡ false) × (rest ≡ None)
none_left true reason rest none = absurd (cc)
none_left false reason rest none = (refl, none)

pub record IsAccepted (tables : List (List ℕ)) (columns : List Column) : Type 0 where
  pub width : width_of columns ≤ 1000
  pub few : length tables < 16

pub accepted : (tables : List (List ℕ)) (name : List ℕ) (columns : List Column) → create_refusal tables name columns ≡ None → IsAccepted tables columns
accepted tables name columns none =
    let named = none_left _ _ _ none in
    let wide = none_left _ _ _ named.1 in
    let full = none_left _ _ _ wide.1 in
    record { width = ltb-false 1000 (width_of columns) wide.0; few = leb-false 16 (length tables) full.0 }
