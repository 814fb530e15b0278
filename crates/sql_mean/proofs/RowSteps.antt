-- Rows of two lengths differ; and one turn of the loop that keeps each row once.
use Rattle.std.proofs.Common.{◌≡◌, ◌≢◌, refl, sym, ap, ◌∙◌, inl, inr, ℕ, suc, ◌+◌, ◌<◌, false, ◌&&◌, List, [], ◌∷◌, ◌++◌, length, take, get_or}
use Rattle.std.specs.Prelude.{if◌then◌else◌}
use Rattle.std.specs.List.{list_any}
use Rattle.std.proofs.Math.Bool.{and-false}
use Rattle.std.proofs.lemmas.Bool.{cases_Bool}
use Rattle.std.proofs.lemmas.List.{take_more}
use Rattle.qsr_lists.specs.Lists.{firsts}
use Rattle.qsr_lists.proofs.Firsts.{firsts_known, firsts_new}
use Rattle.sql_mean.specs.Rows.{Row, same_value, same_row}
use Rattle.sql_mean.proofs.Equal.{rows_are_equal}

-- rows of two lengths aren't the same
pub of_two_lengths : (a b : Row) → length a ≢ length b → same_row a b ≡ false
of_two_lengths [] [] differ = absurd (differ refl)
of_two_lengths [] (w ∷ ws) differ = refl
of_two_lengths (v ∷ vs) [] differ = refl
of_two_lengths (v ∷ vs) (w ∷ ws) differ =
    ap (λ b. same_value v w && b) (of_two_lengths vs ws (λ same. differ (ap suc same))) ∙ and-false (same_value v w)

-- the firsts of some rows, and of one row more
one_more : (once : List Row) (row : Row) (before : List Row) → once ≡ firsts same_row before
    → (if list_any (λ other. same_row other row) once then once else once ++ row ∷ []) ≡ firsts same_row (before ++ row ∷ [])
one_more once row before is = elim (cases_Bool (list_any (λ other. same_row other row) once)) [
  | inl known ↦ rw known (is ∙ sym (firsts_known same_row rows_are_equal before row (ap (λ rows. list_any (λ other. same_row other row) rows) (sym is) ∙ known)))
  | inr new ↦ rw new (ap (λ rows. rows ++ row ∷ []) is
      ∙ sym (firsts_new same_row rows_are_equal before row (ap (λ rows. list_any (λ other. same_row other row) rows) (sym is) ∙ new)))
]

-- a row that isn't there yet, pushed
pub firsts_on : (rows : List Row) (i : ℕ) (row : Row) (once more : List Row) → i < length rows → row ≡ get_or rows i row → once ≡ firsts same_row (take i rows)
    → more ≡ (if list_any (λ other. same_row other row) once then once else once ++ row ∷ []) → more ≡ firsts same_row (take (i + 1) rows)
firsts_on rows i row once more low is so_far pushed =
    pushed ∙ one_more once row (take i rows) so_far
    ∙ ap (λ r. firsts same_row (take i rows ++ r ∷ [])) is ∙ ap (firsts same_row) (sym (take_more rows i row low))
