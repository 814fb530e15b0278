-- Rows are the same exactly where they are equal.
use Rattle.std.specs.Prelude.{◌≡◌, true, [], ◌∷◌}
use Rattle.std.specs.Cmp.{Equal-is}
use Rattle.std.specs.Cmp.Lexicographic.{slice_cmp}
use Rattle.std.specs.Ordering.{int_cmp, is_eq, nat_cmp}
use Rattle.std.proofs.Common.{refl, ap, ◌∙◌}
use Rattle.std.proofs.lemmas.Bool.{and_from, and_parts, false≢true}
use Rattle.std.proofs.lemmas.Cmp.{tied_itself}
use Rattle.qsr_lists.specs.Lists.{IsEquality}
use Rattle.qsr_value.specs.declared.row.Value.{Value}
use Rattle.qsr_value.specs.declared.row.Value.TheVariants.{Int, Text}
use Rattle.qsr_value.proofs.ValueOrder.{ties_are_equal, values_total}
use Rattle.sql_mean.specs.Rows.{Row, same_value, same_row}

value_equal : (v w : Value) → same_value v w ≡ true → v ≡ w
value_equal (Int m) (Int n) same = ties_are_equal (Int m) (Int n) ((Equal-is (int_cmp m n)).0 same)
value_equal (Text s) (Text t) same = ties_are_equal (Text s) (Text t) ((Equal-is (slice_cmp nat_cmp s t)).0 same)
value_equal (Int m) (Text t) same = absurd (false≢true same)
value_equal (Text s) (Int n) same = absurd (false≢true same)

value_itself : (v : Value) → same_value v v ≡ true
value_itself (Int m) = ap is_eq (tied_itself values_total (Int m))
value_itself (Text s) = ap is_eq (tied_itself values_total (Text s))

row_equal : (a b : Row) → same_row a b ≡ true → a ≡ b
row_equal [] [] same = refl
row_equal (v ∷ vs) (w ∷ ws) same =
    let parts = and_parts (same_value v w) (same_row vs ws) same in
    ap (λ u. u ∷ vs) (value_equal v w parts.0) ∙ ap (λ us. w ∷ us) (row_equal vs ws parts.1)
row_equal [] (w ∷ ws) same = absurd (false≢true same)
row_equal (v ∷ vs) [] same = absurd (false≢true same)

row_itself : (a : Row) → same_row a a ≡ true
row_itself [] = refl
row_itself (v ∷ vs) = and_from (same_value v v) (same_row vs vs) (value_itself v) (row_itself vs)

pub rows_are_equal : IsEquality same_row
rows_are_equal = record { equal = row_equal; itself = row_itself }
