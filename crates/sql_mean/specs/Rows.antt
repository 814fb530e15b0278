-- Rows, and when two of them are equal.
use Rattle.std.specs.Prelude.{Bool, true, false, ◌&&◌, List, [], ◌∷◌}
use Rattle.std.specs.Cmp.Lexicographic.{slice_cmp}
use Rattle.std.specs.Ordering.{int_cmp, is_eq, nat_cmp}
use Rattle.qsr_value.specs.declared.row.Value.{Value}
use Rattle.qsr_value.specs.declared.row.Value.TheVariants.{Int, Text}

abbrev pub Row : Type 0
Row = List Value

-- two values of one kind that are equal
abbrev pub same_value : Value → Value → Bool
same_value (Int m) (Int n) = is_eq (int_cmp m n)
same_value (Text s) (Text t) = is_eq (slice_cmp nat_cmp s t)
same_value (Int m) (Text t) = false
same_value (Text s) (Int n) = false

-- two rows of equal values
abbrev pub same_row : Row → Row → Bool
same_row [] [] = true
same_row (v ∷ vs) (w ∷ ws) = same_value v w && same_row vs ws
same_row [] (w ∷ ws) = false
same_row (v ∷ vs) [] = false
