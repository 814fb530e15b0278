-- Values are totally ordered.
use Rattle.std.specs.Prelude.{◌≡◌}
use Rattle.std.specs.Cmp.{IsTotalOrder}
use Rattle.std.specs.FinMap.{int_cmp-IsAntisymmetric, slice_cmp-IsAntisymmetric, nat_cmp-IsAntisymmetric}
use Rattle.std.specs.Ordering.{ordering_reverse}
use Rattle.std.specs.declared.cmp.Ordering.TheVariants.{Less, Equal}
use Rattle.std.proofs.Common.{refl, ap}
use Rattle.std.proofs.lemmas.Cmp.{int_cmp_total, nat_list_cmp_total}
use Rattle.qsr_value.specs.Ordered.{compare_values}
use Rattle.qsr_value.specs.declared.row.Value.{Value}
use Rattle.qsr_value.specs.declared.row.Value.TheVariants.{Int, Text}

turns_round : (v w : Value) → compare_values v w ≡ ordering_reverse (compare_values w v)
turns_round (Int m) (Int n) = int_cmp_total.antisymm m n
turns_round (Text s) (Text t) = nat_list_cmp_total.antisymm s t
turns_round (Int m) (Text t) = refl
turns_round (Text s) (Int n) = refl

goes_on : (u v w : Value) → compare_values u v ≡ Less → compare_values v w ≡ Less → compare_values u w ≡ Less
goes_on (Int l) (Int m) (Int n) first second = int_cmp_total.trans l m n first second
goes_on (Int l) v (Text t) first second = refl
goes_on (Int l) (Text s) (Int n) first second = cc
goes_on (Text r) (Int m) w first second = cc
goes_on (Text r) (Text s) (Int n) first second = cc
goes_on (Text r) (Text s) (Text t) first second = nat_list_cmp_total.trans r s t first second

ties_agree : (u v w : Value) → compare_values u v ≡ Equal → compare_values u w ≡ compare_values v w
ties_agree (Int l) (Int m) (Int n) same = int_cmp_total.congr l m n same
ties_agree (Int l) (Int m) (Text t) same = refl
ties_agree (Int l) (Text s) w same = cc
ties_agree (Text r) (Int m) w same = cc
ties_agree (Text r) (Text s) (Int n) same = refl
ties_agree (Text r) (Text s) (Text t) same = nat_list_cmp_total.congr r s t same

pub values_total : IsTotalOrder compare_values
values_total = record { antisymm = turns_round; trans = goes_on; congr = ties_agree }

-- values that tie are equal
pub ties_are_equal : (v w : Value) → compare_values v w ≡ Equal → v ≡ w
ties_are_equal (Int m) (Int n) same = ap Int (int_cmp-IsAntisymmetric m n same)
ties_are_equal (Text s) (Text t) same = ap Text (slice_cmp-IsAntisymmetric nat_cmp-IsAntisymmetric s t same)
ties_are_equal (Int m) (Text t) same = cc
ties_are_equal (Text s) (Int n) same = cc
