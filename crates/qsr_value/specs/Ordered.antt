-- The order of rows by some of their columns.
use Rattle.std.specs.Prelude.{List, [], ◌∷◌, cond, ⊤, Option, Some, None}
use Rattle.std.specs.Cmp.Lexicographic.{slice_cmp}
use Rattle.std.specs.List.{slice_get}
use Rattle.std.specs.Ordering.{int_cmp, nat_cmp, ordering_reverse, ordering_then}
use Rattle.std.specs.declared.cmp.Ordering.{Ordering}
use Rattle.std.specs.declared.cmp.Ordering.TheVariants.{Less, Equal, Greater}
use Rattle.qsr_value.specs.declared.row.Value.{Value}
use Rattle.qsr_value.specs.declared.row.Value.TheVariants.{Int, Text}
use Rattle.qsr_value.specs.declared.compare.SortKey.{SortKey}

-- whole numbers by value, texts by their bytes, and a number before a text
abbrev pub compare_values : Value → Value → Ordering
compare_values (Int m) (Int n) = int_cmp m n
compare_values (Text s) (Text t) = slice_cmp nat_cmp s t
compare_values (Int m) (Text t) = Less
compare_values (Text s) (Int n) = Greater

-- two values that are there
abbrev pub AreThere : Option Value → Option Value → Type 0
AreThere (Some v) (Some w) = ⊤
AreThere (Some v) None = ⊥
AreThere None w = ⊥

-- each key's column is in both rows
abbrev pub HaveKeys : List SortKey → List Value → List Value → Type 0
HaveKeys [] a b = ⊤
HaveKeys (key ∷ keys) a b = AreThere (slice_get a key.column) (slice_get b key.column) × HaveKeys keys a b

abbrev pub compare_there : Option Value → Option Value → Ordering
compare_there (Some v) (Some w) = compare_values v w
compare_there (Some v) None = Equal
compare_there None w = Equal

-- by one key
abbrev pub compare_at : SortKey → List Value → List Value → Ordering
compare_at key a b =
    let order = compare_there (slice_get a key.column) (slice_get b key.column) in
    cond key.descending (ordering_reverse order) order

-- by the keys in turn: the first that tells the rows apart decides
abbrev pub compare_by : List SortKey → List Value → List Value → Ordering
compare_by [] a b = Equal
compare_by (key ∷ keys) a b = ordering_then (compare_at key a b) (compare_by keys a b)
