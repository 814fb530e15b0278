-- What a list ends as of which an item is lent.
use Rattle.std.specs.Prelude.{ℕ, List, slice_set}
use Rattle.std.specs.Borrow.{Fml, Lends, MutBor, RattleType}
use Rattle.qsr_value.specs.contracts.list.ListOf.{the_row}

-- once the borrow ends, the item at this place is what was last written through it
abbrev pub LendsItem : (T : RattleType) → MutBor (List T.Denot) → ℕ → MutBor T.Denot → Fml
LendsItem T list at item = Lends (the_row T) T list item (slice_set list.now at)
