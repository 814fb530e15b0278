use Rattle.std.proofs.Common.{◌≡◌, length}
use Rattle.sql_front.specs.Machine.{first_item_k, follow_items}
use Rattle.sql_front.specs.Reads.{runs_on, begin_listed}
use Rattle.sql_front.specs.Tree.{Select, first_item}
use Rattle.sql_front.specs.View.{item_tree, more_items}
use Rattle.sql_front.proofs.items.listed.Given as goal

abbrev pub invariant-loop-more : goal.invariant-loop-more
invariant-loop-more l = (s : Select) → runs_on (begin_listed (first_item_k s)) l.fn.input ≡ runs_on (follow_items (more_items (first_item s (item_tree l.first)) l.more)) l.input

abbrev pub decreases-loop-more : goal.decreases-loop-more
decreases-loop-more l = length l.input.rest
