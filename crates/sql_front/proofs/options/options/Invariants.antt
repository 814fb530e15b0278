use Rattle.std.proofs.Common.{◌≡◌, length}
use Rattle.sql_front.specs.Machine.{first_opt_k, want_opt}
use Rattle.sql_front.specs.Reads.{runs}
use Rattle.sql_front.specs.Tail.{option_behind}
use Rattle.sql_front.specs.Tree.{Limited}
use Rattle.sql_front.proofs.options.options.Given as goal

abbrev pub invariant-options : goal.invariant-options
invariant-options l = (before : Limited) → runs (want_opt (first_opt_k before)) l.fn.input ≡ runs (want_opt (option_behind before l.options)) l.input

abbrev pub decreases-options : goal.decreases-options
decreases-options l = length l.input.rest
