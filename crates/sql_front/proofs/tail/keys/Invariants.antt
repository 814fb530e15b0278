use Rattle.std.proofs.Common.{◌≡◌, length}
use Rattle.sql_front.specs.Machine.{first_key_k, want_key}
use Rattle.sql_front.specs.Reads.{runs}
use Rattle.sql_front.specs.Tail.{key_behind}
use Rattle.sql_front.specs.Tree.{Group}
use Rattle.sql_front.proofs.tail.keys.Given as goal

abbrev pub invariant-keys : goal.invariant-keys
invariant-keys l = (g : Group) → runs (want_key (first_key_k g)) l.fn.input ≡ runs (want_key (key_behind g l.keys)) l.input

abbrev pub decreases-keys : goal.decreases-keys
decreases-keys l = length l.input.rest
