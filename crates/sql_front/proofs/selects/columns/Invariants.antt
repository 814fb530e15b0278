use Rattle.std.proofs.Common.{◌≡◌, length}
use Rattle.sql_front.specs.Machine.{want_column, group_k, first_group_k}
use Rattle.sql_front.specs.Reads.{runs}
use Rattle.sql_front.specs.Tree.{Where}
use Rattle.sql_front.proofs.SelectLemmas.{waits}
use Rattle.sql_front.proofs.selects.columns.Given as goal

abbrev pub invariant-loop-columns : goal.invariant-loop-columns
invariant-loop-columns l = (h : Where) → runs (want_column (group_k (first_group_k h))) l.fn.input ≡ runs (want_column (group_k (waits h l.columns))) l.input

abbrev pub decreases-loop-columns : goal.decreases-loop-columns
decreases-loop-columns l = length l.input.rest
