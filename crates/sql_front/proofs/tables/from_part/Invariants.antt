use Rattle.std.proofs.Common.{◌≡◌, ◌<◌, ◌≤◌, ◌-◌}
use Rattle.sql_front.specs.Reads.{runs_on, begin_from, at_ahead}
use Rattle.sql_front.specs.Spell.{tables_items, tables_from}
use Rattle.sql_front.specs.Tree.{Items}
use Rattle.sql_front.specs.View.{from_tree}
use Rattle.sql_front.proofs.tables.from_part.Given as goal

abbrev pub invariant-loop-ahead : goal.invariant-loop-ahead
invariant-loop-ahead l = record {
  led : (i : Items) → tables_items i ≡ l.fn.tables → runs_on (begin_from i) l.fn.input ≡ at_ahead (from_tree i l.table l.more) l.ahead l.input;
  counted : (i : Items) → tables_items i ≡ l.fn.tables → tables_from (from_tree i l.table l.more) ≡ l.count;
  most : l.count ≤ 4;
  grows : l.fn.tables < l.count;
}

abbrev pub decreases-loop-ahead : goal.decreases-loop-ahead
decreases-loop-ahead l = 4 - l.count
