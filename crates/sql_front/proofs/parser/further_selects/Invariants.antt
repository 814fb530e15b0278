use Rattle.std.proofs.Common.{◌≡◌, ◌-◌, ◌≤◌}
use Rattle.sql_front.specs.Reads.{at_union}
use Rattle.sql_front.specs.Spell.{tables_group}
use Rattle.sql_front.specs.View.{more_selects}
use Rattle.sql_front.specs.Tree.{Group}
use Rattle.sql_front.proofs.parser.further_selects.Given as goal

abbrev pub invariant-loop-ahead : goal.invariant-loop-ahead
invariant-loop-ahead l = record {
  led : (g : Group) → tables_group g ≡ l.fn.tables → at_union g l.fn.words l.fn.input ≡ at_union (more_selects g l.more) l.ahead l.input;
  counted : (g : Group) → tables_group g ≡ l.fn.tables → tables_group (more_selects g l.more) ≡ l.count;
  most : l.count ≤ 4;
}

abbrev pub decreases-loop-ahead : goal.decreases-loop-ahead
decreases-loop-ahead l = 4 - l.count
