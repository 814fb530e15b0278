use Rattle.std.proofs.Common.{◌≡◌, ◌+◌, drop}
use Rattle.sql_mean.specs.Meaning.{place_among}
use Rattle.sql_mean.proofs.groups.place_among.Given as goal

-- the column is to be found among those that are left
abbrev pub invariant-loop-other : goal.invariant-loop-other
invariant-loop-other l = record {
  at : l.place ≡ l.other-index;
  left : place_among l.column l.columns ≡ l.place + place_among l.column (drop l.other-index l.columns);
}
