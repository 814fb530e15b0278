use Rattle.std.proofs.Common.{◌≡◌, map, take}
use Rattle.qsr_top.specs.Explain.{table_of_entry}
use Rattle.qsr_top.proofs.explain.named_tables.Given as goal

-- the tables so far
abbrev pub invariant-loop-table : goal.invariant-loop-table
invariant-loop-table l = l.tables ≡ take l.table (map table_of_entry l.catalogue.tables)
