use Rattle.std.proofs.Common.{◌≡◌, ◌≤◌, ◌++◌, length, take, drop}
use Rattle.table_file.specs.Tables.{of_others}
use Rattle.table_file.proofs.catalogue.drop_indexes.Given as goal

-- what is left: those in front as they were, and behind them those of other tables
abbrev pub invariant-loop-at : goal.invariant-loop-at
invariant-loop-at l = (l.at ≤ length l.fn.indexes) × (l.indexes ≡ take l.at l.fn.indexes ++ of_others l.table (drop l.at l.fn.indexes))

abbrev pub decreases-loop-at : goal.decreases-loop-at
decreases-loop-at l = l.at
