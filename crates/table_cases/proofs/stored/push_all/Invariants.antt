use Rattle.std.proofs.Common.{◌≡◌, ◌<◌}
use Rattle.table_cases.proofs.stored.push_all.Given as goal

-- the writer stands on a page of the same table
abbrev pub invariant-loop-row : goal.invariant-loop-row
invariant-loop-row g l =
    (l.writer.page < l.store.sizes.table)
    × (l.writer.table ≡ l.initial.writer.table)
    × (l.store.sizes ≡ l.initial.store.sizes)
