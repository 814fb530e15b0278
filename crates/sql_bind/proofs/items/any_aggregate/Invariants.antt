use Rattle.std.proofs.Common.{◌≡◌, drop}
use Rattle.sql_bind.specs.Checks.{any_aggregate}
use Rattle.sql_bind.proofs.items.any_aggregate.Given as goal

-- an aggregate is to be found among the items that are left
abbrev pub invariant-loop-item : goal.invariant-loop-item
invariant-loop-item l = any_aggregate l.items ≡ any_aggregate (drop l.item-index l.items)
