use Rattle.std.proofs.Common.{◌≡◌, drop}
use Rattle.std.specs.List.{list_any}
use Rattle.sql_mean.specs.Meaning.{is_bound_aggregate}
use Rattle.sql_mean.proofs.items.any_aggregate.Given as goal

-- an aggregate is to be found among the items that are left
abbrev pub invariant-loop-item : goal.invariant-loop-item
invariant-loop-item l = list_any is_bound_aggregate l.items ≡ list_any is_bound_aggregate (drop l.item-index l.items)
