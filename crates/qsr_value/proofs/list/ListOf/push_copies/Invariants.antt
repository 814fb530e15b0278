use Rattle.std.proofs.Common.{◌≡◌, ◌++◌, take}
use Rattle.qsr_value.proofs.list.ListOf.push_copies.Given as goal

abbrev pub invariant-loop-item : goal.invariant-loop-item
invariant-loop-item g l = l.self ≡ l.fn.self ++ take l.item-index l.items
