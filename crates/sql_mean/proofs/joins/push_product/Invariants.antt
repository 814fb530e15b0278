use Rattle.std.proofs.Common.{◌≡◌, ◌++◌, drop}
use Rattle.sql_bind.specs.View.{conditions_of}
use Rattle.sql_mean.proofs.Joining.{product_of}
use Rattle.sql_mean.proofs.joins.push_product.Given as goal

abbrev pub invariant-loop-row : goal.invariant-loop-row
invariant-loop-row l = l.initial.joined ++ product_of (conditions_of l.on) l.env l.rows ≡ l.joined ++ product_of (conditions_of l.on) l.env (drop l.row-index l.rows)
