use Rattle.std.proofs.Common.{◌≡◌, ◌++◌, drop}
use Rattle.sql_mean.proofs.Bags.{bags}
use Rattle.sql_mean.proofs.answer.with_others.Given as goal

abbrev pub invariant-loop-select : goal.invariant-loop-select
invariant-loop-select l = l.fn.rows ++ bags l.tables l.others ≡ l.all ++ bags l.tables (drop l.select-index l.others)
