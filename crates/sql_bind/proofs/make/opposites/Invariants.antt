use Rattle.std.proofs.Common.{◌≡◌}
use Rattle.sql_bind.specs.Bound as bound
use Rattle.sql_bind.specs.View.{condition_of}
use Rattle.sql_bind.proofs.make.opposites.Given as goal

abbrev pub invariant-loop : goal.invariant-loop
invariant-loop l = condition_of l.made ≡ bound.opposites l.counter (condition_of l.fn.inner)
