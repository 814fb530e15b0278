use Rattle.std.proofs.Common.{◌≡◌, ◌-◌, ◌^◌, min, take}
use Rattle.sql_tokens.specs.Words as spec
use Rattle.sql_tokens.proofs.scan.number_token.Given as goal

abbrev pub invariant-loop-b : goal.invariant-loop-b
invariant-loop-b l = l.value ≡ min (spec.value_of_digits (take l.b-index l.digits)) (2 ^ 128 - 1)
