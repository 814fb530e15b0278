use Rattle.std.proofs.Common.{◌≡◌, false, ◌++◌, drop}
use Rattle.sql_tokens.specs.Text.{undoubled}
use Rattle.sql_tokens.proofs.texts.undoubled.Given as goal

abbrev pub invariant-loop-b : goal.invariant-loop-b
invariant-loop-b l = undoubled false l.bytes ≡ l.copy ++ undoubled l.marked (drop l.b-index l.bytes)
