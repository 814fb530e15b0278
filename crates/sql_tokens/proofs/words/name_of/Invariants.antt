use Rattle.std.proofs.Common.{◌≡◌, ◌-◌, ◌++◌, map, take, replicate}
use Rattle.std.specs.Char.{to_ascii_lowercase}
use Rattle.sql_tokens.proofs.words.name_of.Given as goal

abbrev pub invariant-loop-at : goal.invariant-loop-at
invariant-loop-at l = l.bytes ≡ map to_ascii_lowercase (take l.at l.letters) ++ replicate (16 - l.at) 0
