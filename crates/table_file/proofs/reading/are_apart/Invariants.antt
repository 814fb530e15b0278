use Rattle.std.proofs.Common.{◌≡◌, length}
use Rattle.table_file.specs.Reading.{are_apart}
use Rattle.table_file.proofs.reading.are_apart.Given as goal

-- the indexes before these have areas of their own, so that it is for these to tell
abbrev pub invariant-loop-rest : goal.invariant-loop-rest
invariant-loop-rest l = are_apart l.rest ≡ are_apart l.indexes

abbrev pub decreases-loop-rest : goal.decreases-loop-rest
decreases-loop-rest l = length l.rest
