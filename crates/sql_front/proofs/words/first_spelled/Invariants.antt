use Rattle.std.proofs.Common.{◌≡◌, drop}
use Rattle.sql_front.specs.Words.{first_spelled}
use Rattle.sql_front.proofs.words.first_spelled.Given as goal

-- what was found of all words is what is found of those to come
abbrev pub invariant-loop-word : goal.invariant-loop-word
invariant-loop-word l = first_spelled l.words l.letters ≡ first_spelled (drop l.word-index l.words) l.letters
