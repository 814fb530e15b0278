use Rattle.std.proofs.Common.{◌≡◌, drop, map}
use Rattle.sql_tokens.specs.Words.{keyword_in}
use Rattle.sql_tokens.proofs.words.keyword_in.Given as goal

abbrev pub invariant-loop-word : goal.invariant-loop-word
invariant-loop-word l = keyword_in (drop l.word-index (map (λ word. (word.0.now, word.1)) l.words)) l.letters ≡ keyword_in (map (λ word. (word.0.now, word.1)) l.words) l.letters
