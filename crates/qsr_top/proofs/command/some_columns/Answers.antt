use Rattle.std.proofs.Common.{[], map, sym}
use Rattle.std.specs.String.{string_bytes}
use Rattle.qsr_top.proofs.NameLemmas.{columns_fit}
use Rattle.qsr_top.proofs.WordLemmas.{no_words, too_many_words, words_read}
use Rattle.qsr_top.proofs.command.some_columns.Goals as goal
use Rattle.qsr_top.proofs.command.some_columns.Goals.{then-is_empty-via-then-is_empty, then-is_empty-via-else-is_empty+then-words}

pub returns-then-is_empty-clause-names : goal.returns-then-is_empty-clause-names
returns-then-is_empty-clause-names c =
    elim c.then-is_empty.branch [
      | then-is_empty-via-then-is_empty w ↦ rw (no_words string_bytes c.args.words.now (sym w.if-is_empty.ensures)) tt
      | then-is_empty-via-else-is_empty+then-words w ↦ rw (too_many_words string_bytes c.args.words.now w.if-words.true) tt
    ]

pub returns-clause-names : goal.returns-clause-names
returns-clause-names c =
    words_read string_bytes c.args.words.now c.columns_behind.result (sym c.if-is_empty.ensures) c.if-words.false (c.columns_behind.ensures [] c.new.ensures)

pub returns-clause-fits : goal.returns-clause-fits
returns-clause-fits c =
    columns_fit (map string_bytes c.args.words.now) c.columns_behind.result
    (words_read string_bytes c.args.words.now c.columns_behind.result (sym c.if-is_empty.ensures) c.if-words.false (c.columns_behind.ensures [] c.new.ensures))
