use Rattle.std.proofs.Common.{sym, [], ◌∙◌}
use Rattle.sql_tokens.specs.declared.token.Keyword.TheVariants as k
use Rattle.sql_tokens.proofs.Steps.{keyword_found, keyword_passed}
use Rattle.sql_tokens.proofs.words.keyword_in.Goals as goal

pub returns-then-same_word : goal.returns-then-same_word
returns-then-same_word c =
    sym (keyword_found c.args.words.now c.args.letters.now c.loop-word.word-index (record { ref_ptr = (0, 0); now = [] }, k.Select) c.loop-word-test.true (sym c.same_word.ensures ∙ c.if-same_word.true)) ∙ c.loop-word.invariant

pub loop-word-preserved : goal.loop-word-preserved
loop-word-preserved c =
    sym (keyword_passed c.args.words.now c.args.letters.now c.loop-word.word-index (record { ref_ptr = (0, 0); now = [] }, k.Select) c.loop-word-test.true (sym c.same_word.ensures ∙ c.if-same_word.false)) ∙ c.loop-word.invariant
