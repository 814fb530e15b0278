use Rattle.std.proofs.Common.{sym, ◌∙◌, arith}
use Rattle.sql_tokens.proofs.Lengths.{of_length, of_other_length}
use Rattle.sql_tokens.proofs.words.keyword_of.Goals as goal

pub returns-in-2 : goal.returns-in-2
returns-in-2 c = c.keyword_in.ensures ∙ sym (of_length 2 c.args.letters.now c.in-2.is)

pub returns-in-3 : goal.returns-in-3
returns-in-3 c = c.keyword_in-in-3.ensures ∙ sym (of_length 3 c.args.letters.now c.in-3.is)

pub returns-in-4 : goal.returns-in-4
returns-in-4 c = c.keyword_in-in-4.ensures ∙ sym (of_length 4 c.args.letters.now c.in-4.is)

pub returns-in-5 : goal.returns-in-5
returns-in-5 c = c.keyword_in-in-5.ensures ∙ sym (of_length 5 c.args.letters.now c.in-5.is)

pub returns-in-6 : goal.returns-in-6
returns-in-6 c = c.keyword_in-in-6.ensures ∙ sym (of_length 6 c.args.letters.now c.in-6.is)

pub returns-in-8 : goal.returns-in-8
returns-in-8 c = c.keyword_in-in-8.ensures ∙ sym (of_length 8 c.args.letters.now c.in-8.is)

pub returns-in_default : goal.returns-in_default
returns-in_default c = sym (of_other_length c.args.letters.now (omega arith) (omega arith) (omega arith) (omega arith) (omega arith) (omega arith))
