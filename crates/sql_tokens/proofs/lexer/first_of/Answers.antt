use Rattle.std.proofs.Common.{sym, ◌∙◌, length, arith, true-eqb, false-eqb}
use Rattle.sql_tokens.proofs.Passing.{first_end, first_told}
use Rattle.sql_tokens.proofs.lexer.first_of.Goals as goal

pub returns-then-is_empty-clause-tokens : goal.returns-then-is_empty-clause-tokens
returns-then-is_empty-clause-tokens c =
    first_end c.args.bytes.now c.split_at.result.1.now c.args.at c.count_blanks-blanks.result c.count_blanks-blanks.ensures.value c.split_at.ensures.back
    (true-eqb (length c.split_at.result.1.now) 0 (sym c.if-is_empty.true ∙ c.is_empty.ensures))

pub returns-clause-tokens : goal.returns-clause-tokens
returns-clause-tokens c =
    let some = false-eqb (length c.split_at.result.1.now) 0 (sym c.if-is_empty.false ∙ c.is_empty.ensures) in
    first_told c.args.bytes.now c.split_at.result.1.now c.split_at-2.result.1.now c.args.at c.count_blanks-blanks.result c.token_at-what.result.0 c.token_at-what.result.1
    c.count_blanks-blanks.ensures.value c.split_at.ensures.back (omega (arith, some)) c.token_at-what.ensures.value c.token_at-what.ensures.moves c.token_at-what.ensures.within c.split_at-2.ensures.back
