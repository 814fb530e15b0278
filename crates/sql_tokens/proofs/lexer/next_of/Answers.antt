use Rattle.std.proofs.Common.{sym, ◌∙◌}
use Rattle.sql_tokens.specs.Tokens.{is_number}
use Rattle.sql_tokens.proofs.Passing.{spoiled, unspoiled}
use Rattle.sql_tokens.proofs.lexer.next_of.Goals as goal

pub returns-then-spoils_number-clause-tokens : goal.returns-then-spoils_number-clause-tokens
returns-then-spoils_number-clause-tokens c =
    spoiled c.args.bytes.now (is_number c.args.before) c.args.at (sym c.spoils_number.ensures ∙ c.if-spoils_number.true) c.args.bytes.now c.args.at

pub returns-clause-tokens : goal.returns-clause-tokens
returns-clause-tokens c = unspoiled c.args.bytes.now (is_number c.args.before) c.args.at (sym c.spoils_number.ensures ∙ c.if-spoils_number.false) ∙ c.first_of.ensures.tokens
