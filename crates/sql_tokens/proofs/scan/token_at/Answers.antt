use Rattle.std.proofs.Common.{sym, ap, ◌∙◌, false, drop, slice_index, eq-eqb, ne_eqb}
use Rattle.sql_tokens.specs.Text.{text_length}
use Rattle.sql_tokens.specs.Tokens.{text_of, sign_at}
use Rattle.sql_tokens.proofs.Fronts.{begins_word, begins_number, begins_text, begins_sign}
use Rattle.sql_tokens.proofs.scan.token_at.Goals as goal

pub returns-then-begins_name-clause-value : goal.returns-then-begins_name-clause-value
returns-then-begins_name-clause-value c = c.word_at.ensures.value ∙ begins_word c.args.bytes.now c.requires.some (sym c.begins_name.ensures ∙ c.if-begins_name.true)

pub returns-then-is_ascii_digit-clause-value : goal.returns-then-is_ascii_digit-clause-value
returns-then-is_ascii_digit-clause-value c =
    c.number_at.ensures.value ∙ begins_number c.args.bytes.now c.requires.some (sym c.begins_name.ensures ∙ c.if-begins_name.false) (sym c.is_ascii_digit.ensures.value ∙ c.if-is_ascii_digit.true)

pub returns-then-first-eq39-clause-value : goal.returns-then-first-eq39-clause-value
returns-then-first-eq39-clause-value c =
    c.text_at.ensures.value ∙ ap (λ rest. text_of (text_length false rest)) c.split_at.ensures.back
    ∙ begins_text (slice_index c.args.bytes.now 0) (drop 1 c.args.bytes.now) (sym c.begins_name.ensures ∙ c.if-begins_name.false) (sym c.is_ascii_digit.ensures.value ∙ c.if-is_ascii_digit.false) (eq-eqb _ _ c.if-first-eq39.true)

pub returns-clause-value : goal.returns-clause-value
returns-clause-value c =
    c.sign_at.ensures.value ∙ ap (sign_at (slice_index c.args.bytes.now 0)) c.split_at.ensures.back
    ∙ begins_sign (slice_index c.args.bytes.now 0) (drop 1 c.args.bytes.now) (sym c.begins_name.ensures ∙ c.if-begins_name.false) (sym c.is_ascii_digit.ensures.value ∙ c.if-is_ascii_digit.false) (ne_eqb _ _ c.if-first-eq39.false)
