use Rattle.std.proofs.Common.{◌≡◌, sym, ap, ◌∙◌, subst, IfOk, false}
use Rattle.sql_tokens.specs.Text.{undoubled, text_content}
use Rattle.sql_tokens.proofs.Copies.{unmarked}
use Rattle.sql_tokens.proofs.texts.text_value.Goals as goal

pub returns : goal.returns
returns c =
    let between = c.between_marks-between.result.now in
    let same : between ≡ text_content c.args.text.now c.args.at c.args.length =
    sym (unmarked between (sym c.contains.ensures.value ∙ c.if-contains.false)) ∙ ap (undoubled false) c.between_marks-between.ensures
    ∙ ap (λ bytes. text_content bytes c.args.at c.args.length) c.as_bytes.ensures.value in
    subst (λ said. IfOk c.from_slice.result (λ bytes. bytes ≡ said)) same c.from_slice.ensures
