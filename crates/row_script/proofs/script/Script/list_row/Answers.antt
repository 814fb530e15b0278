use Rattle.std.proofs.Common.{◌≡◌, [], ◌∷◌, ◌++◌, ap, append-nil, inr, refl, rules, subst, sym}
use Rattle.std.proofs.lemmas.Int.{to_z-of_z}
use Rattle.std.specs.Int.{w64}
use Rattle.std.specs.Prelude.{FitsSigned}
use Rattle.row_script.specs.Progress.{SentFront}
use Rattle.row_script.specs.Replies.{row_text}
use Rattle.row_script.proofs.AnswerLemmas.{SentFront-gives}
use Rattle.row_script.proofs.script.Script.list_row.Goals as goal

pub returns-in-Err-clause-err : goal.returns-in-Err-clause-err
returns-in-Err-clause-err g c =
    let held = c.args.self.now.replies in
    let value = c.args.value in
    let fits : FitsSigned w64 value = search rules in
    let pushed : c.push_row.new.self ≡ held ++ row_text value = simp to_z-of_z at c.in-Ok.ensures.ok in
    let gives = rw pushed at c.in-Err.ensures.failed in (
      value ∷ [],
      inr refl,
      subst (SentFront (g.K.Sink.given c.args.sink.now) (g.K.Sink.given c.send.new.sink)) (ap (λ text. held ++ text) (sym (append-nil (row_text value))))
          (SentFront-gives (g.K.Sink.given c.args.sink.now) (g.K.Sink.given c.send.new.sink) (held ++ row_text value) gives),
    )
