use denote.Enum.Bare.{same_true}
use Rattle.std.proofs.Common.{◌≡◌, subst, sym}
use Rattle.row_script.specs.declared.end.End.{End}
use Rattle.row_script.specs.declared.end.End.TheVariants.{SinkFault}
use Rattle.row_script.specs.contracts.end.End.{the_type}
use Rattle.row_script.specs.Progress.{Closes, IsClosed}
use Rattle.row_script.proofs.RunLemmas.{IsClosed-all, IsClosed-answers, IsClosed-before, IsClosed-end}
use Rattle.row_script.proofs.script.Script.close.Goals as goal

pub returns-then-eq-clause-closed : goal.returns-then-eq-clause-closed
returns-then-eq-clause-closed g c left left' first done cut said closes =
    let is : c.args.end ≡ SinkFault = same_true the_type tt c.args.end SinkFault (sym c.if-eq.ensures) in
    let closes' = subst (λ (end : End). Closes left left' end first (g.K.Sink.given c.args.sink.now) c.args.self.now.replies done cut said) is closes in
    subst (λ (end : End). IsClosed left left' end first (g.K.Sink.given c.args.sink.now) done cut said) (sym is) (IsClosed-before closes')

pub returns-in_default-clause-closed : goal.returns-in_default-clause-closed
returns-in_default-clause-closed g c left left' first done cut said closes =
    let goes : c.args.end ≡ SinkFault → ⊥ = λ is. let test = rw is at c.eq.ensures in cc in
    IsClosed-answers goes closes c.in_default.ensures.failed

pub returns-in_default-put_all-clause-closed : goal.returns-in_default-put_all-clause-closed
returns-in_default-put_all-clause-closed g c left left' first done cut said closes =
    let goes : c.args.end ≡ SinkFault → ⊥ = λ is. let test = rw is at c.eq.ensures in cc in
    let cut_off = rw (c.as_bytes.ensures.value, c.text.ensures) at c.in_default-put_all.ensures.failed in
    IsClosed-end (g.K.Sink.given c.send.new.sink) goes closes c.in-Ok.ensures.ok cut_off

pub returns-clause-closed : goal.returns-clause-closed
returns-clause-closed g c left left' first done cut said closes =
    let goes : c.args.end ≡ SinkFault → ⊥ = λ is. let test = rw is at c.eq.ensures in cc in
    let says = rw (c.as_bytes.ensures.value, c.text.ensures) at c.in-Ok-put_all.ensures.ok in
    IsClosed-all (g.K.Sink.given c.send.new.sink) goes closes c.in-Ok.ensures.ok says
