use Rattle.std.proofs.Common.{inl, inr}
use Rattle.row_script.specs.declared.end.End.TheVariants.{SinkFault, Usage}
use Rattle.qsr_top.proofs.WordLemmas.{create_read, load_read}
use Rattle.qsr_top.proofs.top.qsr_run.Goals as goal

pub returns-in-None-clause-statuses : goal.returns-in-None-clause-statuses
returns-in-None-clause-statuses g c =
    elim c.say_end.ensures.cause [
      | inl said ↦ (Usage, said.0)
      | inr failed ↦ (SinkFault, failed.0)
    ]

pub returns-in-Some-Create-clause-create_crash : goal.returns-in-Some-Create-clause-create_crash
returns-in-Some-Create-clause-create_crash g c name columns sizes s is are stands honest =
    let same = create_read c.in-Some-Create.columns is (rw c.in-Some-Create.field-0-is at c.in-Some-Create.ensures.names) in
    rw same.0 at c.run-in-Some-Create.ensures.any_moment columns sizes s same.1 are stands honest

pub returns-in-Some-Load-clause-load_crash : goal.returns-in-Some-Load-clause-load_crash
returns-in-Some-Load-clause-load_crash g c name sizes s is are stands honest =
    let same = load_read is (rw c.in-Some-Load.field-0-is at c.in-Some-Load.ensures.names) in
    rw same at c.run-in-Some-Load.ensures.any_moment sizes s are stands honest
