use Rattle.std.proofs.Common.{rules, ap, ◌∙◌, length}
use Rattle.std.proofs.lemmas.Slice.Zip.{zip_end}
use Rattle.grammar_laws.specs.Checks.{first_refusal}
use Rattle.sql_bind.proofs.SelectLemmas.{alike_end}
use Rattle.sql_bind.proofs.selects.check_alike.Goals as goal

pub returns : goal.returns
returns c =
    let others = c.args.others.now in
    let more = c.args.more.now in
    c.loop-other.invariant
    ∙ ap first_refusal (alike_end c.args.first.now others more (length c.loop-other.yielded)
    (zip_end others more c.loop-other.yielded c.into_iter-other-iterator.result c.loop-other.other-iterator c.next.new.self c.next.result
    (search rules) (search rules) c.loop-other.yielded_by c.in-None.is c.next.ensures.steps))
