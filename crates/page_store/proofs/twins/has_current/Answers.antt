use Rattle.std.proofs.Common.{is_some, ◌∙◌, ap}
use Rattle.page_store.specs.declared.slots.Found.{Found}
use Rattle.page_store.specs.Twin.{bytes_at, found_of}
use Rattle.page_store.proofs.SlotBytes.{is_some_map}
use Rattle.page_store.proofs.TwinLaws.{twin_by_heads}
use Rattle.page_store.proofs.twins.has_current.Goals as goal

pub returns-clause-current : goal.returns-clause-current
returns-clause-current g c = λ honest.
    let seen = (g.D.Disk.view c.args.disk.now).seen in
    c.is_some.ensures ∙ ap is_some c.found-found.ensures.found
    ∙ is_some_map (λ (f : Found). bytes_at seen f.at f.len) (found_of c.args.span c.args.at c.in_ok-heads.heads)
    ∙ ap is_some (twin_by_heads c.args.span c.args.at seen c.in_ok-heads.heads (c.in_ok-heads.ensures.heads honest))
