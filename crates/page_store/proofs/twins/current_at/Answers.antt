use Rattle.std.proofs.Common.{◌≡◌, Some, List, ℕ, option_map, take, length, subst, sym, ◌∙◌, ap, arith}
use Rattle.std.proofs.lemmas.List.{length-take-le}
use Rattle.disk_model.specs.Image.{Image, Holds}
use Rattle.page_store.specs.declared.slots.Found.{Found}
use Rattle.page_store.specs.Twin.{bytes_at}
use Rattle.page_store.proofs.SlotBytes.{bytes_at-holds}
use Rattle.page_store.proofs.TwinLaws.{twin_by_heads}
use Rattle.page_store.proofs.twins.current_at.Goals as goal

pub returns-in_default-clause-body : goal.returns-in_default-clause-body
returns-in_default-clause-body g c = λ honest.
    let seen = (g.D.Disk.view c.args.disk.now).seen in
    ap (option_map (λ (f : Found). bytes_at seen f.at f.len)) c.in_default.ensures.found
    ∙ twin_by_heads c.args.span c.args.at seen c.in_ok-heads.heads (c.in_ok-heads.ensures.heads honest)

pub returns-clause-body : goal.returns-clause-body
returns-clause-body g c = λ honest.
    let seen = (g.D.Disk.view c.args.disk.now).seen in
    let bytes = take c.in-Some.found.len c.read_body.new.buf in
    let long = c.in-Some.ensures.long in
    let count : length bytes ≡ c.in-Some.found.len = length-take-le c.in-Some.found.len c.read_body.new.buf (omega (arith, long, c.read_body.array_long)) in
    let stands = subst (λ (s : Image). Holds s c.in-Some.found.at bytes) c.read_heads.ensures.stays.seen (c.in_ok-read_body.ensures.bytes (c.read_heads.ensures.stays.time.honest.1 honest)) in
    ap (λ (l : List ℕ). Some l) (sym (bytes_at-holds seen c.in-Some.found.at c.in-Some.found.len bytes (sym count) stands))
    ∙ ap (option_map (λ (f : Found). bytes_at seen f.at f.len)) c.in-Some.ensures.found
    ∙ twin_by_heads c.args.span c.args.at seen c.in_ok-heads.heads (c.in_ok-heads.ensures.heads honest)
