use Rattle.std.proofs.Common.{◌≡◌, ℕ, ◌+◌, List, length, subst, sym, arith, rules}
use Rattle.std.proofs.lemmas.Result.{on_ok_weaker}
use Rattle.disk_model.specs.Image.{Image, Holds}
use Rattle.disk_model.proofs.Pieces.{holds_both}
use Rattle.page_store.proofs.SlotBytes.{two_parts}
use Rattle.page_store.proofs.twins.read_body.Goals as goal

pub returns-clause-bytes : goal.returns-clause-bytes
returns-clause-bytes g c =
    let count = c.min-front.ensures in
    let less = c.if-front-len.false in
    let seen = (g.D.Disk.view c.args.disk.now).seen in
    let at = c.args.found.now.at in
    let one : length c.read.new.out ≡ c.min-front.result = search rules in
    let two : length c.read-2.new.out + c.min-front.result ≡ c.args.found.now.len = search rules in
    let place : at + 4096 ≡ at + length c.read.new.out = omega (arith, count, less, one) in
    on_ok_weaker c.read-2.result
    (λ second honest.
    let later = subst (λ (s : Image). Holds s (at + 4096) c.read-2.new.out) c.read.ensures.stays.seen (second (c.read.ensures.stays.time.honest.1 honest)) in
    subst (λ (l : List ℕ). Holds seen at l) (sym (two_parts c.args.found.now.len c.min-front.result c.read.new.out _ c.read-2.new.out _ one two))
    (holds_both seen at c.read.new.out c.read-2.new.out (c.in_ok-read.ensures.bytes honest) (subst (λ (k : ℕ). Holds seen k c.read-2.new.out) place later)))
    c.read-2.ensures.bytes
