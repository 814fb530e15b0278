use Rattle.std.proofs.Common.{◌*◌, ◌≤◌, sum, rules}
use Rattle.page_store.specs.PageOrder.{parts}
use Rattle.page_store.proofs.NewStores.{new_store}
use Rattle.page_store.proofs.formatting.format.Goals as goal

pub returns-in-Ok-clause-empty : goal.returns-in-Ok-clause-empty
returns-in-Ok-clause-empty g c = λ i now.
    let size = g.D.Disk.size_of c.args.disk.now in
    let fits : 4096 * sum (parts c.args.sizes) ≤ size = search rules in
    new_store size c.args.sizes i c.requires fits (c.in-Ok.ensures.formatted i now)
