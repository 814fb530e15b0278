use Rattle.std.proofs.Common.{arith}
use Rattle.page_store.specs.PageOrder.{parts}
use Rattle.page_store.proofs.Parts.{apart, covers}
use Rattle.page_store.proofs.AreaLaws.{get-area}
use Rattle.page_store.proofs.PageLaws.{sum-parts}
use Rattle.page_store.proofs.pages.layout_pages.Goals as goal

pub returns-clause-count : goal.returns-clause-count
returns-clause-count c = omega (arith, sum-parts c.args.sizes.now)

pub returns-clause-each_page : goal.returns-clause-each_page
returns-clause-each_page c = λ page below. covers (parts c.args.sizes.now) page (omega (arith, below, sum-parts c.args.sizes.now))

pub returns-clause-apart : goal.returns-clause-apart
returns-clause-apart c = apart (parts c.args.sizes.now)

pub returns-clause-areas : goal.returns-clause-areas
returns-clause-areas c = get-area c.args.sizes.now
