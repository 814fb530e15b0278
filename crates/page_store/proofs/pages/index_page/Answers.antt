use Rattle.std.proofs.Common.{sym, arith}
use Rattle.page_store.proofs.PageLaws.{start_of-index}
use Rattle.page_store.proofs.pages.index_page.Goals as goal

pub returns : goal.returns
returns c = sym (start_of-index c.args.sizes.now c.args.index (omega arith))
