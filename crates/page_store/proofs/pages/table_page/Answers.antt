use Rattle.std.proofs.Common.{sym, arith}
use Rattle.page_store.proofs.PageLaws.{start_of-table}
use Rattle.page_store.proofs.pages.table_page.Goals as goal

pub returns : goal.returns
returns c = sym (start_of-table c.args.sizes.now c.args.table (omega arith))
