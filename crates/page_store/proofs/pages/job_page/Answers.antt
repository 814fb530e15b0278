use Rattle.std.proofs.Common.{◌*◌, ap, arith}
use Rattle.page_store.proofs.PageLaws.{start_of-job}
use Rattle.page_store.proofs.pages.job_page.Goals as goal

pub returns-clause-page : goal.returns-clause-page
returns-clause-page c =
    let mine = start_of-job c.args.sizes.now c.args.job 0 c.requires.job (omega arith) in
    let each = ap (λ n. c.args.job * n) c.job_pages.ensures in
    omega (arith, mine, each)
