use Rattle.std.proofs.Common.{◌≡◌, ◌+◌, arith}
use Rattle.page_store.proofs.PageLaws.{start_of-in_job}
use Rattle.page_store.proofs.pages.image_page.Goals as goal

pub returns-then-side-eq1 : goal.returns-then-side-eq1
returns-then-side-eq1 c =
    let side : 4 + c.args.side ≡ 5 = omega arith in
    rw side (omega (arith, start_of-in_job c.args.sizes.now c.args.job 5 c.requires.job (omega arith)))

pub returns-else-side-eq1 : goal.returns-else-side-eq1
returns-else-side-eq1 c =
    let side : 4 + c.args.side ≡ 6 = omega arith in
    rw side (omega (arith, start_of-in_job c.args.sizes.now c.args.job 6 c.requires.job (omega arith)))
