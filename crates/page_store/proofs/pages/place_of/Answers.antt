use Rattle.std.proofs.Common.{arith}
use Rattle.page_store.proofs.PageLaws.{job_within, sum-parts}
use Rattle.page_store.proofs.Places.{catalogue_start}
use Rattle.page_store.proofs.pages.place_of.Goals as goal

pub returns-in-Catalogue-clause-at : goal.returns-in-Catalogue-clause-at
returns-in-Catalogue-clause-at c = rw c.in-Catalogue.is (omega (arith, catalogue_start c.args.sizes.now))

pub returns-in-Catalogue-clause-within : goal.returns-in-Catalogue-clause-within
returns-in-Catalogue-clause-within c = omega (arith, sum-parts c.args.sizes.now)

pub returns-in-Job-clause-within : goal.returns-in-Job-clause-within
returns-in-Job-clause-within c =
    let page = c.job_page.ensures.page in
    let twin = rw c.in-Job.is at c.requires.twin in
    omega (arith, page, job_within c.args.sizes.now c.in-Job.job twin)
