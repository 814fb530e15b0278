use Rattle.std.proofs.Common.{arith}
use Rattle.page_store.proofs.PageLaws.{start_of-in_job}
use Rattle.page_store.proofs.pages.first_page.Goals as goal

pub returns-in-Text : goal.returns-in-Text
returns-in-Text c = rw c.in-Text.is (omega (arith, start_of-in_job c.args.sizes.now c.in-Text.job 2 (rw c.in-Text.is at c.requires.area) (omega arith)))

pub returns-in-Plan : goal.returns-in-Plan
returns-in-Plan c = rw c.in-Plan.is (omega (arith, start_of-in_job c.args.sizes.now c.in-Plan.job 3 (rw c.in-Plan.is at c.requires.area) (omega arith)))

pub returns-in-Out : goal.returns-in-Out
returns-in-Out c = rw c.in-Out.is (omega (arith, start_of-in_job c.args.sizes.now c.in-Out.job 4 (rw c.in-Out.is at c.requires.area) (omega arith)))

pub returns-in-Spill : goal.returns-in-Spill
returns-in-Spill c = rw c.in-Spill.is (omega (arith, start_of-in_job c.args.sizes.now c.in-Spill.job 7 (rw c.in-Spill.is at c.requires.area) (omega arith)))
