use Rattle.std.proofs.Common.{arith}
use Rattle.sql_bind.proofs.ConditionLemmas.{first_is, is_units, read_begins, read_next, begin_refused}
use Rattle.sql_bind.proofs.conditions.+walk.Goals as goal

pub cond-loop-next-init : goal.cond-loop-next-init
cond-loop-next-init t c =
    read_begins _ _ _ _ _ _ _ (is_units _ _ _) c.as_slice-more.ensures c.in_ok-first.ensures.checks c.in_ok-first.ensures.bound c.first_read-read.ensures

pub cond-returns-in_err-first-clause-checks : goal.cond-returns-in_err-first-clause-checks
cond-returns-in_err-first-clause-checks t c =
    let same = begin_refused _ _ _ _ _ (first_is _ _) c.in_err-first.ensures.checks in
    grind (arith, same)

pub cond-loop-next-preserved : goal.cond-loop-next-preserved
cond-loop-next-preserved t c =
    read_next _ _ _ _ _ _ _ c.loop-next-test.true c.next-item.is c.loop-next.invariant c.in_ok-read.ensures.checks c.in_ok-read.ensures.bound
