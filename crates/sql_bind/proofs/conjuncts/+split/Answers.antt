use Rattle.std.proofs.Common.{arith, sym, ◌∙◌}
use Rattle.sql_bind.proofs.ConditionLemmas.{first_is, is_units, begin_refused, left_refused}
use Rattle.sql_bind.proofs.ConjunctLemmas.{whole_pushed, parts_begin, parts_next}
use Rattle.sql_bind.proofs.conjuncts.+split.Goals as goal

pub push_conjuncts-returns-then-has_or-clause-pushed : goal.push_conjuncts-returns-then-has_or-clause-pushed
push_conjuncts-returns-then-has_or-clause-pushed t c =
    whole_pushed _ _ _ _ _ _ _ _ (first_is _ _) c.as_slice-more.ensures (sym c.has_or.ensures ∙ c.if-has_or.true) c.in_ok-cond.ensures.bound c.in_ok-push.ensures.ok

pub push_conjuncts-returns-in_err-push_unit-clause-checks : goal.push_conjuncts-returns-in_err-push_unit-clause-checks
push_conjuncts-returns-in_err-push_unit-clause-checks t c =
    let same = begin_refused _ _ _ _ _ (first_is _ _) c.in_err-push_unit.ensures.checks in
    grind (arith, same)

pub push_conjuncts-loop-next-init : goal.push_conjuncts-loop-next-init
push_conjuncts-loop-next-init t c =
    parts_begin _ _ _ _ _ _ _ (is_units _ _ _) c.as_slice-more.ensures (sym c.has_or.ensures ∙ c.if-has_or.false) c.in_ok-push_unit.ensures.checks c.in_ok-push_unit.ensures.pushed

pub push_conjuncts-loop-next-preserved : goal.push_conjuncts-loop-next-preserved
push_conjuncts-loop-next-preserved t c =
    parts_next _ _ _ _ _ _ _ _ c.loop-next-test.true c.next-item.is c.loop-next.invariant c.in_ok-push_joined.ensures.checks c.in_ok-push_joined.ensures.pushed

pub push_conjuncts-returns-in_err-push_joined-clause-checks : goal.push_conjuncts-returns-in_err-push_joined-clause-checks
push_conjuncts-returns-in_err-push_joined-clause-checks t c =
    let same = left_refused _ _ _ _ _ _ c.loop-next-test.true c.next-item.is c.loop-next.invariant.checks c.in_err-push_joined.ensures.checks in
    grind (arith, same)
