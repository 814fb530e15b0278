use Rattle.std.proofs.Common.{rules, arith, ap, sym, ◌≡◌, ◌+◌, ◌∙◌, None}
use Rattle.std.proofs.lemmas.Result.{on_ok_weaker}
use Rattle.sql_tokens.specs.declared.token.Token.{Token}
use Rattle.sql_tokens.specs.declared.token.What.TheVariants as what
use Rattle.sql_front.proofs.Chains.{unit_wanted, next_same, unit_read, units_end}
use Rattle.sql_front.proofs.ConditionTokens.{next_k, nots_open, neither, side_begins}
use Rattle.sql_front.specs.Machine.{paren_k}
use Rattle.sql_front.specs.Reads.{nots_k, joint_of}
use Rattle.sql_front.proofs.conditions.+parser.Goals as goal

pub predicate-returns-in_err-open-in-Open-clause-led : goal.predicate-returns-in_err-open-in-Open-clause-led
predicate-returns-in_err-open-in-Open-clause-led t c = λ k same.
    let is : c.nots.new.input.first.what ≡ what.Open = search rules in
    let many = c.in_ok-many.many in
    grind (arith, c.in_ok-many.ensures.led k same, c.in_err-open-in-Open.ensures.paren (nots_k many k) (nots_open many c.args.depth k same) is)

pub predicate-returns-in_err-inner-in-Open-clause-led : goal.predicate-returns-in_err-inner-in-Open-clause-led
predicate-returns-in_err-inner-in-Open-clause-led t c = λ k same.
    let is : c.nots.new.input.first.what ≡ what.Open = search rules in
    let many = c.in_ok-many.many in
    let deep = nots_open many c.args.depth k same in
    grind (arith, c.in_ok-many.ensures.led k same, c.in_ok-open-in-Open.ensures.paren (nots_k many k) deep is, c.in_err-inner-in-Open.ensures.led (paren_k (nots_k many k)) (ap (λ n. n + 1) deep))

pub predicate-returns-in_ok-inner-in-Open-clause-led : goal.predicate-returns-in_ok-inner-in-Open-clause-led
predicate-returns-in_ok-inner-in-Open-clause-led t c = λ k same.
    let is : c.nots.new.input.first.what ≡ what.Open = search rules in
    let many = c.in_ok-many.many in
    let deep = nots_open many c.args.depth k same in
    let begun = c.in_ok-many.ensures.led k same ∙ (c.in_ok-open-in-Open.ensures.paren (nots_k many k) deep is ∙ c.in_ok-inner-in-Open.ensures.led (paren_k (nots_k many k)) (ap (λ n. n + 1) deep)) in
    grind (arith, begun, c.closed.ensures.led k)

pub predicate-returns-in_default : goal.predicate-returns-in_default
predicate-returns-in_default t c = record {
  led = λ k same.
      let none = neither c.nots.new.input.first.what c.in_ok-many.ensures.all (λ is. c.in_default.not-Open (ap (λ (t : Token). t.what) c.peek.ensures.first ∙ is)) in
      grind (arith, c.in_ok-many.ensures.led k same, side_begins (nots_k c.in_ok-many.many k) c.nots.new.input none, c.compare.ensures.led k);
  shorter = on_ok_weaker c.compare.result (λ below. omega (arith, c.in_ok-many.ensures.shorter, below)) c.compare.ensures.shorter;
}

pub cond-returns-in_err-next-clause-led : goal.cond-returns-in_err-next-clause-led
cond-returns-in_err-next-clause-led t c = λ k same.
    grind (
      arith,
      unit_wanted c.units.invariant c.advance.new.self c.peek.result c.in-Some.joint c.peek.ensures.first c.in-Some.ensures c.advance.ensures.rest c.advance.ensures.text k same,
      c.in_err-next.ensures.led (next_k _ _ k) (next_same c.units.invariant c.in-Some.joint k same),
    )

pub cond-units-preserved : goal.cond-units-preserved
cond-units-preserved t c =
    unit_read c.units.invariant c.advance.new.self _ c.peek.result c.in-Some.joint c.in_ok-next.next c.joined_by.result c.push.new.self c.peek.ensures.first c.in-Some.ensures c.advance.ensures.rest c.advance.ensures.text
    c.in_ok-next.ensures.led c.in_ok-next.ensures.shorter c.joined_by.ensures c.in_ok-push.ensures.ok

pub cond-returns-clause-led : goal.cond-returns-clause-led
cond-returns-clause-led t c = λ k same.
    let none : joint_of c.units.input.first.what ≡ None = sym (c.in_default.ensures ∙ ap (λ (t : Token). joint_of t.what) c.peek.ensures.first) in
    grind (arith, units_end c.units.invariant none k same, c.into_items.ensures, c.cond.ensures)
