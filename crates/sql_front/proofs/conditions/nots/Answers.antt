use Rattle.std.proofs.Common.{rules, arith, ◌≡◌}
use Rattle.sql_tokens.specs.declared.token.Keyword.TheVariants as keyword
use Rattle.sql_tokens.specs.declared.token.What.TheVariants as what
use Rattle.sql_front.proofs.Chains.{not_read}
use Rattle.sql_front.proofs.ConditionTokens.{nots_open}
use Rattle.sql_front.specs.Reads.{nots_k}
use Rattle.sql_front.proofs.conditions.nots.Goals as goal

pub returns-in_err-open-clause-led : goal.returns-in_err-open-clause-led
returns-in_err-open-clause-led c = λ k same.
    let is : c.nots.input.first.what ≡ what.Word keyword.Not = search rules in
    grind (arith, c.nots.invariant.led k same, c.in_err-open.ensures.not (nots_k c.nots.count k) (nots_open c.nots.count c.args.depth k same) is)

pub nots-preserved : goal.nots-preserved
nots-preserved c =
    let is : c.nots.input.first.what ≡ what.Word keyword.Not = search rules in
    not_read c.nots.invariant c.open.new.input (λ k same. c.in_ok-open.ensures.not k same is) c.in_ok-open.ensures.within c.in_ok-open.ensures.shorter
