use Rattle.std.proofs.Common.{◌<◌, ◌+◌, rules, ap, ◌∙◌, drop, length, map}
use Rattle.sql_bind.specs.Checks.{select_checks, selects_checks, bind_tells}
use Rattle.sql_bind.specs.View.{select_view}
use Rattle.sql_bind.proofs.CheckLemmas.{passed}
use Rattle.sql_bind.proofs.FromLemmas.{fault_before}
use Rattle.sql_bind.proofs.SelectLemmas.{select_pushed, selects_turn}
use Rattle.sql_bind.proofs.selects.others.Goals as goal
use Rattle.grammar_laws.specs.Checks.{first_refusal}

pub returns-in_err-select-clause-checks : goal.returns-in_err-select-clause-checks
returns-in_err-select-clause-checks c =
    let names = c.args.names.now in
    let more = c.args.more.now in
    let i = c.loop-next.next-index in
    let u = c.next-item.result in
    let fact = fault_before (first_refusal (selects_checks names more)) (select_checks names u.select) (selects_checks names (drop (i + 1) more))
    (bind_tells c.in_err-select.field-0.0) (c.loop-next.invariant.checked ∙ ap first_refusal (selects_turn names more i u (search rules) c.next-item.is)) (search rules) in
    search rules

pub loop-next-preserved : goal.loop-next-preserved
loop-next-preserved c =
    let names = c.args.names.now in
    let more = c.args.more.now in
    let i = c.loop-next.next-index in
    let u = c.next-item.result in
    let low : i < length more = search rules in
    record {
      checked = c.loop-next.invariant.checked
          ∙ ap first_refusal (selects_turn names more i u low c.next-item.is)
          ∙ passed (select_checks names u.select) (selects_checks names (drop (i + 1) more)) (search rules);
      bound = ap (map select_view) c.in_ok-push.ensures.ok
          ∙ select_pushed names c.loop-next.selects c.in_ok-select.field-0.select more i u low c.next-item.is c.loop-next.invariant.bound (search rules);
    }
