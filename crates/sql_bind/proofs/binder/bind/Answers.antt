use Rattle.std.proofs.Common.{◌≡◌, rules, subst, ◌∙◌, ◌++◌, map, None}
use Rattle.sql_bind.specs.Bound.{bound_select}
use Rattle.sql_bind.specs.Checks.{items_of, keys_checks, query_checks, select_checks, selects_checks, bind_tells, union_checks}
use Rattle.sql_bind.specs.Names.{scope_of}
use Rattle.sql_bind.specs.View.{select_view}
use Rattle.sql_bind.proofs.FromLemmas.{fault_before}
use Rattle.sql_bind.proofs.SelectLemmas.{alike_union, fault_at, first_of_four, fourth_of_four, second_of_four, third_of_four}
use Rattle.sql_bind.proofs.binder.bind.Goals as goal
use Rattle.grammar_laws.specs.Checks.{check_at_fault, first_refusal}

pub returns-in_err-first-clause-checks : goal.returns-in_err-first-clause-checks
returns-in_err-first-clause-checks c =
    let names = c.args.tables.now in
    let q = c.args.query.now in
    let first = select_checks names q.first in
    let more = selects_checks names q.more in
    let alike = union_checks names (items_of names q.first) q.more in
    let keys = keys_checks (scope_of names q.first) (items_of names q.first) q.order_by in
    let fact = fault_before (first_refusal (query_checks names q)) first (more ++ (alike ++ keys)) (bind_tells c.in_err-first.field-0.0) (first_of_four first more alike keys) (search rules) in
    search rules

pub returns-in_err-others-clause-checks : goal.returns-in_err-others-clause-checks
returns-in_err-others-clause-checks c =
    let names = c.args.tables.now in
    let q = c.args.query.now in
    let first = select_checks names q.first in
    let more = selects_checks names q.more in
    let alike = union_checks names (items_of names q.first) q.more in
    let keys = keys_checks (scope_of names q.first) (items_of names q.first) q.order_by in
    let first_none : first_refusal first ≡ None = search rules in
    let fact = fault_before (first_refusal (query_checks names q)) more (alike ++ keys) (bind_tells c.in_err-others.field-0.0) (second_of_four first more alike keys first_none) (search rules) in
    search rules

pub returns-in_err-check_alike-clause-checks : goal.returns-in_err-check_alike-clause-checks
returns-in_err-check_alike-clause-checks c =
    let names = c.args.tables.now in
    let q = c.args.query.now in
    let first = select_checks names q.first in
    let more = selects_checks names q.more in
    let alike = union_checks names (items_of names q.first) q.more in
    let keys = keys_checks (scope_of names q.first) (items_of names q.first) q.order_by in
    let first_none : first_refusal first ≡ None = search rules in
    let more_none : first_refusal more ≡ None = search rules in
    let viewed : select_view c.in_ok-first.field-0.select ≡ bound_select names q.first = search rules in
    let items : c.as_slice.result.now ≡ items_of names q.first = search rules in
    let bound : map select_view c.as_slice-2.result.now ≡ map (λ u. bound_select names u.select) q.more = search rules in
    let united = alike_union names q.first c.as_slice.result.now c.as_slice-2.result.now q.more items bound in
    let said = bind_tells c.in_err-check_alike.field-0.0 in
    let fault : first_refusal alike ≡ check_at_fault (first_refusal alike) said =
    subst (λ checks. first_refusal checks ≡ check_at_fault (first_refusal checks) said) united (search rules) in
    let fact = fault_before (first_refusal (query_checks names q)) alike keys said (third_of_four first more alike keys first_none more_none) fault in
    search rules

pub returns-in_err-order_by-clause-checks : goal.returns-in_err-order_by-clause-checks
returns-in_err-order_by-clause-checks c =
    let names = c.args.tables.now in
    let q = c.args.query.now in
    let first = select_checks names q.first in
    let more = selects_checks names q.more in
    let alike = union_checks names (items_of names q.first) q.more in
    let keys = keys_checks (scope_of names q.first) (items_of names q.first) q.order_by in
    let first_none : first_refusal first ≡ None = search rules in
    let more_none : first_refusal more ≡ None = search rules in
    let viewed : select_view c.in_ok-first.field-0.select ≡ bound_select names q.first = search rules in
    let items : c.as_slice.result.now ≡ items_of names q.first = search rules in
    let bound : map select_view c.as_slice-2.result.now ≡ map (λ u. bound_select names u.select) q.more = search rules in
    let united = alike_union names q.first c.as_slice.result.now c.as_slice-2.result.now q.more items bound in
    let alike_none : first_refusal alike ≡ None = subst (λ checks. first_refusal checks ≡ None) united (search rules) in
    let seen : c.as_slice-3.result.now ≡ scope_of names q.first = search rules in
    let listed : c.as_slice-4.result.now ≡ items_of names q.first = search rules in
    let keyed : keys_checks c.as_slice-3.result.now c.as_slice-4.result.now c.as_slice-5.result.now ≡ keys = cc in
    let said = bind_tells c.in_err-order_by.field-0.0 in
    let fault : first_refusal keys ≡ check_at_fault (first_refusal keys) said =
    subst (λ checks. first_refusal checks ≡ check_at_fault (first_refusal checks) said) keyed c.in_err-order_by.ensures.checks in
    let fact = fault_at (first_refusal (query_checks names q)) (first_refusal keys) said (fourth_of_four first more alike keys first_none more_none alike_none) fault in
    search rules

pub returns-clause-checks : goal.returns-clause-checks
returns-clause-checks c =
    let names = c.args.tables.now in
    let q = c.args.query.now in
    let first = select_checks names q.first in
    let more = selects_checks names q.more in
    let alike = union_checks names (items_of names q.first) q.more in
    let keys = keys_checks (scope_of names q.first) (items_of names q.first) q.order_by in
    let first_none : first_refusal first ≡ None = search rules in
    let more_none : first_refusal more ≡ None = search rules in
    let viewed : select_view c.in_ok-first.field-0.select ≡ bound_select names q.first = search rules in
    let items : c.as_slice.result.now ≡ items_of names q.first = search rules in
    let bound : map select_view c.as_slice-2.result.now ≡ map (λ u. bound_select names u.select) q.more = search rules in
    let united = alike_union names q.first c.as_slice.result.now c.as_slice-2.result.now q.more items bound in
    let alike_none : first_refusal alike ≡ None = subst (λ checks. first_refusal checks ≡ None) united (search rules) in
    let seen : c.as_slice-3.result.now ≡ scope_of names q.first = search rules in
    let listed : c.as_slice-4.result.now ≡ items_of names q.first = search rules in
    let keyed : keys_checks c.as_slice-3.result.now c.as_slice-4.result.now c.as_slice-5.result.now ≡ keys = cc in
    fourth_of_four first more alike keys first_none more_none alike_none
    ∙ subst (λ checks. first_refusal checks ≡ None) keyed c.in_ok-order_by.ensures.checks
