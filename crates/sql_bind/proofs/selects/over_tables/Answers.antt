use Rattle.std.proofs.Common.{◌≡◌, rules, subst, ◌∙◌, ◌++◌, option_map, None}
use Rattle.sql_bind.specs.Checks.{columns_checks, grouping_of, scoped_checks, selection_checks, bind_tells, where_checks}
use Rattle.sql_bind.proofs.FromLemmas.{fault_before}
use Rattle.sql_bind.proofs.SelectLemmas.{fault_at, first_part, second_part, third_part}
use Rattle.sql_bind.proofs.selects.over_tables.Goals as goal
use Rattle.sql_front.specs.View.{cond_tree}
use Rattle.grammar_laws.specs.Checks.{first_refusal, check_at_fault}

pub returns-in_err-conditions-clause-checks : goal.returns-in_err-conditions-clause-checks
returns-in_err-conditions-clause-checks c =
    let scope = c.args.scope.now in
    let s = c.args.select.now in
    let conditions = where_checks scope (option_map cond_tree s.condition) in
    let items = selection_checks (grouping_of scope s) scope s.items in
    let groups = columns_checks scope s.group_by in
    let fact = fault_before (first_refusal (scoped_checks scope s)) conditions (items ++ groups) (bind_tells c.in_err-conditions.field-0.0) (first_part conditions items groups) (search rules) in
    search rules

pub returns-in_err-items-clause-checks : goal.returns-in_err-items-clause-checks
returns-in_err-items-clause-checks c =
    let scope = c.args.scope.now in
    let s = c.args.select.now in
    let conditions = where_checks scope (option_map cond_tree s.condition) in
    let items = selection_checks (grouping_of scope s) scope s.items in
    let groups = columns_checks scope s.group_by in
    let said = bind_tells c.in_err-items.field-0.0 in
    let fault : first_refusal items ≡ check_at_fault (first_refusal items) said =
    subst (λ g. first_refusal (selection_checks g scope s.items) ≡ check_at_fault (first_refusal (selection_checks g scope s.items)) said) c.in_ok-grouping.ensures c.in_err-items.ensures.checks in
    let fact = fault_before (first_refusal (scoped_checks scope s)) items groups said (second_part conditions items groups (search rules)) fault in
    search rules

pub returns-in_err-group_by-clause-checks : goal.returns-in_err-group_by-clause-checks
returns-in_err-group_by-clause-checks c =
    let scope = c.args.scope.now in
    let s = c.args.select.now in
    let conditions = where_checks scope (option_map cond_tree s.condition) in
    let items = selection_checks (grouping_of scope s) scope s.items in
    let groups = columns_checks scope s.group_by in
    let none : first_refusal items ≡ None =
    subst (λ g. first_refusal (selection_checks g scope s.items) ≡ None) c.in_ok-grouping.ensures c.in_ok-items.ensures.checks in
    let fact = fault_at (first_refusal (scoped_checks scope s)) (first_refusal groups) (bind_tells c.in_err-group_by.field-0.0) (third_part conditions items groups (search rules) none) (search rules) in
    search rules

pub returns-clause-checks : goal.returns-clause-checks
returns-clause-checks c =
    let scope = c.args.scope.now in
    let s = c.args.select.now in
    let conditions = where_checks scope (option_map cond_tree s.condition) in
    let items = selection_checks (grouping_of scope s) scope s.items in
    let groups = columns_checks scope s.group_by in
    let none : first_refusal items ≡ None =
    subst (λ g. first_refusal (selection_checks g scope s.items) ≡ None) c.in_ok-grouping.ensures c.in_ok-items.ensures.checks in
    third_part conditions items groups (search rules) none ∙ search rules
