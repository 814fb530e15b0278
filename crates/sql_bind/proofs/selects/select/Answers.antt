use Rattle.std.proofs.Common.{◌≡◌, rules, refl, subst, ◌∙◌, None}
use Rattle.sql_bind.specs.Checks.{from_checks, scoped_checks, select_checks, bind_tells}
use Rattle.sql_bind.specs.Names.{scope_of}
use Rattle.sql_bind.proofs.CheckLemmas.{passed}
use Rattle.sql_bind.proofs.FromLemmas.{fault_before}
use Rattle.sql_bind.proofs.SelectLemmas.{fault_at}
use Rattle.sql_bind.proofs.selects.select.Goals as goal
use Rattle.grammar_laws.specs.Checks.{first_refusal, check_at_fault}

pub returns-in_err-tables-clause-checks : goal.returns-in_err-tables-clause-checks
returns-in_err-tables-clause-checks c =
    let names = c.args.names.now in
    let s = c.args.select.now in
    let fact = fault_before (first_refusal (select_checks names s)) (from_checks names s) (scoped_checks (scope_of names s) s) (bind_tells c.in_err-tables.field-0.0) refl (search rules) in
    search rules

pub returns-in_err-select-clause-checks : goal.returns-in_err-select-clause-checks
returns-in_err-select-clause-checks c =
    let names = c.args.names.now in
    let s = c.args.select.now in
    let said = bind_tells c.in_err-select.field-0.0 in
    let seen : c.as_slice.result.now ≡ scope_of names s = search rules in
    let fault : first_refusal (scoped_checks (scope_of names s) s) ≡ check_at_fault (first_refusal (scoped_checks (scope_of names s) s)) said =
    subst (λ scope. first_refusal (scoped_checks scope s) ≡ check_at_fault (first_refusal (scoped_checks scope s)) said) seen c.in_err-select.ensures.checks in
    let fact = fault_at (first_refusal (select_checks names s)) (first_refusal (scoped_checks (scope_of names s) s)) said
    (passed (from_checks names s) (scoped_checks (scope_of names s) s) (search rules)) fault in
    search rules

pub returns-clause-checks : goal.returns-clause-checks
returns-clause-checks c =
    let names = c.args.names.now in
    let s = c.args.select.now in
    let seen : c.as_slice.result.now ≡ scope_of names s = search rules in
    passed (from_checks names s) (scoped_checks (scope_of names s) s) (search rules)
    ∙ subst (λ scope. first_refusal (scoped_checks scope s) ≡ None) seen c.in_ok-select.ensures.checks
