use Rattle.std.proofs.Common.{rules, refl, [], ◌∷◌, ◌++◌}
use Rattle.sql_bind.specs.Checks.{ons_checks, table_checks, tables_checks, bind_tells}
use Rattle.sql_bind.specs.Names.{known, scoped}
use Rattle.grammar_laws.specs.Checks.{first_refusal}
use Rattle.sql_bind.proofs.FromLemmas.{fault_before, result_behind}
use Rattle.sql_bind.proofs.from.from.Goals as goal

pub returns-in_err-check_tables-clause-checks : goal.returns-in_err-check_tables-clause-checks
returns-in_err-check_tables-clause-checks c =
    let names = c.args.names.now in
    let s = c.args.select.now in
    let there = table_checks names [] s.table ++ tables_checks names (known s.table ∷ []) s.more in
    let ons = ons_checks names 1 (scoped names 0 s.table ∷ []) s.more in
    let fact = fault_before (first_refusal (there ++ ons)) there ons (bind_tells c.in_err-check_tables.field-0.0) refl (search rules) in
    search rules

pub returns-clause-checks : goal.returns-clause-checks
returns-clause-checks c =
    let names = c.args.names.now in
    let s = c.args.select.now in
    let there = table_checks names [] s.table ++ tables_checks names (known s.table ∷ []) s.more in
    let ons = ons_checks names 1 (scoped names 0 s.table ∷ []) s.more in
    result_behind (first_refusal (there ++ ons)) there ons c.tables.result refl (search rules) (search rules)
