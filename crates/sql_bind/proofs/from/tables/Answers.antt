use Rattle.std.proofs.Common.{◌≡◌, ◌<◌, ◌+◌, rules, sym, ap, ◌∙◌, [], ◌∷◌, ◌++◌, map, drop, length}
use Rattle.sql_bind.specs.Bound.{bound_table, bound_tables}
use Rattle.sql_bind.specs.Checks.{on_checks, ons_checks, bind_tells}
use Rattle.sql_bind.specs.Names.{scope_behind, scope_from, scoped, table_of}
use Rattle.sql_bind.specs.View.{table_view}
use Rattle.grammar_laws.specs.Checks.{first_refusal}
use Rattle.sql_bind.proofs.CheckLemmas.{passed}
use Rattle.sql_bind.proofs.FromLemmas.{bound_pushed, bound_turn, fault_before, ons_turn, scope_turn}
use Rattle.sql_bind.proofs.from.tables.Goals as goal

pub returns-in_err-next_table-clause-checks : goal.returns-in_err-next_table-clause-checks
returns-in_err-next_table-clause-checks c =
    let names = c.args.names.now in
    let more = c.args.more.now in
    let place = c.loop-place.place in
    let scope = c.loop-place.scope in
    let m = c.index-more-place.result in
    let s = scoped names (place + 1) (table_of m) in
    let turn = ons_turn names (place + 1) scope more place m (search rules) c.index-more-place.is in
    let fact = fault_before (first_refusal (ons_checks names 1 (scoped names 0 c.args.first.now ∷ []) more)) (on_checks scope s m)
    (ons_checks names (place + 1 + 1) (scope_behind m scope s) (drop (place + 1) more)) (bind_tells c.in_err-next_table.field-0.0)
    (c.loop-place.invariant.checked ∙ ap first_refusal turn) (search rules) in
    search rules

pub loop-place-preserved : goal.loop-place-preserved
loop-place-preserved c =
    let names = c.args.names.now in
    let more = c.args.more.now in
    let place = c.loop-place.place in
    let scope = c.loop-place.scope in
    let m = c.index-more-place.result in
    let s = scoped names (place + 1) (table_of m) in
    let rest = drop (place + 1) more in
    let low : place < length more = search rules in
    let behind : scope_behind m scope s ≡ c.next_table.new.scope = sym c.in_ok-next_table.ensures.scope in
    record {
      checked = c.loop-place.invariant.checked
          ∙ ap first_refusal (ons_turn names (place + 1) scope more place m low c.index-more-place.is)
          ∙ passed (on_checks scope s m) (ons_checks names (place + 1 + 1) (scope_behind m scope s) rest) (search rules)
          ∙ ap (λ scope. first_refusal (ons_checks names (place + 1 + 1) scope rest)) behind;
      bound = sym (ap (λ bs. map table_view c.loop-place.tables ++ bs) (bound_turn names (place + 1) scope more place m low c.index-more-place.is)
          ∙ bound_pushed c.loop-place.tables c.in_ok-next_table.field-0 (bound_table names scope s m) (bound_tables names (place + 1 + 1) (scope_behind m scope s) rest) (search rules)
          ∙ ap (λ scope. map table_view (c.loop-place.tables ++ c.in_ok-next_table.field-0 ∷ []) ++ bound_tables names (place + 1 + 1) scope rest) behind
          ∙ ap (λ tables. map table_view tables ++ bound_tables names (place + 1 + 1) c.next_table.new.scope rest) (sym c.in_ok-push-3.ensures.ok))
          ∙ c.loop-place.invariant.bound;
      seen = sym (scope_turn names (place + 1) scope more place m low c.index-more-place.is ∙ ap (λ scope. scope_from names (place + 1 + 1) scope rest) behind)
          ∙ c.loop-place.invariant.seen;
    }
