-- The tables of FROM one after another: what is asked of them, what they are bound to, and what is in scope.
use Rattle.std.proofs.Common.{◌≡◌, sym, ap, ◌∙◌, subst, ℕ, ◌+◌, ◌<◌, List, [], ◌∷◌, ◌++◌, map, length, drop, get_or, Option, None, Result}
use Rattle.std.proofs.lemmas.List.{append_assoc, map-append}
use Rattle.qsr_lists.proofs.Walking.{drop_next}
use Rattle.sql_bind.specs.Bound.{BoundTable, bound_table, bound_tables}
use Rattle.sql_bind.specs.Checks.{on_checks, ons_checks, bind_tells}
use Rattle.sql_bind.specs.Names.{BindRefusal, Scoped, scope_behind, scope_from, scoped, table_of}
use Rattle.sql_bind.specs.View.{table_view}
use Rattle.sql_bind.specs.declared.bound.BoundTable as code_table
use Rattle.sql_bind.specs.declared.fault.BindFault.{BindFault}
use Rattle.sql_bind.specs.declared.names.NamedTable.{NamedTable}
use Rattle.sql_bind.proofs.CheckLemmas.{passed, refused}
use Rattle.sql_front.specs.declared.tree.More.{More}
use Rattle.grammar_laws.specs.Checks.{Check, Checks, first_refusal, check_at_fault, told}

-- a fault in checks that others follow is one of all
pub fault_before : (all : Check BindRefusal) (xs ys : List (Check BindRefusal)) (said : Option BindRefusal) → all ≡ first_refusal (xs ++ ys)
    → first_refusal xs ≡ check_at_fault (first_refusal xs) said → all ≡ check_at_fault all said
fault_before all xs ys said same fault = subst (λ check. check ≡ check_at_fault check said) (sym same) (refused xs ys said fault)

-- a result of checks behind others that refuse nothing is one of all
pub result_behind : {X : Type 0} (all : Check BindRefusal) (xs ys : List (Check BindRefusal)) (result : Result X BindFault) → all ≡ first_refusal (xs ++ ys)
    → first_refusal xs ≡ None → Checks bind_tells ys result → all ≡ told bind_tells all result
result_behind all xs ys result same none checks = subst (λ check. check ≡ told bind_tells check result) (sym (same ∙ passed xs ys none)) checks

-- ---- one table after another

-- the checks of the next table's ON, and those behind it
pub ons_turn : (names : List NamedTable) (place : ℕ) (scope : List Scoped) (more : List More) (i : ℕ) (m : More) → i < length more → m ≡ get_or more i m
    → ons_checks names place scope (drop i more)
    ≡ on_checks scope (scoped names place (table_of m)) m
    ++ ons_checks names (place + 1) (scope_behind m scope (scoped names place (table_of m))) (drop (i + 1) more)
ons_turn names place scope more i m low is = ap (ons_checks names place scope) (drop_next more i m low is)

-- the next table, bound, and those behind it
pub bound_turn : (names : List NamedTable) (place : ℕ) (scope : List Scoped) (more : List More) (i : ℕ) (m : More) → i < length more → m ≡ get_or more i m
    → bound_tables names place scope (drop i more)
    ≡ bound_table names scope (scoped names place (table_of m)) m
    ∷ bound_tables names (place + 1) (scope_behind m scope (scoped names place (table_of m))) (drop (i + 1) more)
bound_turn names place scope more i m low is = ap (bound_tables names place scope) (drop_next more i m low is)

-- what is in scope behind the next table and those behind it
pub scope_turn : (names : List NamedTable) (place : ℕ) (scope : List Scoped) (more : List More) (i : ℕ) (m : More) → i < length more → m ≡ get_or more i m
    → scope_from names place scope (drop i more)
    ≡ scope_from names (place + 1) (scope_behind m scope (scoped names place (table_of m))) (drop (i + 1) more)
scope_turn names place scope more i m low is = ap (scope_from names place scope) (drop_next more i m low is)

-- a table that is pushed is the first of those that were left
pub bound_pushed : (tables : List code_table.BoundTable) (t : code_table.BoundTable) (first : BoundTable) (rest : List BoundTable) → table_view t ≡ first
    → map table_view tables ++ first ∷ rest ≡ map table_view (tables ++ t ∷ []) ++ rest
bound_pushed tables t first rest same =
    ap (λ b. map table_view tables ++ b ∷ rest) (sym same)
    ∙ sym (append_assoc (map table_view tables) (table_view t ∷ []) rest)
    ∙ ap (λ bs. bs ++ rest) (sym (map-append table_view tables (t ∷ [])))
