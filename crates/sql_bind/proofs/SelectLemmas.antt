-- Selects one after another, and selects that are alike.
use Rattle.std.proofs.Common.{◌≡◌, refl, sym, ap, ◌∙◌, subst, ℕ, suc, ◌+◌, ◌<◌, ◌≤◌, min, ◌&&◌, not, false, List, [], ◌∷◌, ◌++◌, map, length, take, drop, get_or, Option, None, ◌⊎◌, inl, inr, arith}
use Rattle.std.proofs.Math.Bool.{and-false}
use Rattle.std.proofs.lemmas.Bool.{cases_lt}
use Rattle.std.proofs.lemmas.List.{append_assoc, at_drop_all, map-append}
use Rattle.sql_bind.specs.Bound.{bound_select}
use Rattle.sql_bind.specs.Checks.{alike_checks, are_alike, differ, is_text_item, items_of, refuse_if, select_checks, selects_checks, union_checks}
use Rattle.sql_bind.specs.Names.{BindRefusal, UnionClash}
use Rattle.sql_bind.specs.View.{select_view}
use Rattle.sql_bind.specs.declared.bound.BoundItem.{BoundItem}
use Rattle.sql_bind.specs.declared.bound.BoundSelect as code_select
use Rattle.sql_bind.specs.declared.names.NamedTable.{NamedTable}
use Rattle.sql_bind.proofs.CheckLemmas.{passed}
use Rattle.qsr_lists.proofs.Walking.{drop_next, take_next}
use Rattle.sql_front.specs.declared.tree.Select.{Select}
use Rattle.sql_front.specs.declared.tree.UnionAll.{UnionAll}
use Rattle.grammar_laws.specs.Checks.{Check, check_at_fault, first_refusal}

-- the checks of the next select, and those behind it
pub selects_turn : (names : List NamedTable) (more : List UnionAll) (i : ℕ) (u : UnionAll) → i < length more → u ≡ get_or more i u
    → selects_checks names (drop i more) ≡ select_checks names u.select ++ selects_checks names (drop (i + 1) more)
selects_turn names more i u low is = ap (selects_checks names) (drop_next more i u low is)

-- a select that is pushed is the next of those that are taken
pub select_pushed : (names : List NamedTable) (selects : List code_select.BoundSelect) (s : code_select.BoundSelect) (more : List UnionAll) (i : ℕ) (u : UnionAll)
    → i < length more → u ≡ get_or more i u → map select_view selects ≡ map (λ u. bound_select names u.select) (take i more) → select_view s ≡ bound_select names u.select
    → map select_view (selects ++ s ∷ []) ≡ map (λ u. bound_select names u.select) (take (i + 1) more)
select_pushed names selects s more i u low is before same =
    map-append select_view selects (s ∷ [])
    ∙ ap (λ ss. ss ++ select_view s ∷ []) before
    ∙ ap (λ b. map (λ u. bound_select names u.select) (take i more) ++ b ∷ []) same
    ∙ sym (map-append (λ u. bound_select names u.select) (take i more) (u ∷ []))
    ∙ ap (map (λ u. bound_select names u.select)) (sym (take_next more i u low is))

-- the checks of selects that were bound are those of what they were bound from
union_alike : (names : List NamedTable) (first : List BoundItem) (others : List code_select.BoundSelect) (more : List UnionAll)
    → map select_view others ≡ map (λ u. bound_select names u.select) more
    → alike_checks first (map (λ s. s.items) others) more ≡ union_checks names first more
union_alike names first [] [] same = refl
union_alike names first [] (u ∷ us) same = absurd (cc)
union_alike names first (s ∷ ss) [] same = absurd (cc)
union_alike names first (s ∷ ss) (u ∷ us) same =
    let head : select_view s ≡ bound_select names u.select = cc in
    let rest : map select_view ss ≡ map (λ u. bound_select names u.select) us = cc in
    ap (λ is. refuse_if (not (are_alike first is)) (UnionClash u.select.at) ∷ alike_checks first (map (λ s. s.items) ss) us) (ap (λ b. b.items) head)
    ∙ ap (λ checks. refuse_if (not (are_alike first (items_of names u.select))) (UnionClash u.select.at) ∷ checks) (union_alike names first ss us rest)

-- the same where the items of the first are known by its text
pub alike_union : (names : List NamedTable) (first : Select) (is : List BoundItem) (others : List code_select.BoundSelect) (more : List UnionAll)
    → is ≡ items_of names first → map select_view others ≡ map (λ u. bound_select names u.select) more
    → alike_checks is (map (λ s. s.items) others) more ≡ union_checks names (items_of names first) more
alike_union names first is others more same bound = union_alike names is others more bound ∙ ap (λ is. union_checks names is more) same

-- ---- items

-- lists of unlike length are not alike
pub unlike_lengths : (a b : List BoundItem) → (length a ≡ length b → ⊥) → are_alike a b ≡ false
unlike_lengths [] [] ne = absurd (ne refl)
unlike_lengths [] (j ∷ js) ne = refl
unlike_lengths (i ∷ is) [] ne = refl
unlike_lengths (i ∷ is) (j ∷ js) ne = ap (λ b. not (differ (is_text_item i) (is_text_item j)) && b) (unlike_lengths is js (λ e. ne (ap suc e))) ∙ and-false _

-- ---- the ends of loops

-- behind the last of them nothing is left to check
pub alike_end : (first : List BoundItem) (others : List code_select.BoundSelect) (more : List UnionAll) (n : ℕ) → n ≡ min (length others) (length more)
    → alike_checks first (map (λ s. s.items) (drop n others)) (drop n more) ≡ []
alike_end first others more n same = by (cases_lt (length others) (length more))
  where
    none : (iss : List (List BoundItem)) → alike_checks first iss [] ≡ []
    none [] = refl
    none (is ∷ iss) = refl

    by : (length others < length more) ⊎ (length more ≤ length others) → alike_checks first (map (λ s. s.items) (drop n others)) (drop n more) ≡ []
    by (inl lt) = at_drop_all (λ ss. alike_checks first (map (λ s. s.items) ss) (drop n more)) others n (omega arith)
    by (inr le) = at_drop_all (λ us. alike_checks first (map (λ s. s.items) (drop n others)) us) more n (omega arith) ∙ none (map (λ s. s.items) (drop n others))

-- ---- parts of a select

pub first_part : (xs ys zs : List (Check BindRefusal)) → first_refusal (xs ++ ys ++ zs) ≡ first_refusal (xs ++ (ys ++ zs))
first_part xs ys zs = ap first_refusal (append_assoc xs ys zs)

pub second_part : (xs ys zs : List (Check BindRefusal)) → first_refusal xs ≡ None → first_refusal (xs ++ ys ++ zs) ≡ first_refusal (ys ++ zs)
second_part xs ys zs none = first_part xs ys zs ∙ passed xs (ys ++ zs) none

pub third_part : (xs ys zs : List (Check BindRefusal)) → first_refusal xs ≡ None → first_refusal ys ≡ None → first_refusal (xs ++ ys ++ zs) ≡ first_refusal zs
third_part xs ys zs none none' = second_part xs ys zs none ∙ passed ys zs none'

-- a fault in the last checks is one of all
pub fault_at : (all some : Check BindRefusal) (said : Option BindRefusal) → all ≡ some → some ≡ check_at_fault some said → all ≡ check_at_fault all said
fault_at all some said same fault = subst (λ check. check ≡ check_at_fault check said) (sym same) fault

-- ---- parts of a query

pub first_of_four : (xs ys zs ws : List (Check BindRefusal)) → first_refusal (xs ++ ys ++ zs ++ ws) ≡ first_refusal (xs ++ (ys ++ (zs ++ ws)))
first_of_four xs ys zs ws = ap first_refusal (append_assoc (xs ++ ys) zs ws ∙ append_assoc xs ys (zs ++ ws))

pub second_of_four : (xs ys zs ws : List (Check BindRefusal)) → first_refusal xs ≡ None → first_refusal (xs ++ ys ++ zs ++ ws) ≡ first_refusal (ys ++ (zs ++ ws))
second_of_four xs ys zs ws none = first_of_four xs ys zs ws ∙ passed xs (ys ++ (zs ++ ws)) none

pub third_of_four : (xs ys zs ws : List (Check BindRefusal)) → first_refusal xs ≡ None → first_refusal ys ≡ None → first_refusal (xs ++ ys ++ zs ++ ws) ≡ first_refusal (zs ++ ws)
third_of_four xs ys zs ws none none' = second_of_four xs ys zs ws none ∙ passed ys (zs ++ ws) none'

pub fourth_of_four : (xs ys zs ws : List (Check BindRefusal)) → first_refusal xs ≡ None → first_refusal ys ≡ None → first_refusal zs ≡ None
    → first_refusal (xs ++ ys ++ zs ++ ws) ≡ first_refusal ws
fourth_of_four xs ys zs ws none none' none'' = third_of_four xs ys zs ws none none' ∙ passed zs ws none''
