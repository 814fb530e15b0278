-- ON of the last table of FROM is WHERE; semi and anti joins divide the rows; UNION ALL puts bags together.
use Rattle.std.specs.Prelude.{◌≡◌, ℕ, Bool, true, not, ◌&&◌, List, [], ◌∷◌, ◌++◌, filter, map}
use Rattle.std.specs.List.{flat_map, list_any}
use Rattle.std.specs.List.Sorted.{IsPermutation}
use Rattle.std.proofs.Common.{refl, sym, ap, subst, ◌∙◌, inl, inr}
use Rattle.std.proofs.Math.Bool.{and-true, and_assoc}
use Rattle.std.proofs.lemmas.Bool.{cases_Bool}
use Rattle.std.proofs.lemmas.Grind.{flat_map-append}
use Rattle.std.proofs.lemmas.List.{append_assoc, append-nil, map-append}
use Rattle.std.proofs.lemmas.List.Elements.{filter_agree}
use Rattle.std.proofs.lemmas.List.Sorted.{IsPermutation-filter_both, IsPermutation-map}
use Rattle.sql_bind.specs.Bound.{Bound, BoundSelect, BoundTable, Conditions, none, and_then}
use Rattle.sql_bind.specs.declared.bound.JoinedBy.TheVariants as by
use Rattle.sql_mean.specs.Laws.{both, union_all, with_join, with_where}
use Rattle.sql_mean.specs.Meaning.{Joined, Lists, all_hold, bag, distinct_rows, holds, joined_all, joined_with, rows_at, select_bag, shown}
use Rattle.sql_mean.specs.Rows.{Row}

-- ---- ON and WHERE

both_hold : (env : Joined) (before cs : Conditions) → all_hold env (both before cs) ≡ (all_hold env before && all_hold env cs)
both_hold env before none = sym (and-true (all_hold env before))
both_hold env before (and_then cs c) =
    ap (λ b. b && holds env c) (both_hold env before cs) ∙ and_assoc (all_hold env before) (all_hold env cs) (holds env c)

-- two tests in turn, and in one
in_one : {A : Type 0} (p q : A → Bool) (xs : List A) → filter q (filter p xs) ≡ filter (λ x. p x && q x) (filter (λ x. true) xs)
in_one p q [] = refl
in_one p q (x ∷ xs) = elim (cases_Bool (p x)) [
  | inl is ↦ rw is (elim (cases_Bool (q x)) [
    | inl too ↦ rw too (ap (λ rest. x ∷ rest) (in_one p q xs))
    | inr isnt ↦ rw isnt (in_one p q xs)
  ])
  | inr isnt ↦ rw isnt (in_one p q xs)
]

-- the last table joins what those before it leave
last_joins : (tables : Lists) (ts : List BoundTable) (t : BoundTable) (envs : List Joined)
    → joined_all tables (ts ++ t ∷ []) envs ≡ joined_with t.joined (rows_at tables t.table) t.conditions (joined_all tables ts envs)
last_joins tables [] t envs = refl
last_joins tables (u ∷ ts) t envs = last_joins tables ts t (joined_with u.joined (rows_at tables u.table) u.conditions envs)

pub on_in_where : (tables : Lists) (s : BoundSelect) (number : ℕ) (on wheres : Conditions)
    → select_bag tables (with_where (with_join s number on) wheres) ≡ select_bag tables (with_where (with_join s number none) (both on wheres))
on_in_where tables s number on wheres =
    let start : List Joined = joined_all tables s.tables ([] ∷ []) in
    let beside : List Joined = flat_map (λ (env : Joined). map (λ (r : Row). env ++ r ∷ []) (rows_at tables number)) start in
    let first = last_joins tables s.tables (record { table = number; joined = by.Product; conditions = on }) ([] ∷ []) in
    let second = last_joins tables s.tables (record { table = number; joined = by.Product; conditions = none }) ([] ∷ []) in
    ap (λ (envs : List Joined). distinct_rows s.distinct (shown s envs))
    (ap (filter (λ (env : Joined). all_hold env wheres)) first
    ∙ in_one (λ (env : Joined). all_hold env on) (λ (env : Joined). all_hold env wheres) beside
    ∙ filter_agree (λ (env : Joined). all_hold env on && all_hold env wheres) (λ (env : Joined). all_hold env (both on wheres)) (λ (env : Joined). sym (both_hold env on wheres)) (filter (λ (env : Joined). true) beside)
    ∙ ap (filter (λ (env : Joined). all_hold env (both on wheres))) (sym second))

-- ---- semi and anti joins

pub divided : (rows : List Row) (on : Conditions) (envs : List Joined)
    → IsPermutation (map (λ env. env ++ [] ∷ []) envs) (joined_with by.Semi rows on envs ++ joined_with by.Anti rows on envs)
divided rows on envs =
    let has : Joined → Bool = λ (env : Joined). list_any (λ (r : Row). all_hold (env ++ r ∷ []) on) rows in
    let hasnt : Joined → Bool = λ (env : Joined). not (has env) in
    let wider : Joined → Joined = λ (env : Joined). env ++ [] ∷ [] in
    subst (IsPermutation (map wider envs)) (map-append wider (filter has envs) (filter hasnt envs))
    (IsPermutation-map wider envs (filter has envs ++ filter hasnt envs) (IsPermutation-filter_both has hasnt (λ (env : Joined). refl) envs))

-- ---- UNION ALL

pub bags_together : (tables : Lists) (q : Bound) (s : BoundSelect) → bag tables (union_all q s) ≡ bag tables q ++ select_bag tables s
bags_together tables q s =
    ap (λ more. select_bag tables q.first ++ more)
    (flat_map-append (select_bag tables) q.others (s ∷ []) ∙ ap (λ last. flat_map (select_bag tables) q.others ++ last) (append-nil (select_bag tables s)))
    ∙ sym (append_assoc (select_bag tables q.first) (flat_map (select_bag tables) q.others) (select_bag tables s))
