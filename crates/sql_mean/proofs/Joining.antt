-- Joins and conditions along a loop over rows.
use Rattle.std.proofs.Common.{◌≡◌, sym, ap, ◌∙◌, ℕ, ◌+◌, ◌<◌, Bool, true, false, not, List, [], ◌∷◌, ◌++◌, length, drop, get_or, filter, map}
use Rattle.std.specs.List.{flat_map, list_any}
use Rattle.std.proofs.lemmas.List.Elements.{filter-append}
use Rattle.sql_bind.specs.Bound.{Conditions}
use Rattle.sql_bind.specs.declared.bound.JoinedBy.TheVariants as by
use Rattle.sql_mean.specs.Meaning.{Joined, all_hold, joined_with}
use Rattle.sql_mean.specs.Rows.{Row}
use Rattle.qsr_lists.proofs.Walking.{drop_next}
use Rattle.sql_mean.proofs.Loops.{filter_no, filter_yes}

-- the conditions hold of some rows beside this one
abbrev pub meets : Conditions → Joined → Row → Bool
meets on env r = all_hold (env ++ r ∷ []) on

-- some rows beside each row of a table, under conditions
abbrev pub product_of : Conditions → Joined → List Row → List Joined
product_of on env rows = filter (λ e. all_hold e on) (map (λ r. env ++ r ∷ []) rows)

pub product_next : (on : Conditions) (rows : List Row) (envs : List Joined) (i : ℕ) (env : Joined) → i < length envs → env ≡ get_or envs i env
    → joined_with by.Product rows on (drop i envs) ≡ product_of on env rows ++ joined_with by.Product rows on (drop (i + 1) envs)
product_next on rows envs i env low is =
    ap (joined_with by.Product rows on) (drop_next envs i env low is)
    ∙ filter-append (λ e. all_hold e on) (map (λ r. env ++ r ∷ []) rows) (flat_map (λ e. map (λ r. e ++ r ∷ []) rows) (drop (i + 1) envs))

-- those of some rows that are kept, each with the empty row of a table beside it
abbrev pub kept : (Joined → Bool) → List Joined → List Joined
kept p envs = map (λ env. env ++ [] ∷ []) (filter p envs)

kept_yes : (p : Joined → Bool) (envs : List Joined) (i : ℕ) (env next : Joined) → i < length envs → env ≡ get_or envs i env → p env ≡ true → next ≡ env ++ [] ∷ []
    → kept p (drop i envs) ≡ (next ∷ []) ++ kept p (drop (i + 1) envs)
kept_yes p envs i env next low is keeps made =
    ap (kept p) (drop_next envs i env low is)
    ∙ ap (map (λ e. e ++ [] ∷ [])) (filter_yes p env (drop (i + 1) envs) keeps)
    ∙ ap (λ e. e ∷ kept p (drop (i + 1) envs)) (sym made)

kept_no : (p : Joined → Bool) (envs : List Joined) (i : ℕ) (env : Joined) → i < length envs → env ≡ get_or envs i env → p env ≡ false
    → kept p (drop i envs) ≡ kept p (drop (i + 1) envs)
kept_no p envs i env low is isnt =
    ap (kept p) (drop_next envs i env low is) ∙ ap (map (λ e. e ++ [] ∷ [])) (filter_no p env (drop (i + 1) envs) isnt)

pub semi_kept : (on : Conditions) (rows : List Row) (envs : List Joined) (i : ℕ) (env next : Joined) (some : Bool) → i < length envs → env ≡ get_or envs i env
    → some ≡ list_any (meets on env) rows → some ≡ true → next ≡ env ++ [] ∷ []
    → joined_with by.Semi rows on (drop i envs) ≡ (next ∷ []) ++ joined_with by.Semi rows on (drop (i + 1) envs)
semi_kept on rows envs i env next some low is said keeps made = kept_yes (λ e. list_any (meets on e) rows) envs i env next low is (sym said ∙ keeps) made

pub semi_left : (on : Conditions) (rows : List Row) (envs : List Joined) (i : ℕ) (env : Joined) (some : Bool) → i < length envs → env ≡ get_or envs i env
    → some ≡ list_any (meets on env) rows → some ≡ false
    → joined_with by.Semi rows on (drop i envs) ≡ joined_with by.Semi rows on (drop (i + 1) envs)
semi_left on rows envs i env some low is said isnt = kept_no (λ e. list_any (meets on e) rows) envs i env low is (sym said ∙ isnt)

pub anti_kept : (on : Conditions) (rows : List Row) (envs : List Joined) (i : ℕ) (env next : Joined) (some : Bool) → i < length envs → env ≡ get_or envs i env
    → some ≡ list_any (meets on env) rows → some ≡ false → next ≡ env ++ [] ∷ []
    → joined_with by.Anti rows on (drop i envs) ≡ (next ∷ []) ++ joined_with by.Anti rows on (drop (i + 1) envs)
anti_kept on rows envs i env next some low is said isnt made = kept_yes (λ e. not (list_any (meets on e) rows)) envs i env next low is (ap not (sym said ∙ isnt)) made

pub anti_left : (on : Conditions) (rows : List Row) (envs : List Joined) (i : ℕ) (env : Joined) (some : Bool) → i < length envs → env ≡ get_or envs i env
    → some ≡ list_any (meets on env) rows → some ≡ true
    → joined_with by.Anti rows on (drop i envs) ≡ joined_with by.Anti rows on (drop (i + 1) envs)
anti_left on rows envs i env some low is said keeps = kept_no (λ e. not (list_any (meets on e) rows)) envs i env low is (ap not (sym said ∙ keeps))

-- ---- rows of which conditions hold

abbrev pub met_of : Conditions → List Joined → List Joined
met_of on envs = filter (λ e. all_hold e on) envs
