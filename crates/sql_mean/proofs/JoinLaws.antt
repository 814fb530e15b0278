-- Tables joined without conditions are their product.
use Rattle.std.specs.Prelude.{◌≡◌, ℕ, true, List, [], ◌∷◌, ◌++◌, filter, map}
use Rattle.std.specs.List.{flat_map}
use Rattle.std.proofs.Common.{refl, sym, ap, ◌∙◌}
use Rattle.std.proofs.lemmas.Grind.{flat_map-append}
use Rattle.std.proofs.lemmas.List.{append_assoc, append-nil, map-append}
use Rattle.qsr_lists.specs.Lists.{product}
use Rattle.sql_mean.specs.Laws.{plain_tables}
use Rattle.sql_mean.specs.Meaning.{Joined, Lists, joined_all, rows_at}
use Rattle.sql_mean.specs.Rows.{Row}

-- these rows, each behind those of an environment
abbrev pub behind : Joined → List Joined → List Joined
behind env rests = map (λ rest. env ++ rest) rests

-- a test that all pass keeps all
all_pass : {X : Type 0} (xs : List X) → filter (λ x. true) xs ≡ xs
all_pass [] = refl
all_pass (x ∷ xs) = ap (λ more. x ∷ more) (all_pass xs)

one_row : (env : Joined) (r : Row) (rests : List Joined) → behind (env ++ r ∷ []) rests ≡ behind env (map (λ rest. r ∷ rest) rests)
one_row env r [] = refl
one_row env r (rest ∷ rests) = ap (λ e. e ∷ behind (env ++ r ∷ []) rests) (append_assoc env (r ∷ []) rest) ∙ ap (λ es. (env ++ r ∷ rest) ∷ es) (one_row env r rests)

one_env : (env : Joined) (rows : List Row) (rests : List Joined)
    → flat_map (λ e. behind e rests) (map (λ r. env ++ r ∷ []) rows) ≡ behind env (flat_map (λ r. map (λ rest. r ∷ rest) rests) rows)
one_env env [] rests = refl
one_env env (r ∷ rows) rests =
    ap (λ es. es ++ flat_map (λ e. behind e rests) (map (λ s. env ++ s ∷ []) rows)) (one_row env r rests)
    ∙ ap (λ es. behind env (map (λ rest. r ∷ rest) rests) ++ es) (one_env env rows rests)
    ∙ sym (map-append (λ rest. env ++ rest) (map (λ rest. r ∷ rest) rests) (flat_map (λ s. map (λ rest. s ∷ rest) rests) rows))

one_table : (envs : List Joined) (rows : List Row) (rests : List Joined)
    → flat_map (λ e. behind e rests) (flat_map (λ env. map (λ r. env ++ r ∷ []) rows) envs)
    ≡ flat_map (λ env. behind env (flat_map (λ r. map (λ rest. r ∷ rest) rests) rows)) envs
one_table [] rows rests = refl
one_table (env ∷ envs) rows rests =
    flat_map-append (λ e. behind e rests) (map (λ r. env ++ r ∷ []) rows) (flat_map (λ e. map (λ r. e ++ r ∷ []) rows) envs)
    ∙ ap (λ es. es ++ flat_map (λ e. behind e rests) (flat_map (λ e. map (λ r. e ++ r ∷ []) rows) envs)) (one_env env rows rests)
    ∙ ap (λ es. behind env (flat_map (λ r. map (λ rest. r ∷ rest) rests) rows) ++ es) (one_table envs rows rests)

-- nothing behind each
no_table : (envs : List Joined) → envs ≡ flat_map (λ env. behind env ([] ∷ [])) envs
no_table [] = refl
no_table (env ∷ envs) = ap (λ e. e ∷ envs) (sym (append-nil env)) ∙ ap (λ es. (env ++ []) ∷ es) (no_table envs)

pub joined_behind : (tables : Lists) (numbers : List ℕ) (envs : List Joined)
    → joined_all tables (plain_tables numbers) envs ≡ flat_map (λ env. behind env (product (map (rows_at tables) numbers))) envs
joined_behind tables [] envs = no_table envs
joined_behind tables (n ∷ ns) envs =
    ap (joined_all tables (plain_tables ns)) (all_pass (flat_map (λ env. map (λ r. env ++ r ∷ []) (rows_at tables n)) envs))
    ∙ joined_behind tables ns (flat_map (λ env. map (λ r. env ++ r ∷ []) (rows_at tables n)) envs)
    ∙ one_table envs (rows_at tables n) (product (map (rows_at tables) ns))

same_rests : (rests : List Joined) → behind [] rests ++ [] ≡ rests
same_rests [] = refl
same_rests (rest ∷ rests) = ap (λ es. rest ∷ es) (same_rests rests)

pub from_is_the_product : (tables : Lists) (numbers : List ℕ) → joined_all tables (plain_tables numbers) ([] ∷ []) ≡ product (map (rows_at tables) numbers)
from_is_the_product tables numbers = joined_behind tables numbers ([] ∷ []) ∙ same_rests (product (map (rows_at tables) numbers))
