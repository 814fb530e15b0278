-- A sum, value by value.
use Rattle.std.specs.Prelude.{◌≡◌, ℕ, ◌+◌, ◌<◌, ℤ, pos, ◌+ℤ◌, List, [], ◌∷◌, ◌++◌, length, map, take, FitsSigned}
use Rattle.std.specs.Int.{w128}
use Rattle.std.proofs.Common.{sym, ap, subst, ◌∙◌, get_or}
use Rattle.std.proofs.Math.IntN.{+ℤ_assoc, +ℤ_comm}
use Rattle.std.proofs.lemmas.List.{map-append, take-map, take_more}
use Rattle.qsr_value.specs.declared.row.Value.{Value}
use Rattle.sql_mean.specs.Fits.{SumsFit}
use Rattle.sql_mean.specs.Meaning.{Joined, value_number, sum_of}

one_more : (vs : List Value) (v : Value) → sum_of (vs ++ v ∷ []) ≡ sum_of vs +ℤ value_number v
one_more [] v = +ℤ_comm (value_number v) (pos 0)
one_more (w ∷ vs) v = ap (λ (n : ℤ). value_number w +ℤ n) (one_more vs v) ∙ sym (+ℤ_assoc (value_number w) (sum_of vs) (value_number v))

-- the sum so far and the next value
pub next_sum : (f : Joined → Value) (envs : List Joined) (i : ℕ) (env : Joined) (sum number : ℤ) → i < length envs → env ≡ get_or envs i env
    → sum ≡ sum_of (map f (take i envs)) → number ≡ value_number (f env) → sum +ℤ number ≡ sum_of (map f (take (i + 1) envs))
next_sum f envs i env sum number low is so_far value =
    ap (λ (n : ℤ). n +ℤ number) so_far ∙ ap (λ (n : ℤ). sum_of (map f (take i envs)) +ℤ n) value
    ∙ sym (one_more (map f (take i envs)) (f env))
    ∙ ap sum_of (sym (map-append f (take i envs) (env ∷ [])))
    ∙ ap (λ e. sum_of (map f (take i envs ++ e ∷ []))) is
    ∙ ap (λ es. sum_of (map f es)) (sym (take_more envs i env low))

-- where each partial sum fits, this one does
pub next_fits : (f : Joined → Value) (envs : List Joined) (i : ℕ) (sum : ℤ) → sum ≡ sum_of (map f (take i envs)) → SumsFit (map f envs) → FitsSigned w128 sum
next_fits f envs i sum is fits = subst (FitsSigned w128) (ap sum_of (take-map f i envs) ∙ sym is) (fits i)
