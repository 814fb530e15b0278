-- Groups of a select with GROUP BY, and one turn of the loop over them.
use Rattle.std.proofs.Common.{◌≡◌, refl, sym, subst, ℕ, ◌<◌, List, [], ◌∷◌, length, get_or}
use Rattle.std.specs.List.{All}
use Rattle.std.proofs.lemmas.List.Elements.{All-get_or}
use Rattle.qsr_lists.specs.Lists.{groups}
use Rattle.sql_bind.specs.declared.bound.BoundColumn.{BoundColumn}
use Rattle.sql_bind.specs.declared.bound.BoundItem.{BoundItem}
use Rattle.sql_mean.specs.Fits.{GroupFits, GroupsFit}
use Rattle.sql_mean.specs.Meaning.{Joined, key_of}
use Rattle.sql_mean.specs.Rows.{Row, same_row}

-- where each group fits, the next does
pub next_group_fits : (items : List BoundItem) (gs : List (Row × List Joined)) (i : ℕ) (g : Row × List Joined) → i < length gs → g ≡ get_or gs i g
    → All (λ (g : Row × List Joined). GroupFits items g.1) gs → GroupFits items g.1
next_group_fits items gs i g low is fits =
    subst (λ (g : Row × List Joined). GroupFits items g.1) (sym is) (All-get_or (λ (g : Row × List Joined). GroupFits items g.1) gs i g low fits)

pub grouped_fits : (items : List BoundItem) (cs : List BoundColumn) (envs : List Joined) → (cs ≡ [] → ⊥) → GroupsFit items cs envs
    → All (λ (g : Row × List Joined). GroupFits items g.1) (groups same_row (key_of cs) envs)
grouped_fits items [] envs some fits = absurd (some refl)
grouped_fits items (c ∷ cs) envs some fits = fits
