-- When each SUM of a query can be computed in 128 signed bits, adding the values in the order of the rows.
use Rattle.std.specs.Prelude.{◌≡◌, ℕ, ⊤, true, List, [], ◌∷◌, map, take, FitsSigned}
use Rattle.std.specs.Int.{w128}
use Rattle.std.specs.List.{All}
use Rattle.qsr_value.specs.declared.row.Value.{Value}
use Rattle.sql_bind.specs.Bound.{Bound, BoundSelect}
use Rattle.sql_bind.specs.declared.bound.BoundColumn.{BoundColumn}
use Rattle.sql_bind.specs.declared.bound.BoundItem.{BoundItem}
use Rattle.sql_bind.specs.declared.bound.BoundItem.TheVariants as item
use Rattle.sql_front.specs.declared.words.Aggregate.{Aggregate}
use Rattle.sql_front.specs.declared.words.Aggregate.TheVariants as aggregate
use Rattle.qsr_lists.specs.Lists.{groups}
use Rattle.sql_mean.specs.Meaning.{Joined, Lists, has_groups, key_of, matches, sum_of, value_at}
use Rattle.sql_mean.specs.Rows.{same_row}

-- each partial sum of some values
abbrev pub SumsFit : List Value → Type 0
SumsFit vs = (n : ℕ) → FitsSigned w128 (sum_of (take n vs))

abbrev pub FoldFits : Aggregate → List Value → Type 0
FoldFits aggregate.Sum vs = SumsFit vs
FoldFits aggregate.Min vs = ⊤
FoldFits aggregate.Max vs = ⊤

-- an item of a group of these rows
abbrev pub ItemFits : List Joined → BoundItem → Type 0
ItemFits envs (item.Column c) = ⊤
ItemFits envs item.Count = ⊤
ItemFits envs (item.Fold f c) = FoldFits f (map (λ env. value_at env c) envs)

abbrev pub GroupFits : List BoundItem → List Joined → Type 0
GroupFits items envs = All (ItemFits envs) items

-- each group of these rows
abbrev pub GroupsFit : List BoundItem → List BoundColumn → List Joined → Type 0
GroupsFit items [] envs = GroupFits items envs
GroupsFit items (c ∷ cs) envs = All (λ g. GroupFits items g.1) (groups same_row (key_of (c ∷ cs)) envs)

-- each group of a select, where its rows stand for groups
abbrev pub ShownFits : BoundSelect → List Joined → Type 0
ShownFits s envs = has_groups s ≡ true → GroupsFit s.items s.group_by envs

abbrev pub SelectFits : Lists → BoundSelect → Type 0
SelectFits tables s = ShownFits s (matches tables s)

-- each SUM of each group of each select
pub record QueryFits (tables : Lists) (q : Bound) : Type 0 where
  pub first : SelectFits tables q.first
  pub others : All (SelectFits tables) q.others
