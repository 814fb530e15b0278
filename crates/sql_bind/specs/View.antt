-- The bound query of the values that the binder makes, and the further units of a condition that it reads.
use Rattle.std.specs.Prelude.{Bool, true, false, ◌||◌, List, [], ◌∷◌, map}
use Rattle.sql_bind.specs.Bound as bound
use Rattle.sql_bind.specs.Bound.{Conditions, none, and_then, compared, opposite, all_of, any_of}
use Rattle.sql_bind.specs.declared.bound.Bound as code_bound
use Rattle.sql_bind.specs.declared.bound.BoundSelect as code_select
use Rattle.sql_bind.specs.declared.bound.BoundTable as code_table
use Rattle.sql_bind.specs.declared.bound.Condition.{Condition}
use Rattle.sql_bind.specs.declared.bound.Condition.TheBlock.{Row_of-Condition, end_of-Condition, more_of-Condition, Compare, Not', All', Any'}
use Rattle.sql_front.specs.Tree.{UnitTree}
use Rattle.sql_front.specs.View.{predicate_tree}
use Rattle.sql_front.specs.declared.tree.Joined.{Joined}
use Rattle.sql_front.specs.declared.tree.Joined.TheVariants as joined

unfoldable mutual
  pub condition_of : Condition → bound.Condition
  condition_of (Compare l op r) = compared l op r
  condition_of (Not' s (more_of-Condition c end_of-Condition)) = opposite (condition_of c)
  condition_of (All' s row) = all_of (row_of none row)
  condition_of (Any' s row) = any_of (row_of none row)

  pub row_of : {n : _} → Conditions → Row_of-Condition n → Conditions
  row_of before end_of-Condition = before
  row_of before (more_of-Condition c rest) = row_of (and_then before (condition_of c)) rest

-- conditions behind others
abbrev pub conditions_from : Conditions → List Condition → Conditions
conditions_from before [] = before
conditions_from before (c ∷ cs) = conditions_from (and_then before (condition_of c)) cs

abbrev pub conditions_of : List Condition → Conditions
conditions_of cs = conditions_from none cs

abbrev pub table_view : code_table.BoundTable → bound.BoundTable
table_view t = record { table = t.table; joined = t.joined; conditions = conditions_of t.conditions }

abbrev pub select_view : code_select.BoundSelect → bound.BoundSelect
select_view s = record { distinct = s.distinct; tables = map table_view s.tables; conditions = conditions_of s.conditions; items = s.items; group_by = s.group_by }

abbrev pub bound_view : code_bound.Bound → bound.Bound
bound_view b = record { first = select_view b.first; others = map select_view b.others; order_by = b.order_by; limit = b.limit; options = b.options }

-- ---- the further units of a condition

abbrev pub joined_unit : Joined → UnitTree
joined_unit (joined.And u) = predicate_tree u
joined_unit (joined.Or u) = predicate_tree u

abbrev pub is_or : Joined → Bool
is_or (joined.And u) = false
is_or (joined.Or u) = true

-- whether OR joins some of these units to those before them
abbrev pub has_or : List Joined → Bool
has_or [] = false
has_or (j ∷ js) = is_or j || has_or js
