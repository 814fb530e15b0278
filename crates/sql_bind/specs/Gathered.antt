-- A condition as it is read, a unit at a time: the conjunctions that OR has closed, and the units of the last one.
use Rattle.std.specs.Prelude.{List}
use Rattle.sql_bind.specs.Bound.{Condition, Conditions, none, and_then, all_of, any_of, bound_unit}
use Rattle.sql_bind.specs.Names.{Scoped}
use Rattle.sql_bind.specs.View.{condition_of, conditions_of}
use Rattle.sql_bind.specs.declared.make.OpenCondition as code_condition
use Rattle.sql_bind.specs.declared.make.OpenConjunction as code_conjunction
use Rattle.sql_bind.specs.declared.make.OpenConjunction.TheVariants as variant
use Rattle.sql_front.specs.View.{predicate_tree}
use Rattle.sql_front.specs.declared.tree.Joined.{Joined}
use Rattle.sql_front.specs.declared.tree.Joined.TheVariants as joined

-- the units of a conjunction so far
pub data OpenConjunction : Type 0 where
  alone : Condition → OpenConjunction
  several : Conditions → OpenConjunction

abbrev pub units_of : OpenConjunction → Conditions
units_of (alone c) = and_then none c
units_of (several cs) = cs

abbrev pub with_unit : OpenConjunction → Condition → OpenConjunction
with_unit before c = several (and_then (units_of before) c)

-- one unit alone stands for itself
abbrev pub conjunction : OpenConjunction → Condition
conjunction (alone c) = c
conjunction (several cs) = all_of cs

-- a conjunction behind those that OR has closed; without one it stands for itself
abbrev pub disjunction : Conditions → Condition → Condition
disjunction none c = c
disjunction (and_then cs d) c = any_of (and_then (and_then cs d) c)

pub record OpenCondition : Type 0 where
  pub closed : Conditions
  pub last : OpenConjunction

abbrev pub first_read : Condition → OpenCondition
first_read c = record { closed = none; last = alone c }

abbrev pub behind_and : OpenCondition → Condition → OpenCondition
behind_and before c = record { closed = before.closed; last = with_unit before.last c }

abbrev pub behind_or : OpenCondition → Condition → OpenCondition
behind_or before c = record { closed = and_then before.closed (conjunction before.last); last = alone c }

abbrev pub finished : OpenCondition → Condition
finished read = disjunction read.closed (conjunction read.last)

-- ---- the code's values

abbrev pub conjunction_view : code_conjunction.OpenConjunction → OpenConjunction
conjunction_view (variant.Alone c) = alone (condition_of c)
conjunction_view (variant.Several cs) = several (conditions_of cs)

abbrev pub condition_view : code_condition.OpenCondition → OpenCondition
condition_view read = record { closed = conditions_of read.closed; last = conjunction_view read.last }

-- ---- further units of the text

-- what is read once a further unit, bound, is read too
abbrev pub next_read : List Scoped → OpenCondition → Joined → OpenCondition
next_read scope before (joined.And u) = behind_and before (bound_unit scope (predicate_tree u))
next_read scope before (joined.Or u) = behind_or before (bound_unit scope (predicate_tree u))
