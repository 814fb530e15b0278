-- Words that the laws use, and the meaning doesn't.
use Rattle.std.specs.Prelude.{ℕ, List, [], ◌∷◌, ◌++◌}
use Rattle.sql_bind.specs.Bound.{Bound, BoundSelect, BoundTable, Condition, Conditions, none, and_then, opposite}
use Rattle.sql_bind.specs.declared.bound.JoinedBy.TheVariants as by

-- ---- conditions

-- those of a list, behind others
abbrev pub conjuncts : Conditions → List Condition → Conditions
conjuncts before [] = before
conjuncts before (c ∷ cs) = conjuncts (and_then before c) cs

-- the second ones behind the first
abbrev pub both : Conditions → Conditions → Conditions
both before none = before
both before (and_then cs c) = and_then (both before cs) c

-- NOT before each of some conditions
abbrev pub opposites_of_each : Conditions → Conditions
opposites_of_each none = none
opposites_of_each (and_then cs c) = and_then (opposites_of_each cs) (opposite c)

-- ---- queries

-- tables of FROM without conditions
abbrev pub plain_tables : List ℕ → List BoundTable
plain_tables [] = []
plain_tables (n ∷ ns) = record { table = n; joined = by.Product; conditions = none } ∷ plain_tables ns

-- a select with these conditions in WHERE, in place of its own
abbrev pub with_where : BoundSelect → Conditions → BoundSelect
with_where s wheres = record s { conditions = wheres }

-- a select with one table more at the end of FROM, joined ON these conditions
abbrev pub with_join : BoundSelect → ℕ → Conditions → BoundSelect
with_join s number on = record s { tables = s.tables ++ record { table = number; joined = by.Product; conditions = on } ∷ [] }

-- a query with one select more behind UNION ALL
abbrev pub union_all : Bound → BoundSelect → Bound
union_all q s = record q { others = q.others ++ s ∷ [] }
