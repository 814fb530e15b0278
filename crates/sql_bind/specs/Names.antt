-- What the names of a query mean: the tables of FROM, which of them are in scope where, and which column a name is.
use Rattle.std.specs.Prelude.{ℕ, ◌+◌, Bool, true, false, if◌then◌else◌, List, [], ◌∷◌, ◌++◌, Option, Some, None, Result, Ok, Err}
use Rattle.qsr_value.specs.Names.{same_name}
use Rattle.qsr_value.specs.declared.kind.ColKind.TheVariants as kind
use Rattle.qsr_value.specs.declared.schema.Column as table_column
use Rattle.sql_bind.specs.declared.bound.BoundColumn.{BoundColumn}
use Rattle.sql_bind.specs.declared.names.NamedTable.{NamedTable}
use Rattle.sql_tokens.specs.Words.{letters_of}
use Rattle.sql_front.specs.Tree.{Column, NameAt, plain, dotted}
use Rattle.sql_front.specs.declared.tree.Join.{Join}
use Rattle.sql_front.specs.declared.tree.Join.TheVariants as join
use Rattle.sql_front.specs.declared.tree.More.{More}
use Rattle.sql_front.specs.declared.tree.More.TheVariants as more
use Rattle.sql_front.specs.declared.tree.Table.{Table}
use Rattle.sql_front.specs.declared.tree.Table.TheVariants as table
use Rattle.sql_front.specs.declared.tree.NameAt as code
use Rattle.sql_front.specs.declared.tree.Select.{Select}

-- a refusal, with the name that it is about and its place in the text
pub data BindRefusal : Type 0 where
  NoTable : List ℕ → ℕ → BindRefusal
  NoColumn : List ℕ → ℕ → BindRefusal
  Ambiguous : List ℕ → ℕ → BindRefusal
  TypeClash : ℕ → BindRefusal
  NeedsGroup : ℕ → BindRefusal
  NotSelected : ℕ → BindRefusal
  UnionClash : ℕ → BindRefusal

-- ---- the tables that there are

-- The first table of this name, the first of them being at this place: its place and its columns.
abbrev pub table_from : ℕ → List NamedTable → List ℕ → Option (ℕ × List table_column.Column)
table_from place [] name = None
table_from place (t ∷ ts) name = if same_name t.name name then Some (place, t.columns) else table_from (place + 1) ts name

abbrev pub table_named : List NamedTable → List ℕ → Option (ℕ × List table_column.Column)
table_named names name = table_from 0 names name

-- its place and its columns, where there is one
abbrev pub place_or_first : Option (ℕ × List table_column.Column) → ℕ
place_or_first None = 0
place_or_first (Some found) = found.0

abbrev pub columns_or_none : Option (ℕ × List table_column.Column) → List table_column.Column
columns_or_none None = []
columns_or_none (Some found) = found.1

-- ---- the tables of FROM

abbrev pub name_of_table : Table → code.NameAt
name_of_table (table.Bare n) = n
name_of_table (table.Renamed n m) = n
name_of_table (table.RenamedAs n m) = n

-- what a table is known by: its second name if it has one
abbrev pub known_by : Table → code.NameAt
known_by (table.Bare n) = n
known_by (table.Renamed n m) = m
known_by (table.RenamedAs n m) = m

abbrev pub letters : code.NameAt → List ℕ
letters n = letters_of n.name

abbrev pub known : Table → List ℕ
known t = letters (known_by t)

abbrev pub table_of : More → Table
table_of (more.Comma t) = t
table_of (more.Join j t c) = t

-- a table in scope: its place in FROM, what it is known by, and its columns
pub record Scoped : Type 0 where
  pub place : ℕ
  pub known : List ℕ
  pub columns : List table_column.Column

abbrev pub scoped : List NamedTable → ℕ → Table → Scoped
scoped names place t = record { place = place; known = known t; columns = columns_or_none (table_named names (letters (name_of_table t))) }

-- The table of a semi or anti join is in scope in its own ON alone.
abbrev pub stays : Join → Bool
stays join.Inner = true
stays (join.Semi left at) = false
stays (join.Anti left at) = false

-- what is in scope behind a table, where these were before it
abbrev pub scope_behind : More → List Scoped → Scoped → List Scoped
scope_behind (more.Comma t) scope s = scope ++ s ∷ []
scope_behind (more.Join j t c) scope s = if stays j then scope ++ s ∷ [] else scope

-- what is in scope behind these tables, the first of which is at this place
abbrev pub scope_from : List NamedTable → ℕ → List Scoped → List More → List Scoped
scope_from names place scope [] = scope
scope_from names place scope (m ∷ ms) = scope_from names (place + 1) (scope_behind m scope (scoped names place (table_of m))) ms

-- what is in scope in WHERE, the items, GROUP BY and ORDER BY
abbrev pub scope_of : List NamedTable → Select → List Scoped
scope_of names s = scope_from names 1 (scoped names 0 s.table ∷ []) s.more

-- ---- columns

-- the first column of this name, the first of them being at this place of the table at that place of FROM
abbrev pub column_from : ℕ → ℕ → List table_column.Column → List ℕ → Option BoundColumn
column_from table place [] name = None
column_from table place (c ∷ cs) name = if same_name c.name name then Some (record { table = table; place = place; kind = c.kind }) else column_from table (place + 1) cs name

abbrev pub column_in : Scoped → List ℕ → Option BoundColumn
column_in s name = column_from s.place 0 s.columns name

abbrev pub and_found : Option BoundColumn → List BoundColumn → List BoundColumn
and_found None others = others
and_found (Some c) others = c ∷ others

-- the column of this name of each table that has it
abbrev pub columns_named : List Scoped → List ℕ → List BoundColumn
columns_named [] name = []
columns_named (s ∷ scope) name = and_found (column_in s name) (columns_named scope name)

-- the one column that a name without a dot means
abbrev pub only_one : List BoundColumn → NameAt → Result BoundColumn BindRefusal
only_one [] n = Err (NoColumn n.letters n.at)
only_one (c ∷ []) n = Ok c
only_one (c ∷ d ∷ others) n = Err (Ambiguous n.letters n.at)

abbrev pub table_known : List Scoped → List ℕ → Option Scoped
table_known [] name = None
table_known (s ∷ scope) name = if same_name s.known name then Some s else table_known scope name

-- the column that a name behind a table's name and a dot means
abbrev pub or_no_column : Option BoundColumn → NameAt → NameAt → Result BoundColumn BindRefusal
or_no_column None t n = Err (NoColumn n.letters t.at)
or_no_column (Some c) t n = Ok c

abbrev pub column_behind : Option Scoped → NameAt → NameAt → Result BoundColumn BindRefusal
column_behind None t n = Err (NoTable t.letters t.at)
column_behind (Some s) t n = or_no_column (column_in s n.letters) t n

-- what a column of the text means
unfoldable pub meant : List Scoped → Column → Result BoundColumn BindRefusal
meant scope (plain n) = only_one (columns_named scope n.letters) n
meant scope (dotted t n) = column_behind (table_known scope t.letters) t n

abbrev pub bind_refusal_of : Result BoundColumn BindRefusal → Option BindRefusal
bind_refusal_of (Ok c) = None
bind_refusal_of (Err r) = Some r

-- the column; where the name is refused nobody sees it
abbrev pub column_or : Result BoundColumn BindRefusal → BoundColumn
column_or (Ok c) = c
column_or (Err r) = record { table = 0; place = 0; kind = kind.Int }

abbrev pub bound_column : List Scoped → Column → BoundColumn
bound_column scope c = column_or (meant scope c)

-- the place of a column in the text
abbrev pub place_in_text : Column → ℕ
place_in_text (plain n) = n.at
place_in_text (dotted t n) = t.at
