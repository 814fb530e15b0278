-- The words of the command line: FILE, the command, and what the command takes.
use Rattle.std.specs.Prelude.{◌≡◌, ◌≤◌, ⊤, ℕ, Bool, false, not, ◌&&◌, ◌||◌, ◌==◌, nat_le, List, [], ◌∷◌, length, drop, Option, Some, None, Result, IfOk, codes, nat_eq, if◌then◌else◌}
use Rattle.std.specs.Char.{is_ascii_digit, is_ascii_lowercase}
use Rattle.std.specs.Cmp.Lexicographic.{pointwise}
use Rattle.std.specs.List.{AllByRecursion, list_all, starts_with}
use Rattle.std.specs.Option.{option_and_then, option_map}
use Rattle.page_store.specs.PageOrder.{AreSizes}
use Rattle.page_store.specs.declared.pages.Sizes.{Sizes}
use Rattle.qsr_value.specs.declared.kind.ColKind.{ColKind}
use Rattle.qsr_value.specs.declared.kind.ColKind.TheVariants.{Int, Text}
use Rattle.qsr_value.specs.declared.schema.Column.{Column}
use Rattle.qsr_top.specs.declared.command.Command.{Command}
use Rattle.qsr_top.specs.declared.command.Command.TheVariants.{Script, Format, Create, Load, Explain}
use Rattle.qsr_value.specs.declared.limits.TheConstants.{MAX_AREA_PAGES, MAX_COLUMNS, MAX_TEXT}
use Rattle.qsr_value.specs.Number.{count_of}
use Rattle.qsr_value.specs.declared.failure.Memory.{Memory}
use Rattle.table_file.specs.CatalogueBytes.{IsColumn, IsName}

-- A command, with what it takes: sizes, the name of a table, its columns.
pub data NamedCommand : Type 0 where
  script : NamedCommand
  format : Sizes → NamedCommand
  create : List ℕ → List Column → NamedCommand
  load : List ℕ → NamedCommand
  explain : NamedCommand

-- how many pages an area is to have: a number of 1 to 65,536
abbrev pub pages_of : List ℕ → Option ℕ
pages_of word = option_and_then (λ n. if nat_le 1 n && nat_le n MAX_AREA_PAGES then Some n else None) (count_of word)

-- the five numbers of `format`
abbrev pub sizes_of : List ℕ → List ℕ → List ℕ → List ℕ → List ℕ → Option Sizes
sizes_of table index out image spill =
    option_and_then (λ t. option_and_then (λ x. option_and_then (λ o. option_and_then (λ i. option_and_then (λ s.
    Some (record { table = t; index = x; out = o; image = i; spill = s }))
    (pages_of spill)) (pages_of image)) (pages_of out)) (pages_of index)) (pages_of table)

-- `script`
abbrev pub script_of : List (List ℕ) → Option NamedCommand
script_of [] = Some script
script_of (word ∷ words) = None

-- `format T X O I S`
abbrev pub format_of : List (List ℕ) → Option NamedCommand
format_of [] = None
format_of (table ∷ []) = None
format_of (table ∷ index ∷ []) = None
format_of (table ∷ index ∷ out ∷ []) = None
format_of (table ∷ index ∷ out ∷ image ∷ []) = None
format_of (table ∷ index ∷ out ∷ image ∷ spill ∷ []) = option_map format (sizes_of table index out image spill)
format_of (table ∷ index ∷ out ∷ image ∷ spill ∷ further ∷ words) = None

-- a name: 1 to 16 small letters, digits and `_`, of which the first is no digit
abbrev pub is_name_byte : ℕ → Bool
is_name_byte byte = is_ascii_lowercase byte || is_ascii_digit byte || byte == 95

abbrev pub is_name : List ℕ → Bool
is_name [] = false
is_name (first ∷ rest) = not (is_ascii_digit first) && nat_le (length rest) 15 && list_all is_name_byte (first ∷ rest)

-- what the values of a column are to be: `int`, or `text:N` with 1 to 998 bytes
abbrev pub text_kind : ℕ → Option ColKind
text_kind max = if nat_le 1 max && nat_le max MAX_TEXT then Some (Text max) else None

abbrev pub kind_of : List ℕ → Option ColKind
kind_of word =
    if pointwise nat_eq word (codes "int") then Some Int
    else (if starts_with nat_eq word (codes "text:") then option_and_then text_kind (count_of (drop 5 word)) else None)

-- what the values of a column of this name are to be
abbrev pub column_kind : List ℕ → List ℕ → Option ColKind
column_kind name kind = if is_name name then kind_of kind else None

-- a column before others
abbrev pub column_before : List ℕ → Option ColKind → Option (List Column) → Option (List Column)
column_before name None columns = None
column_before name (Some kind) columns = option_map (λ columns. record { name = name; kind = kind } ∷ columns) columns

-- columns, each a name and what its values are to be
unfoldable pub columns_of : List (List ℕ) → Option (List Column)
columns_of [] = Some []
columns_of (name ∷ []) = None
columns_of (name ∷ kind ∷ words) = column_before name (column_kind name kind) (columns_of words)

-- 1 to 16 of them
abbrev pub some_columns : List Column → Option (List Column)
some_columns columns = if nat_le 1 (length columns) && nat_le (length columns) MAX_COLUMNS then Some columns else None

-- `create NAME C K ..`
abbrev pub create_of : List (List ℕ) → Option NamedCommand
create_of [] = None
create_of (name ∷ words) = if is_name name then option_map (create name) (option_and_then some_columns (columns_of words)) else None

-- `load NAME`
abbrev pub load_of : List (List ℕ) → Option NamedCommand
load_of [] = None
load_of (name ∷ []) = if is_name name then Some (load name) else None
load_of (name ∷ word ∷ words) = None

-- `explain`
abbrev pub explain_of : List (List ℕ) → Option NamedCommand
explain_of [] = Some explain
explain_of (word ∷ words) = None

-- a command and what it takes
abbrev pub command_with : List ℕ → List (List ℕ) → Option NamedCommand
command_with command arguments =
    if pointwise nat_eq command (codes "script") then script_of arguments
    else (if pointwise nat_eq command (codes "format") then format_of arguments
    else (if pointwise nat_eq command (codes "create") then create_of arguments
    else (if pointwise nat_eq command (codes "load") then load_of arguments
    else (if pointwise nat_eq command (codes "explain") then explain_of arguments else None))))

-- the command that the words name; none where they are not of the table of commands
abbrev pub command_of : List (List ℕ) → Option NamedCommand
command_of [] = None
command_of (file ∷ []) = None
command_of (file ∷ command ∷ arguments) = command_with command arguments

-- ---- what is read of them

-- these columns, or that there was no memory for them
abbrev pub AreRead : List Column → Result (List Column) Memory → Type 0
AreRead columns read = IfOk read (λ them. them ≡ columns)

-- the columns that words are, or that they are none
abbrev pub ReadsColumns : Option (List Column) → Option (Result (List Column) Memory) → Type 0
ReadsColumns None None = ⊤
ReadsColumns None (Some read) = ⊥
ReadsColumns (Some columns) None = ⊥
ReadsColumns (Some columns) (Some read) = AreRead columns read

-- the command that words name, whose columns are read, or that they name none
abbrev pub ReadsCommand : Option NamedCommand → Option Command → Type 0
ReadsCommand named None = named ≡ None
ReadsCommand named (Some Script) = named ≡ Some script
ReadsCommand named (Some (Format sizes)) = named ≡ Some (format sizes)
ReadsCommand named (Some (Create name read)) = (columns : List Column) × (named ≡ Some (create name.now columns)) × AreRead columns read
ReadsCommand named (Some (Load name)) = named ≡ Some (load name.now)
ReadsCommand named (Some Explain) = named ≡ Some explain

-- 1 to 16 columns that a table may have
abbrev pub AreColumns : List Column → Type 0
AreColumns columns = (1 ≤ length columns) × (length columns ≤ 16) × AllByRecursion IsColumn columns

-- what a command asks of its numbers, its name and its columns
abbrev pub IsCommand : Command → Type 0
IsCommand Script = ⊤
IsCommand (Format sizes) = AreSizes sizes
IsCommand (Create name read) = IsName name.now × IfOk read AreColumns
IsCommand (Load name) = ⊤
IsCommand Explain = ⊤
