-- What `explain` reads and says.
use Rattle.std.specs.Prelude.{◌≡◌, ◌⊎◌, ℕ, List, [], ◌++◌, codes, map, Option, Some, None, Result, Ok, Err, IfErr, MatchResult, ⊤}
use Rattle.std.specs.Fmt.{decimal}
use Rattle.std.specs.Io.KnownBytes.{IsAtEnd}
use Rattle.disk_model.specs.Image.{Image}
use Rattle.disk_model.specs.View.{View}
use Rattle.page_store.specs.declared.pages.Sizes.{Sizes}
use Rattle.sql_bind.specs.Checks.{query_checks}
use Rattle.sql_bind.specs.Names as binder
use Rattle.sql_bind.specs.declared.names.NamedTable.{NamedTable}
use Rattle.sql_front.specs.Seen.{letters_of, words}
use Rattle.sql_front.specs.Spell.{spell}
use Rattle.sql_front.specs.Tree as tree
use Rattle.sql_front.specs.View.{query_tree}
use Rattle.sql_front.specs.declared.tree.Query.{Query}
use Rattle.sql_tokens.specs.Tokens.{tokens_of}
use Rattle.grammar_laws.specs.Checks.{Check, first_refusal}
use Rattle.grammar_laws.specs.Reading as reading
use Rattle.grammar_laws.specs.Reading.{IsText, Refuses, whats}
use Rattle.table_file.specs.Tables.{AreTables, Table, Tables}
use Rattle.table_file.specs.declared.entries.TableEntry.{TableEntry}
use Rattle.row_script.specs.declared.end.End.{End}
use Rattle.row_script.specs.declared.end.End.TheVariants as ends
use Rattle.qsr_top.specs.declared.query_answer.QueryAnswer.{QueryAnswer}
use Rattle.qsr_top.specs.declared.query_answer.QueryAnswer.TheVariants.{Syntax, WideLiteral, NoTable, NoColumn, Ambiguous, TypeClash, NeedsGroup, NotSelected, UnionClash, NotPlanned}
use Rattle.qsr_top.specs.declared.told.Told.{Told}
use Rattle.qsr_top.specs.declared.told.Told.TheVariants as told
use Rattle.qsr_top.specs.Create.{IsToldOfDisk}
use Rattle.row_script.specs.Ends.{end_text}
use Rattle.input_lines.specs.OneLine.{IsOnlyLine}
use Rattle.qsr_top.specs.Stored.{IsNotStored, StandsFor}
use Rattle.qsr_top.specs.Told.{IsTold, IsToldOr, ToldCause}

-- ---- the input

-- Of what is told in the place of the line: a bad line is told only where the input has it, by its number; or a call has failed.
abbrev pub IsNoLine : (Result (List ℕ) ℕ → Type 0) → Told → Type 0
IsNoLine reads (told.BadLine number) = reads (Err number)
IsNoLine reads told.DiskFault = ⊤
IsNoLine reads told.SourceFault = ⊤
IsNoLine reads told.NoMemory = ⊤
IsNoLine reads told.Created = ⊥
IsNoLine reads (told.Loaded rows) = ⊥
IsNoLine reads told.Exists = ⊥
IsNoLine reads (told.RowTooWide bytes) = ⊥
IsNoLine reads told.CatalogueFull = ⊥
IsNoLine reads told.NoTable = ⊥
IsNoLine reads (told.BadField line column) = ⊥
IsNoLine reads told.TableFull = ⊥
IsNoLine reads (told.NotStore page) = ⊥

-- ---- the answer to a query

-- The text is refused as no query, and in this way alone.
pub record IsMisread (text : List ℕ) (refusal : reading.Refusal) : Type 0 where
  pub refused : Refuses (words text) spell (tokens_of text) refusal
  pub no_query : (query : tree.Query) → IsText spell (whats (words text) (tokens_of text)) query → ⊥
  pub only : (other : reading.Refusal) → Refuses (words text) spell (tokens_of text) other → other ≡ refusal

-- The text is that of this query alone, whose first refusal over these tables is this one, or there is none.
pub record IsQuery (tables : List NamedTable) (text : List ℕ) (refusal : Check binder.BindRefusal) : Type 0 where
  pub query : Query
  pub text_of : IsText spell (whats (words text) (tokens_of text)) (query_tree query)
  pub only : (other : tree.Query) → IsText spell (whats (words text) (tokens_of text)) other → query_tree query ≡ other
  pub read : (other : reading.Refusal) → Refuses (words text) spell (tokens_of text) other → ⊥
  pub first : first_refusal (query_checks tables query) ≡ refusal

-- What an answer says: that the text is refused as no query, that the query is refused over the tables, or that it isn't.
abbrev pub IsQueryAnswer : (reading.Refusal → Type 0) → (binder.BindRefusal → Type 0) → Type 0 → QueryAnswer → Type 0
IsQueryAnswer misread refused bound (Syntax at) = misread (reading.Syntax at)
IsQueryAnswer misread refused bound (WideLiteral at) = misread (reading.WideLiteral at)
IsQueryAnswer misread refused bound (NoTable name at) = refused (binder.NoTable (letters_of name) at)
IsQueryAnswer misread refused bound (NoColumn name at) = refused (binder.NoColumn (letters_of name) at)
IsQueryAnswer misread refused bound (Ambiguous name at) = refused (binder.Ambiguous (letters_of name) at)
IsQueryAnswer misread refused bound (TypeClash at) = refused (binder.TypeClash at)
IsQueryAnswer misread refused bound (NeedsGroup at) = refused (binder.NeedsGroup at)
IsQueryAnswer misread refused bound (NotSelected at) = refused (binder.NotSelected at)
IsQueryAnswer misread refused bound (UnionClash at) = refused (binder.UnionClash at)
IsQueryAnswer misread refused bound NotPlanned = bound

-- what is answered to a text over these tables · to a query
abbrev pub AnswersText : List NamedTable → List ℕ → QueryAnswer → Type 0
AnswersText tables text = IsQueryAnswer (IsMisread text) (λ refusal. IsQuery tables text (Some refusal)) (IsQuery tables text None)

abbrev pub AnswersQuery : List NamedTable → Query → QueryAnswer → Type 0
AnswersQuery tables query =
    IsQueryAnswer (λ refusal. ⊥) (λ refusal. first_refusal (query_checks tables query) ≡ Some refusal) (first_refusal (query_checks tables query) ≡ None)

-- what is refused, the letters of a name behind it, and its place
abbrev pub placed : List ℕ → List ℕ → ℕ → List ℕ
placed refused letters at = refused ++ (letters ++ (codes " at " ++ (decimal at ++ codes "\n")))

-- the line of an answer
abbrev pub answer_text : QueryAnswer → List ℕ
answer_text (Syntax at) = placed (codes "syntax") [] at
answer_text (WideLiteral at) = placed (codes "wide literal") [] at
answer_text (NoTable name at) = placed (codes "no table ") (letters_of name) at
answer_text (NoColumn name at) = placed (codes "no column ") (letters_of name) at
answer_text (Ambiguous name at) = placed (codes "ambiguous ") (letters_of name) at
answer_text (TypeClash at) = placed (codes "type clash") [] at
answer_text (NeedsGroup at) = placed (codes "needs group") [] at
answer_text (NotSelected at) = placed (codes "not selected") [] at
answer_text (UnionClash at) = placed (codes "union clash") [] at
answer_text NotPlanned = codes "not planned\n"

-- ---- the command

-- a table of the store, as queries name it
abbrev pub query_table_of : Table → NamedTable
query_table_of table = record { name = table.name; columns = table.columns }

abbrev pub tables_of : Tables → List NamedTable
tables_of s = map query_table_of s.tables

-- the same of what a catalogue says of a table
abbrev pub table_of_entry : TableEntry → NamedTable
table_of_entry entry = record { name = entry.name; columns = entry.schema }

-- The tables are those of the store, or the disk failed or memory was wanting.
abbrev pub GivesTables : Tables → Result (List NamedTable) Told → Type 0
GivesTables s result = MatchResult result (λ tables. tables ≡ tables_of s) (λ fault. (fault ≡ told.DiskFault) ⊎ (fault ≡ told.NoMemory))

-- What is told where the tables of a disk aren't read: that no store with a catalogue stands there, or the disk failed or memory
-- was wanting.
abbrev pub IsStoreFault : Told → Type 0
IsStoreFault (told.NotStore page) = ⊤
IsStoreFault told.DiskFault = ⊤
IsStoreFault told.NoMemory = ⊤
IsStoreFault told.Created = ⊥
IsStoreFault (told.Loaded rows) = ⊥
IsStoreFault told.Exists = ⊥
IsStoreFault (told.RowTooWide bytes) = ⊥
IsStoreFault told.CatalogueFull = ⊥
IsStoreFault told.NoTable = ⊥
IsStoreFault (told.BadField line column) = ⊥
IsStoreFault told.TableFull = ⊥
IsStoreFault (told.BadLine number) = ⊥
IsStoreFault told.SourceFault = ⊥

-- What is told of a disk on which no store with a catalogue stands, whatever the input is.
abbrev pub IsUnstored : {X : Type 0} → Result X Told → Type 0
IsUnstored (Ok x) = ⊥
IsUnstored (Err fault) = IsStoreFault fault

-- The input was read to its end, and its one line is answered so over these tables.
pub record HasAnswered (tables : List NamedTable) (left left' : Option (List ℕ)) (answer : QueryAnswer) : Type 0 where
  pub text : List ℕ
  pub input : IsOnlyLine left (Ok text)
  pub end : IsAtEnd left'
  pub answers : AnswersText tables text answer

-- What `explain` comes to over these tables, whatever the disk is: the answer to its one line; or what is told where no tables
-- or no line are read.
abbrev pub Explains : List NamedTable → Option (List ℕ) → Option (List ℕ) → Result QueryAnswer Told → Type 0
Explains tables left left' (Ok answer) = HasAnswered tables left left' answer
Explains tables left left' (Err fault) = IsStoreFault fault ⊎ IsNoLine (IsOnlyLine left) fault

-- The tables of an answer are those of the store, and it isn't told that there is no store.
abbrev pub AreStored : Tables → List NamedTable → Result QueryAnswer Told → Type 0
AreStored s tables (Ok answer) = tables ≡ tables_of s
AreStored s tables (Err fault) = (page : ℕ) → fault ≡ told.NotStore page → ⊥

-- an answer is told, or there was no memory for its line; or what is told in its place
abbrev pub IsExplained : Result QueryAnswer Told → End → Option (List ℕ) → Option (List ℕ) → ℕ → ℕ → Type 0
IsExplained (Ok answer) end given given' faults faults' =
    IsTold (answer_text answer) ends.Refused end given given' faults faults'
    ⊎ IsTold (end_text ends.NoMemory) ends.NoMemory end given given' faults faults'
IsExplained (Err told) end given given' faults faults' = IsToldOr [] told end given given' faults faults'

-- the counts of faults of the disk and the source
abbrev pub ExplainCause : Result QueryAnswer Told → ℕ → ℕ → ℕ → ℕ → Type 0
ExplainCause result disk disk' source source' =
    MatchResult result (λ answer. (disk' ≡ disk) × (source' ≡ source)) (λ told. ToldCause told disk disk' source source')

-- What `explain` comes to. Over any disk it is the answer to the one line of the input over some tables, or what is told in the
-- place of one, and its cause. Over an honest disk that stands for tables, those of an answer are these, and it isn't told that
-- there is no store; over an honest disk on which no store with a catalogue stands, nothing is answered.
pub record ComesToExplain (size : ℕ) (left left' : Option (List ℕ)) (disk : View Image) (faults faults' source source' : ℕ) (result : Result QueryAnswer Told) : Type 0 where
  -- those of the answer; where there is none, any
  pub tables : List NamedTable
  pub explains : Explains tables left left' result
  pub cause : ExplainCause result faults faults' source source'
  pub of_disk : IfErr result (IsToldOfDisk size disk)
  pub stored : (sizes : Sizes) (s : Tables) → AreTables sizes s → StandsFor size sizes s disk → disk.honest → AreStored s tables result
  pub unstored : (page : ℕ) → disk.honest → IsNotStored size page disk.seen → IsUnstored result

-- A run of `explain` over a disk of so many bytes, by the source, the disk, what the sink had been given and has, and the counts
-- of faults.
pub record ExplainRan (size : ℕ) (left left' : Option (List ℕ)) (disk : View Image) (given given' : Option (List ℕ)) (faults faults' source source' sink sink' : ℕ) (end : End) : Type 0 where
  pub result : Result QueryAnswer Told
  pub comes : ComesToExplain size left left' disk faults faults' source source' result
  pub tells : IsExplained result end given given' sink sink'
