-- What is answered to a query, and over which tables.
use Rattle.std.proofs.Common.{◌≡◌, ◌⊎◌, ℕ, zero, suc, List, [], ◌∷◌, map, Option, None, Some, Result, Ok, Err, inl, inr, ⊎_elim, refl, sym, ap, subst, ◌∙◌}
use Rattle.std.specs.Prelude.{IfOk, IfSome, IfErr, slice_get}
use Rattle.disk_model.specs.Image.{Image}
use Rattle.disk_model.specs.View.{EachImage, Stays, View}
use Rattle.page_store.specs.Opening.{IsStore}
use Rattle.page_store.specs.Store.{contents_of, contents_view}
use Rattle.page_store.specs.declared.pages.Sizes.{Sizes}
use Rattle.sql_bind.specs.Names as binder
use Rattle.sql_bind.specs.declared.names.NamedTable.{NamedTable}
use Rattle.sql_front.specs.Seen.{words}
use Rattle.sql_front.specs.Spell.{spell}
use Rattle.sql_front.specs.Tree as tree
use Rattle.sql_front.specs.View.{query_tree}
use Rattle.sql_front.specs.declared.tree.Query.{Query}
use Rattle.sql_tokens.specs.Tokens.{tokens_of}
use Rattle.grammar_laws.specs.Reading as reading
use Rattle.grammar_laws.specs.Reading.{IsText, Refuses, whats}
use Rattle.table_file.specs.Tables.{AreTables, HasTables, Table, Tables, catalogue_of, entry_of}
use Rattle.qsr_value.specs.declared.schema.Column.{Column}
use Rattle.table_file.specs.declared.catalogue.Catalogue.{Catalogue}
use Rattle.table_file.specs.declared.entries.TableEntry.{TableEntry}
use Rattle.qsr_top.specs.declared.query_answer.QueryAnswer.{QueryAnswer}
use Rattle.qsr_top.specs.declared.query_answer.QueryAnswer.TheVariants.{Syntax, WideLiteral, NoTable, NoColumn, Ambiguous, TypeClash, NeedsGroup, NotSelected, UnionClash, NotPlanned}
use Rattle.qsr_top.specs.declared.told.Told.{Told}
use Rattle.qsr_top.specs.declared.told.Told.TheVariants as told
use Rattle.qsr_top.specs.Create.{IsToldOfCatalogue, IsToldOfDisk}
use Rattle.qsr_top.specs.Told.{ToldCause, told_of_line}
use Rattle.qsr_top.specs.Explain.{AnswersQuery, AnswersText, ComesToExplain, IsQueryAnswer, IsMisread, IsNoLine, IsQuery, IsStoreFault, query_table_of, table_of_entry, tables_of}
use Rattle.input_lines.specs.OneLine.{IsLineFault, IsOnlyLine, LineCause}
use Rattle.input_lines.specs.declared.line_fault.LineFault.{LineFault}
use Rattle.input_lines.specs.declared.line_fault.LineFault.TheVariants as lines
use Rattle.qsr_top.specs.Stored.{IsNotStored, StandsFor}
use Rattle.table_file.specs.Refusals.{HasNoCatalogue}
use Rattle.qsr_top.proofs.CreateLemmas.{told_of_disk}

pub IsAnswer-weaker : {misread misread' : reading.Refusal → Type 0} {refused refused' : binder.BindRefusal → Type 0} {bound bound' : Type 0} (answer : QueryAnswer)
    → ((refusal : reading.Refusal) → misread refusal → misread' refusal) → ((refusal : binder.BindRefusal) → refused refusal → refused' refusal) → (bound → bound')
    → IsQueryAnswer misread refused bound answer → IsQueryAnswer misread' refused' bound' answer
IsAnswer-weaker (Syntax at) first second third is = first _ is
IsAnswer-weaker (WideLiteral at) first second third is = first _ is
IsAnswer-weaker (NoTable name at) first second third is = second _ is
IsAnswer-weaker (NoColumn name at) first second third is = second _ is
IsAnswer-weaker (Ambiguous name at) first second third is = second _ is
IsAnswer-weaker (TypeClash at) first second third is = second _ is
IsAnswer-weaker (NeedsGroup at) first second third is = second _ is
IsAnswer-weaker (NotSelected at) first second third is = second _ is
IsAnswer-weaker (UnionClash at) first second third is = second _ is
IsAnswer-weaker NotPlanned first second third is = third is

pub if_ok : {T E : Type 0} {P Q : T → Type 0} (result : Result T E) → ((x : T) → P x → Q x) → IfOk result P → IfOk result Q
if_ok (Ok x) weaker is = weaker x is
if_ok (Err e) weaker is = tt

-- ---- a text that is no query

some_of : {X : Type 0} (o : Option X) (x y : X) → o ≡ Some x → o ≡ Some y → y ≡ x
some_of None x y first second = cc
some_of (Some z) x y first second = cc

not_none : {X : Type 0} (o : Option X) (x : X) → o ≡ Some x → o ≡ None → ⊥
not_none None x some none = cc
not_none (Some z) x some none = cc

misread_as : (text : List ℕ) (told : Option reading.Refusal) (refusal : reading.Refusal) → told ≡ Some refusal
    → IfSome told (Refuses (words text) spell (tokens_of text))
    → ((query : tree.Query) → IsText spell (whats (words text) (tokens_of text)) query → told ≡ None)
    → ((other : reading.Refusal) → Refuses (words text) spell (tokens_of text) other → (told ≡ None) ⊎ (told ≡ Some other))
    → IsMisread text refusal
misread_as text told refusal is refused only only_refused = record {
  refused = subst (λ (told : Option reading.Refusal). IfSome told (Refuses (words text) spell (tokens_of text))) is refused;
  no_query = λ query reads. not_none told refusal is (only query reads);
  only = λ other refuses. ⊎_elim (λ none. absurd (not_none told refusal is none)) (λ some. some_of told refusal other is some) (only_refused other refuses);
}

pub answer_misread : (tables : List NamedTable) (text : List ℕ) (told : Option reading.Refusal) (answer : QueryAnswer)
    → IfSome told (Refuses (words text) spell (tokens_of text))
    → ((query : tree.Query) → IsText spell (whats (words text) (tokens_of text)) query → told ≡ None)
    → ((other : reading.Refusal) → Refuses (words text) spell (tokens_of text) other → (told ≡ None) ⊎ (told ≡ Some other))
    → IsQueryAnswer (λ refusal. told ≡ Some refusal) (λ refusal. ⊥) ⊥ answer → AnswersText tables text answer
answer_misread tables text told answer refused only only_refused is =
    IsAnswer-weaker {misread' = IsMisread text} {refused' = λ refusal. IsQuery tables text (Some refusal)} {bound' = IsQuery tables text None} answer
    (λ refusal same. misread_as text told refusal same refused only only_refused) (λ refusal never. absurd never) (λ never. absurd never) is

-- ---- a query

pub answer_query : (tables : List NamedTable) (text : List ℕ) (query : Query) (answer : QueryAnswer)
    → IsText spell (whats (words text) (tokens_of text)) (query_tree query)
    → ((other : tree.Query) → IsText spell (whats (words text) (tokens_of text)) other → query_tree query ≡ other)
    → ((other : reading.Refusal) → Refuses (words text) spell (tokens_of text) other → ⊥)
    → AnswersQuery tables query answer → AnswersText tables text answer
answer_query tables text query answer found only read is =
    IsAnswer-weaker {misread' = IsMisread text} {refused' = λ refusal. IsQuery tables text (Some refusal)} {bound' = IsQuery tables text None} answer
    (λ refusal never. absurd never)
    (λ refusal first. record { query = query; text_of = found; only = only; read = read; first = first })
    (λ first. record { query = query; text_of = found; only = only; read = read; first = first }) is

-- ---- the tables of a store

entries_named : (tables : List Table) → map table_of_entry (map entry_of tables) ≡ map query_table_of tables
unfolding entry_of
entries_named [] = refl
entries_named (table ∷ tables) = ap (λ others. query_table_of table ∷ others) (entries_named tables)

pub tables_named : (catalogue : Catalogue) (s : Tables) (tables : List NamedTable) → catalogue ≡ catalogue_of s → tables ≡ map table_of_entry catalogue.tables → tables ≡ tables_of s
unfolding catalogue_of
tables_named catalogue s tables is named = named ∙ ap (λ (catalogue : Catalogue). map table_of_entry catalogue.tables) is ∙ entries_named s.tables

-- the one of this number, by what the catalogue says of it
pub named_at : (entries : List TableEntry) (table : ℕ) (name : List ℕ) (columns : List Column) → slice_get (map (λ entry. entry.name) entries) table ≡ Some name
    → slice_get (map (λ entry. entry.schema) entries) table ≡ Some columns → slice_get (map table_of_entry entries) table ≡ Some (record { name = name; columns = columns })
named_at [] table name columns first second = cc
named_at (entry ∷ entries) zero name columns first second = cc
named_at (entry ∷ entries) (suc table) name columns first second = named_at entries table name columns first second

-- ---- what is told in the place of an answer

pub no_line_of_disk : (reads : Result (List ℕ) ℕ → Type 0) (size : ℕ) (disk : View Image) (fault : Told) → IsNoLine reads fault → IsToldOfDisk size disk fault
no_line_of_disk reads size disk (told.BadLine number) none = tt
no_line_of_disk reads size disk told.DiskFault none = tt
no_line_of_disk reads size disk told.SourceFault none = tt
no_line_of_disk reads size disk told.NoMemory none = tt
no_line_of_disk reads size disk told.Created none = tt
no_line_of_disk reads size disk (told.Loaded rows) none = tt
no_line_of_disk reads size disk told.Exists none = tt
no_line_of_disk reads size disk (told.RowTooWide bytes) none = tt
no_line_of_disk reads size disk told.CatalogueFull none = tt
no_line_of_disk reads size disk told.NoTable none = tt
no_line_of_disk reads size disk (told.BadField line column) none = tt
no_line_of_disk reads size disk told.TableFull none = tt
no_line_of_disk reads size disk (told.NotStore page) none = absurd none

-- ---- the store that is opened

-- the tables that stand on a disk
pub tables_seen : (size : ℕ) (sizes : Sizes) (s : Tables) (v : View Image) → StandsFor size sizes s v → (contents_view sizes v).honest → HasTables s ((contents_view sizes v).seen)
tables_seen size sizes s v stands honest = (stands (contents_view sizes v).seen ((contents_view sizes v).seen_may_stay honest)).tables

pub none_of_disk : {X : Type 0} (size : ℕ) (sizes : Sizes) (v w : View Image) (result : Result X Told) → Stays v w → EachImage (contents_view sizes w) (IsStore size sizes)
    → IfErr result (IsToldOfCatalogue sizes ((contents_view sizes w).honest) ((contents_view sizes w).seen)) → IfErr result (IsToldOfDisk size v)
none_of_disk size sizes v w (Ok x) stays stores none = tt
none_of_disk size sizes v w (Err fault) stays stores none = told_of_disk size sizes v w stays stores fault none

-- ---- where no store with a catalogue stands

heads_same : (a b : Sizes) (c : Image) → (contents_of a c).head ≡ Some a → (contents_of b c).head ≡ Some b → a ≡ b
unfolding contents_of
heads_same a b c first second = some_of _ b a second first

-- a store that is opened stood there, so it is its catalogue that is none
pub opened_none : (size page : ℕ) (own : Sizes) (v w : View Image) → Stays v w → EachImage (contents_view own w) (IsStore size own) → v.honest → IsNotStored size page v.seen
    → HasNoCatalogue own ((contents_view own w).seen)
unfolding contents_view
opened_none size page own v w stays stores honest not_stored =
    let store : IsStore size own (contents_of own v.seen) =
    subst (λ (c : Image). IsStore size own (contents_of own c)) stays.seen (stores (contents_of own w.seen) (w.seen, w.seen_may_stay (stays.time.honest.1 honest), refl)) in
    ⊎_elim (λ none. absurd (none.1 own store))
    (λ bad. let same : bad.sizes ≡ own = heads_same bad.sizes own v.seen bad.store.head store.head in
    subst (λ (c : Image). HasNoCatalogue own (contents_of own c)) (sym stays.seen) (subst (λ (sizes : Sizes). HasNoCatalogue sizes (contents_of sizes v.seen)) same bad.none)) not_stored

-- ---- the whole command, where no answer is given

-- the tables aren't read
pub told_without_tables : (size : ℕ) (left : Option (List ℕ)) (disk : View Image) (faults faults' source : ℕ) (fault : Told) → IsStoreFault fault
    → ((source : ℕ) → ToldCause fault faults faults' source source) → IsToldOfDisk size disk fault
    → ((sizes : Sizes) (s : Tables) → AreTables sizes s → StandsFor size sizes s disk → disk.honest → (fault ≡ told.DiskFault) ⊎ (fault ≡ told.NoMemory))
    → ComesToExplain size left left disk faults faults' source source (Err fault)
told_without_tables size left disk faults faults' source fault is cause of_disk tables = record {
  tables = [];
  explains = inl is;
  cause = cause source;
  of_disk = of_disk;
  stored = λ sizes s are stands honest page none. ⊎_elim (λ failed. cc) (λ memory. cc) (tables sizes s are stands honest);
  unstored = λ page honest none. is;
}

-- the tables are read, but no line is
pub told_without_line : (size : ℕ) (left left' : Option (List ℕ)) (disk : View Image) (faults faults' source source' : ℕ) (fault : Told) → faults' ≡ faults
    → ((disk : ℕ) → ToldCause fault disk disk source source') → IsNoLine (IsOnlyLine left) fault → ((page : ℕ) → disk.honest → IsNotStored size page disk.seen → ⊥)
    → ComesToExplain size left left' disk faults faults' source source' (Err fault)
told_without_line size left left' disk faults faults' source source' fault same cause none read = record {
  tables = [];
  explains = inr none;
  cause = subst (λ (faults' : ℕ). ToldCause fault faults faults' source source') (sym same) (cause faults);
  of_disk = no_line_of_disk (IsOnlyLine left) size disk fault none;
  stored = λ sizes s are stands honest page is. subst (IsNoLine (IsOnlyLine left)) is none;
  unstored = λ page honest not_stored. absurd (read page honest not_stored);
}

-- what is told of an input that isn't read as one line · its cause
pub line_told : (reads : Result (List ℕ) ℕ → Type 0) (fault : LineFault) → IsLineFault reads fault → IsNoLine reads (told_of_line fault)
line_told reads (lines.BadLine number) none = none
line_told reads lines.Failed none = tt
line_told reads lines.Memory none = tt

pub line_caused : (fault : LineFault) (disk source source' : ℕ) → LineCause fault source source' → ToldCause (told_of_line fault) disk disk source source'
line_caused (lines.BadLine number) disk source source' cause = (refl, cause)
line_caused lines.Failed disk source source' cause = (refl, cause)
line_caused lines.Memory disk source source' cause = (refl, cause)
