-- What `load` leaves of a store, by what was read and what is told.
use Rattle.std.proofs.Common.{◌≡◌, ◌⊎◌, ℕ, zero, suc, ◌<◌, ◌||◌, Bool, true, false, List, [], ◌∷◌, ◌++◌, length, map, Option, None, Some, Result, Ok, Err, inl, inr, ap, refl, sym, subst, ◌∙◌, arith, ⊎_elim, le-ltb}
use Rattle.std.proofs.lemmas.Option.{slice_get-map}
use Rattle.std.specs.Io.KnownBytes.{prepend_known}
use Rattle.std.specs.List.{AllByRecursion}
use Rattle.std.specs.Option.{option_map}
use Rattle.std.specs.Prelude.{slice_get}
use Rattle.disk_model.specs.Image.{Image}
use Rattle.disk_model.specs.View.{After, EachImage, LeavesOnly, View}
use Rattle.disk_model.proofs.Runs.{and_then, weaker_run}
use Rattle.page_store.specs.Store.{Contents, contents_view}
use Rattle.page_store.specs.declared.pages.Sizes.{Sizes}
use Rattle.qsr_value.specs.Values.{AreTexts, Fits}
use Rattle.qsr_value.specs.declared.row.Value.{Value}
use Rattle.qsr_value.specs.declared.schema.Column.{Column}
use Rattle.table_file.specs.Appending.{HasAdded, HasCounted}
use Rattle.table_file.specs.CatalogueBytes.{IsCatalogue, IsSchema, IsTable}
use Rattle.table_file.specs.Refusals.{exceeds, table_names}
use Rattle.table_file.specs.Tables.{AreRows, AreTables, HasTables, IsTableOf, OnlyTables, RowsStand, Table, Tables, catalogue_of, entry_of, grown, names_of, place_of, with_rows}
use Rattle.table_file.specs.declared.catalogue.Catalogue.{Catalogue}
use Rattle.table_file.specs.declared.entries.TableEntry.{TableEntry}
use Rattle.table_file.specs.declared.writer.TableWriter.{TableWriter}
use Rattle.table_file.proofs.Lists.{all_append, all_set}
use Rattle.qsr_top.specs.Load.{HasLoaded, Loads, StandsLoaded}
use Rattle.qsr_top.specs.RowsRead.{IsLoading, IsRead, IsReadFault, IsReadFull, IsUnread, LoadsAll}
use Rattle.qsr_top.specs.Stored.{Stands, StandsFor}
use Rattle.qsr_top.specs.declared.told.Told.{Told}
use Rattle.qsr_top.specs.declared.told.Told.TheVariants.{Created, Loaded, Exists, RowTooWide, CatalogueFull, NoTable, BadField, TableFull, BadLine, NotStore, DiskFault, SourceFault, NoMemory}
use Rattle.qsr_top.proofs.RowsReadLemmas.{IsUnread-input}
use Rattle.qsr_top.proofs.StandLemmas.{both_runs, still_stands}

-- an item of a list, all of whose items are so
all_at : {A : Type 0} (P : A → Type 0) (xs : List A) (k : ℕ) (x : A) → AllByRecursion P xs → slice_get xs k ≡ Some x → P x
all_at P [] k x all is = cc
all_at P (first ∷ xs) zero x all is = let same : first ≡ x = cc in subst P same all.0
all_at P (first ∷ xs) (suc k) x all is = all_at P xs k x all.1 is

-- the columns of a table of a catalogue
pub schema_at : (sizes : Sizes) (tables : List TableEntry) (k : ℕ) (columns : List Column) → AllByRecursion (IsTable sizes) tables
    → slice_get (map (λ entry. entry.schema) tables) k ≡ Some columns → IsSchema columns
schema_at sizes [] k columns all is = cc
schema_at sizes (entry ∷ tables) zero columns all is = let same : entry.schema ≡ columns = cc in subst IsSchema same all.0.schema
schema_at sizes (entry ∷ tables) (suc k) columns all is = schema_at sizes tables k columns all.1 is

pub schema_is : (tables : List TableEntry) (k : ℕ) (t : Table) (columns : List Column) → slice_get tables k ≡ Some (entry_of t)
    → slice_get (map (λ entry. entry.schema) tables) k ≡ Some columns → columns ≡ t.columns
unfolding entry_of
schema_is tables k t columns there is =
    let known : Some t.columns ≡ Some columns = sym (slice_get-map (λ (entry : TableEntry). entry.schema) tables k ∙ ap (option_map (λ (entry : TableEntry). entry.schema)) there) ∙ is in
    cc

-- the entry of a table
pub entry_at : (catalogue : Catalogue) (s : Tables) (k : ℕ) (t : Table) → catalogue ≡ catalogue_of s → slice_get s.tables k ≡ Some t → slice_get catalogue.tables k ≡ Some (entry_of t)
unfolding catalogue_of
entry_at catalogue s k t is there = ap (λ (c : Catalogue). slice_get c.tables k) is ∙ slice_get-map entry_of s.tables k ∙ ap (option_map entry_of) there

neither : (a b : Bool) → a ≡ false → b ≡ false → (a || b) ≡ false
neither a b one other = rw (one, other) refl

-- a table has room for the rows that it has
room_there : (sizes : Sizes) (t : Table) → IsTable sizes (entry_of t) → exceeds sizes t.columns t.rows ≡ false
unfolding entry_of
room_there sizes t is = neither _ _ (le-ltb _ _ is.rows) (le-ltb _ _ is.pages)

pub IsLoading-start : (sizes : Sizes) (catalogue : Catalogue) (k : ℕ) (t : Table) (w : TableWriter) (v : View Contents) → IsCatalogue sizes catalogue → slice_get catalogue.tables k ≡ Some (entry_of t)
    → HasCounted t.columns t.rows w → (v.honest → HasAdded t.columns t.rows w v.seen) → IsLoading sizes t.columns t.rows false w v
IsLoading-start sizes catalogue k t w v form there counted added = record {
  room = room_there sizes t (all_at (IsTable sizes) catalogue.tables k (entry_of t) form.tables there);
  counted = λ none. counted;
  added = λ none. added;
}

-- nothing is held at the start
pub prepend-none : (held : List ℕ) (left : Option (List ℕ)) → held ≡ [] → prepend_known held left ≡ left
prepend-none held None none = refl
prepend-none held (Some left) none = ap (λ (front : List ℕ). Some (front ++ left)) none

pub IsUnread-first : (columns columns' : List Column) (number : ℕ) (unread left : Option (List ℕ)) (read : Result (List (List Value)) Told)
    → columns' ≡ columns → number ≡ 1 → unread ≡ left → IsUnread columns' number unread read → IsUnread columns 1 left read
IsUnread-first columns columns' number unread left read same one none is = rw (same, one, none) at is

pub LoadsAll-first : (sizes : Sizes) (columns columns' : List Column) (number : ℕ) (unread left left' : Option (List ℕ)) (full : Bool) (w w' : TableWriter) (v v' : View Contents)
    → columns' ≡ columns → number ≡ 1 → unread ≡ left → LoadsAll sizes columns' number unread left' false w v full w' v' → LoadsAll sizes columns 1 left left' false w v full w' v'
LoadsAll-first sizes columns columns' number unread left left' full w w' v v' same one none is = rw (same, one, none) at is

-- all of the input was read behind the rows of a table
pub IsRead-all : (sizes : Sizes) (t : Table) (left left' : Option (List ℕ)) (full : Bool) (w w' : TableWriter) (v v' : View Contents)
    → LoadsAll sizes t.columns 1 left left' false w v full w' v' → IsLoading sizes t.columns t.rows false w v → IsRead sizes t left left' full w' v'
IsRead-all sizes t left left' full w w' v v' all loading = record {
  rows = all.rows;
  read = record { are = all.are; input = IsUnread-input t.columns left (Ok all.rows) all.input; end = all.end };
  loading = all.loads t.rows loading;
}

pub IsReadFull-all : {sizes : Sizes} {t : Table} {left left' : Option (List ℕ)} {w : TableWriter} {v : View Contents} → IsRead sizes t left left' true w v → IsReadFull sizes t left left'
IsReadFull-all read = record { rows = read.rows; read = read.read; full = read.loading.room }

-- what the rows of an input leave that aren't added
pub Loads-fault : (size : ℕ) (sizes : Sizes) (s : Tables) (name : List ℕ) (left left' : Option (List ℕ)) (disk : View Image) (number : ℕ) (t : Table) (told : Told)
    → IsTableOf s name number t → StandsFor size sizes s disk
    → IsReadFault (λ told. IsUnread t.columns 1 left (Err told)) (IsReadFull sizes t left left') told → Loads size sizes s name left left' disk told
Loads-fault size sizes s name left left' disk number t (BadField line column) is stands fault =
    (record { number = number; table = t; is = is; input = IsUnread-input t.columns left (Err (BadField line column)) fault }, stands)
Loads-fault size sizes s name left left' disk number t (BadLine line) is stands fault =
    (record { number = number; table = t; is = is; input = IsUnread-input t.columns left (Err (BadLine line)) fault }, stands)
Loads-fault size sizes s name left left' disk number t TableFull is stands fault =
    (record { number = number; table = t; rows = fault.rows; is = is; read = fault.read; full = fault.full }, stands)
Loads-fault size sizes s name left left' disk number t DiskFault is stands fault = tt
Loads-fault size sizes s name left left' disk number t SourceFault is stands fault = stands
Loads-fault size sizes s name left left' disk number t NoMemory is stands fault = stands
Loads-fault size sizes s name left left' disk number t Created is stands fault = absurd fault
Loads-fault size sizes s name left left' disk number t (Loaded rows) is stands fault = absurd fault
Loads-fault size sizes s name left left' disk number t Exists is stands fault = absurd fault
Loads-fault size sizes s name left left' disk number t (RowTooWide bytes) is stands fault = absurd fault
Loads-fault size sizes s name left left' disk number t CatalogueFull is stands fault = absurd fault
Loads-fault size sizes s name left left' disk number t NoTable is stands fault = absurd fault
Loads-fault size sizes s name left left' disk number t (NotStore page) is stands fault = absurd fault

-- the tables with more rows of one
AreTables-rows : (sizes : Sizes) (s : Tables) (number : ℕ) (t : Table) (rows : List (List Value)) → AreTables sizes s → slice_get s.tables number ≡ Some t → AreRows t.columns rows
    → IsCatalogue sizes (catalogue_of (with_rows s number t rows)) → AreTables sizes (with_rows s number t rows)
AreTables-rows sizes s number t rows are there more catalogue =
    let each = λ (table : Table). AreRows table.columns table.rows in
    let before : AreRows t.columns t.rows = all_at each s.tables number t are.rows there in
    record {
      catalogue = catalogue;
      rows = all_set each s.tables number (grown t rows) are.rows (all_append (λ row. Fits t.columns row × AreTexts row) t.rows rows before more);
    }

pub HasLoaded-all : (size : ℕ) (sizes now : Sizes) (s : Tables) (name : List ℕ) (left left' : Option (List ℕ)) (disk : View Image) (t : Table) (w : TableWriter) (v : View Contents) (catalogue : Catalogue) (count : ℕ)
    → IsTableOf s name w.table t → (read : IsRead sizes t left left' false w v) → AreTables sizes s → count ≡ w.rows
    → catalogue ≡ catalogue_of (with_rows s w.table t read.rows) → now ≡ sizes → IsCatalogue now catalogue
    → StandsFor size sizes (with_rows s w.table t read.rows) disk → HasLoaded size sizes s name left left' disk count
HasLoaded-all size sizes now s name left left' disk t w v catalogue count is read are counts says same form stands =
    let counted = read.loading.counted refl in
    let here : IsCatalogue sizes catalogue = subst (λ (sizes : Sizes). IsCatalogue sizes catalogue) same form in
    record {
      number = w.table;
      table = t;
      rows = read.rows;
      is = is;
      read = read.read;
      room = read.loading.room;
      counted = counts ∙ counted.count;
      tables = AreTables-rows sizes s w.table t read.rows are is.there read.read.are (subst (IsCatalogue sizes) says here);
      stands = stands;
    }

pub stands_kept : (size : ℕ) (sizes : Sizes) (s : Tables) {a b : View Contents} → EachImage a (Stands size sizes s) → LeavesOnly a b (HasTables s)
    → LeavesOnly a b (After OnlyTables a) → LeavesOnly a b (Stands size sizes s)
stands_kept size sizes s each keeps others =
    weaker_run (both_runs keeps others) (λ m has. still_stands size sizes s s has.1.0 m (each has.1.0 has.1.1) has.1.2 has.0)

stands_or : (size : ℕ) (sizes : Sizes) (s s' : Tables) {a b : View Contents} {Q : Contents → Type 0} → EachImage a (Stands size sizes s) → LeavesOnly a b (λ m. HasTables s m ⊎ HasTables s' m)
    → LeavesOnly a b (After OnlyTables a) → ((m : Contents) → Stands size sizes s' m → Q m) → LeavesOnly a b (λ m. Stands size sizes s m ⊎ Q m)
stands_or size sizes s s' each moment others weaker =
    weaker_run (both_runs moment others) (λ m has. ⊎_elim
    (λ old. inl (still_stands size sizes s s has.1.0 m (each has.1.0 has.1.1) has.1.2 old))
    (λ new. inr (weaker m (still_stands size sizes s s' has.1.0 m (each has.1.0 has.1.1) has.1.2 new))) has.0)

StandsLoaded-all : (size : ℕ) (sizes : Sizes) (s : Tables) (name : List ℕ) (left left' : Option (List ℕ)) (t : Table) (w : TableWriter) (v : View Contents)
    → IsTableOf s name w.table t → (read : IsRead sizes t left left' false w v) → (m : Contents) → Stands size sizes (with_rows s w.table t read.rows) m → StandsLoaded size sizes s name left m
StandsLoaded-all size sizes s name left left' t w v is read m stands = record {
  rows = read.rows;
  store = stands.store;
  appended = record { number = w.table; table = t; is = is; tables = stands.tables };
  read = read.read.input;
}

-- the rows of a table stand where reads find them
pub rows_seen : (size : ℕ) (sizes : Sizes) (s : Tables) (v : View Contents) (name : List ℕ) (number : ℕ) (t : Table) → EachImage v (Stands size sizes s) → IsTableOf s name number t
    → v.honest → RowsStand number t.columns t.rows v.seen
rows_seen size sizes s v name number t each is honest = (each v.seen (v.seen_may_stay honest)).tables.rows number t is.there

-- rows are read, and then committed
moment_then : (s s' : Tables) {a b c : View Contents} → LeavesOnly a b (HasTables s) → LeavesOnly b c (λ m. HasTables s m ⊎ HasTables s' m) → LeavesOnly a c (λ m. HasTables s m ⊎ HasTables s' m)
moment_then s s' first second = and_then (weaker_run first (λ m has. inl has)) second (λ m has. has)

-- what a crash leaves at any moment of both
pub loads_moment : (size : ℕ) (sizes : Sizes) (s : Tables) (name : List ℕ) (left left' : Option (List ℕ)) (t : Table) (w : TableWriter) {a b c : View Contents} → EachImage a (Stands size sizes s)
    → IsTableOf s name w.table t → (read : IsRead sizes t left left' false w b) → LeavesOnly a b (HasTables s) → LeavesOnly b c (λ m. HasTables s m ⊎ HasTables (with_rows s w.table t read.rows) m)
    → LeavesOnly a c (After OnlyTables a) → LeavesOnly a c (λ m. Stands size sizes s m ⊎ StandsLoaded size sizes s name left m)
loads_moment size sizes s name left left' t w {b = b} each is read keeps commits others =
    let grown = with_rows s w.table t read.rows in
    stands_or size sizes s grown each (moment_then s grown keeps commits) others (StandsLoaded-all size sizes s name left left' t w b is read)

-- a table by a number that is the same
pub IsTableOf-same : (s : Tables) (name : List ℕ) (number other : ℕ) (t : Table) → other ≡ number → IsTableOf s name number t → IsTableOf s name other t
IsTableOf-same s name number other t same is = subst (λ (k : ℕ). IsTableOf s name k t) (sym same) is

-- the sizes stay
pub each_sizes : (sizes now : Sizes) (v : View Image) {P : Contents → Type 0} → now ≡ sizes → EachImage (contents_view now v) P → EachImage (contents_view sizes v) P
each_sizes sizes now v {P = P} same each = subst (λ (s : Sizes). EachImage (contents_view s v) P) same each

names_in : (tables : List Table) → map (λ (entry : TableEntry). entry.name) (map entry_of tables) ≡ map (λ (table : Table). table.name) tables
unfolding entry_of
names_in [] = refl
names_in (table ∷ tables) = ap (λ rest. table.name ∷ rest) (names_in tables)

names_same : (catalogue : Catalogue) (s : Tables) → catalogue ≡ catalogue_of s → table_names catalogue ≡ names_of s
unfolding catalogue_of
names_same catalogue s is = ap table_names is ∙ names_in s.tables

table_at : (tables : List Table) (k : ℕ) → k < length (map entry_of tables) → (t : Table) × (slice_get tables k ≡ Some t)
table_at [] k within = absurd (omega (arith, within))
table_at (table ∷ tables) zero within = (table, refl)
table_at (table ∷ tables) (suc k) within = table_at tables k (omega (arith, within))

entries_of : (catalogue : Catalogue) (s : Tables) → catalogue ≡ catalogue_of s → catalogue.tables ≡ map entry_of s.tables
unfolding catalogue_of
entries_of catalogue s is = ap (λ (c : Catalogue). c.tables) is

-- the table of a name that a catalogue has · has not
pub table_found : (catalogue : Catalogue) (s : Tables) (name : List ℕ) (k : ℕ) → catalogue ≡ catalogue_of s → Some k ≡ place_of name (table_names catalogue) → k < length catalogue.tables
    → (t : Table) × IsTableOf s name k t
table_found catalogue s name k is place within =
    let entries = entries_of catalogue s is in
    let there = table_at s.tables k (rw entries at within) in
    (there.0, record { place = ap (place_of name) (sym (names_same catalogue s is)) ∙ sym place; there = there.1 })

pub table_none : (catalogue : Catalogue) (s : Tables) (name : List ℕ) → catalogue ≡ catalogue_of s → None ≡ place_of name (table_names catalogue) → place_of name (names_of s) ≡ None
table_none catalogue s name is place = ap (place_of name) (sym (names_same catalogue s is)) ∙ sym place
