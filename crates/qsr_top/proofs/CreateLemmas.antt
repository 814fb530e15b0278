-- What `create` leaves.
use Rattle.std.proofs.Common.{◌≡◌, ◌⊎◌, ℕ, List, [], ◌∷◌, ◌++◌, Some, inl, inr, ⊎_elim, refl, sym, ap, subst, ◌∙◌}
use Rattle.std.specs.List.{AllByRecursion}
use Rattle.disk_model.specs.Image.{Image}
use Rattle.disk_model.specs.View.{View, After, EachImage, LeavesOnly, Stays}
use Rattle.disk_model.proofs.Runs.{and_then, each_now, weaker_run}
use Rattle.disk_model.proofs.LiftedRuns.{lifted_stays}
use Rattle.page_store.specs.Format.{CausedBy}
use Rattle.page_store.specs.Opening.{IsOpeningFault, IsStore}
use Rattle.page_store.specs.Store.{Contents, contents_of, contents_view, twin_page}
use Rattle.page_store.specs.declared.fault.StoreFault.{StoreFault}
use Rattle.page_store.specs.declared.fault.StoreFault.TheVariants as stores
use Rattle.page_store.specs.declared.pages.Sizes.{Sizes}
use Rattle.qsr_value.specs.declared.schema.Column.{Column}
use Rattle.table_file.specs.CatalogueBytes.{IsCatalogue}
use Rattle.table_file.specs.Refusals.{HasNoCatalogue, IsCreateFault, create_refusal, table_names}
use Rattle.table_file.specs.Tables.{AreRows, AreTables, HasTables, OnlyTables, Table, Tables, catalogue_of, names_of, with_table}
use Rattle.table_file.specs.declared.catalogue.Catalogue.{Catalogue}
use Rattle.table_file.specs.declared.fault.TableFault.{TableFault}
use Rattle.table_file.specs.declared.fault.TableFault.TheVariants.{Exists, CatalogFull, RowTooWide, NoTable, BadField, TableFull, NotStore, Failed, Memory}
use Rattle.table_file.proofs.Appends.{names_told}
use Rattle.qsr_top.specs.Create.{Creates, IsToldOfCatalogue, IsToldOfDisk}
use Rattle.qsr_top.specs.Stored.{IsNotStored, Stands, StandsFor}
use Rattle.qsr_top.specs.Told.{ToldCause, told_of_fault, told_of_opening}
use Rattle.qsr_top.specs.declared.told.Told.{Told}
use Rattle.qsr_top.specs.declared.told.Told.TheVariants as told
use Rattle.qsr_top.proofs.StandLemmas.{both_runs, still_stands}

pub refusal_agrees : (s : Tables) (catalogue : Catalogue) (name : List ℕ) (columns : List Column) → catalogue ≡ catalogue_of s
    → create_refusal (table_names catalogue) name columns ≡ create_refusal (names_of s) name columns
refusal_agrees s catalogue name columns is =
    ap (λ (names : List (List ℕ)). create_refusal names name columns) (ap table_names is ∙ names_told s)

-- A store that stood for some tables is read, and then its catalogue is changed.
pub stood : {a b : View Contents} {P : Contents → Type 0} → EachImage a P → Stays a b → EachImage b P
stood each stays m now = each m (stays.crash m now)

pub changed_run : (size : ℕ) (sizes : Sizes) (s s' : Tables) {a b : View Contents} → EachImage a (Stands size sizes s)
    → LeavesOnly a b (λ m. HasTables s m ⊎ HasTables s' m) → LeavesOnly a b (After OnlyTables a) → LeavesOnly a b (λ m. Stands size sizes s m ⊎ Stands size sizes s' m)
changed_run size sizes s s' each tables others =
    weaker_run (both_runs tables others) (λ m both.
    let d = both.1.0 in
    let was = each d both.1.1 in
    ⊎_elim (λ old. inl (still_stands size sizes s s d m was both.1.2 old)) (λ new. inr (still_stands size sizes s s' d m was both.1.2 new)) both.0)

pub behind_read : (size : ℕ) (sizes : Sizes) (s : Tables) {a b c : View Contents} {P : Contents → Type 0} → EachImage a (Stands size sizes s) → Stays a b
    → LeavesOnly b c (λ m. Stands size sizes s m ⊎ P m) → LeavesOnly a c (λ m. Stands size sizes s m ⊎ P m)
behind_read size sizes s each stays run = and_then (weaker_run stays.time (λ m now. inl (each m now))) run (λ m stands. stands)

-- a run that leaves tables in a store leaves a store that stands for them
pub stands_each : (size : ℕ) (sizes : Sizes) (s s' : Tables) {a b : View Contents} → EachImage a (Stands size sizes s) → EachImage b (HasTables s')
    → LeavesOnly a b (After OnlyTables a) → EachImage b (Stands size sizes s')
stands_each size sizes s s' each has others m now =
    let before = each_now others m now in
    still_stands size sizes s s' before.0 m (each before.0 before.1) before.2 (has m now)

pub others_behind_read : {a b c : View Contents} → Stays a b → LeavesOnly b c (After OnlyTables b) → ((d : Contents) → OnlyTables d d) → LeavesOnly a c (After OnlyTables a)
others_behind_read stays run same =
    and_then (weaker_run stays.time (λ m now. (m, now, same m))) run (λ m left. (left.0, stays.crash left.0 left.1, left.2))

pub no_change : (d : Contents) → OnlyTables d d
no_change d = record { head = refl; bodies = λ twin other. refl; areas = λ part other. refl }

-- the tables with the new one are within the limits
rows_behind : (tables : List Table) (table : Table) → AllByRecursion (λ table. AreRows table.columns table.rows) tables → AreRows table.columns table.rows
    → AllByRecursion (λ table. AreRows table.columns table.rows) (tables ++ table ∷ [])
rows_behind [] table each last = (last, tt)
rows_behind (first ∷ tables) table each last = (each.0, rows_behind tables table each.1 last)

pub are_created : (sizes : Sizes) (s : Tables) (name : List ℕ) (columns : List Column) (catalogue : Catalogue) → AreTables sizes s → catalogue ≡ catalogue_of (with_table s name columns)
    → IsCatalogue sizes catalogue → AreTables sizes (with_table s name columns)
are_created sizes s name columns catalogue are is form = record {
  catalogue = subst (IsCatalogue sizes) is form;
  rows = rows_behind s.tables (record { name = name; columns = columns; rows = [] }) are.rows tt;
}

-- what is refused leaves the tables as they were
pub create_refused : (size : ℕ) (sizes : Sizes) (s : Tables) (name : List ℕ) (columns : List Column) (disk : View Image) (fault : TableFault)
    → IsCreateFault (create_refusal (names_of s) name columns) fault → ((fault ≡ Failed → ⊥) → StandsFor size sizes s disk)
    → Creates size sizes s name columns disk (told_of_fault fault)
create_refused size sizes s name columns disk Exists is stands = (is, stands (λ never. cc))
create_refused size sizes s name columns disk CatalogFull is stands = (is, stands (λ never. cc))
create_refused size sizes s name columns disk (RowTooWide bytes) is stands = (is, stands (λ never. cc))
create_refused size sizes s name columns disk NoTable is stands = absurd is
create_refused size sizes s name columns disk (BadField line column) is stands = absurd is
create_refused size sizes s name columns disk TableFull is stands = absurd is
create_refused size sizes s name columns disk (NotStore page) is stands = absurd is
create_refused size sizes s name columns disk Failed is stands = tt
create_refused size sizes s name columns disk Memory is stands = stands (λ never. cc)

-- what is known of a disk, of the same disk by another name
pub of_same : {X : Type 0} (P : X → Type 0) {x : X} (y : X) → x ≡ y → P y → P x
of_same P y same known = subst P (sym same) known

-- A disk, as what stands on it in a store of some sizes: it is honest, it stays, it stands for some tables.
pub honest_of : (sizes : Sizes) (v : View Image) → v.honest → (contents_view sizes v).honest
unfolding contents_view
honest_of sizes v honest = honest

pub stays_of : (sizes : Sizes) (v w : View Image) → Stays v w → Stays (contents_view sizes v) (contents_view sizes w)
unfolding contents_view
stays_of sizes v w stays = lifted_stays (contents_of sizes) stays

pub sizes_of : (size : ℕ) (sizes : Sizes) (s : Tables) (v : View Image) → StandsFor size sizes s v → EachImage (contents_view sizes v) (λ m. m.head ≡ Some sizes)
sizes_of size sizes s v stands m now = (stands m now).store.head

pub stands_still : (size : ℕ) (sizes : Sizes) (s : Tables) (v w : View Image) → StandsFor size sizes s v → Stays v w → StandsFor size sizes s w
unfolding contents_view
stands_still size sizes s v w stands stays m now = stands m (now.0, stays.crash now.0 now.1, now.2)

-- An open store whose catalogue is none: the disk was no store with a catalogue before it was opened.
bad_catalogue : (size page : ℕ) (sizes : Sizes) (v w : View Image) → Stays v w → EachImage (contents_view sizes w) (IsStore size sizes)
    → (page ≡ twin_page sizes 0) × ((contents_view sizes w).honest → HasNoCatalogue sizes (contents_view sizes w).seen) → v.honest → IsNotStored size page v.seen
unfolding contents_view
bad_catalogue size page sizes v w stays stores none honest =
    let opened = stays.time.honest.1 honest in
    inr (record {
      sizes = sizes;
      store = subst (λ c. IsStore size sizes (contents_of sizes c)) stays.seen (stores (contents_of sizes w.seen) (w.seen, w.seen_may_stay opened, refl));
      first = none.0;
      none = subst (λ c. HasNoCatalogue sizes (contents_of sizes c)) stays.seen (none.1 opened);
    })

pub told_of_disk : (size : ℕ) (sizes : Sizes) (v w : View Image) → Stays v w → EachImage (contents_view sizes w) (IsStore size sizes)
    → (told : Told) → IsToldOfCatalogue sizes ((contents_view sizes w).honest) ((contents_view sizes w).seen) told → IsToldOfDisk size v told
told_of_disk size sizes v w stays stores (told.NotStore page) none = bad_catalogue size page sizes v w stays stores none
told_of_disk size sizes v w stays stores told.Created none = tt
told_of_disk size sizes v w stays stores (told.Loaded rows) none = tt
told_of_disk size sizes v w stays stores told.Exists none = tt
told_of_disk size sizes v w stays stores (told.RowTooWide bytes) none = tt
told_of_disk size sizes v w stays stores told.CatalogueFull none = tt
told_of_disk size sizes v w stays stores told.NoTable none = tt
told_of_disk size sizes v w stays stores (told.BadField line column) none = tt
told_of_disk size sizes v w stays stores told.TableFull none = tt
told_of_disk size sizes v w stays stores (told.BadLine number) none = tt
told_of_disk size sizes v w stays stores told.DiskFault none = tt
told_of_disk size sizes v w stays stores told.SourceFault none = tt
told_of_disk size sizes v w stays stores told.NoMemory none = tt

-- what is told of a disk on which no store is opened
pub unopened_of_disk : (size : ℕ) (v : View Image) (fault : StoreFault) → IsOpeningFault size v fault → IsToldOfDisk size v (told_of_opening fault)
unopened_of_disk size v (stores.TooSmall need have) is = absurd is
unopened_of_disk size v (stores.NotStore page) is = λ honest. inl (is honest)
unopened_of_disk size v stores.Failed is = tt

pub unopened_cause : (fault : StoreFault) (old new source : ℕ) (size : ℕ) (v : View Image) → IsOpeningFault size v fault → CausedBy fault old new → ToldCause (told_of_opening fault) old new source source
unopened_cause (stores.TooSmall need have) old new source size v is cause = absurd is
unopened_cause (stores.NotStore page) old new source size v is cause = (cause, refl)
unopened_cause stores.Failed old new source size v is cause = (cause, refl)

-- where tables stood, only a fault of the disk keeps the store from being opened
pub unopened_fault : (size : ℕ) (sizes : Sizes) (s : Tables) (v : View Image) (fault : StoreFault) → StandsFor size sizes s v → v.honest → IsOpeningFault size v fault → fault ≡ stores.Failed
unfolding contents_view
unopened_fault size sizes s v (stores.TooSmall need have) stands honest is = absurd is
unopened_fault size sizes s v (stores.NotStore page) stands honest is =
    absurd ((is honest).1 sizes (stands (contents_of sizes v.seen) (v.seen, v.seen_may_stay honest, refl)).store)
unopened_fault size sizes s v stores.Failed stands honest is = refl
