-- A `load` from the opening of its store on.
use Rattle.std.proofs.Common.{◌≡◌, ◌⊎◌, ℕ, List, Option, Some, inl, refl, sym, subst}
use Rattle.disk_model.specs.Image.{Image}
use Rattle.disk_model.specs.View.{After, EachImage, LeavesOnly, Stays, View}
use Rattle.disk_model.proofs.LiftedRuns.{lifted_stays}
use Rattle.disk_model.proofs.Runs.{and_then, weaker_run}
use Rattle.page_store.specs.Format.{CausedBy}
use Rattle.page_store.specs.Opening.{IsOpeningFault}
use Rattle.page_store.specs.Store.{Contents, contents_of, contents_view}
use Rattle.page_store.specs.declared.fault.StoreFault.{StoreFault}
use Rattle.page_store.specs.declared.pages.Sizes.{Sizes}
use Rattle.table_file.specs.Tables.{AreTables, OnlyTables, Tables}
use Rattle.qsr_top.specs.Load.{ComesToLoad, Loads}
use Rattle.qsr_top.specs.Stored.{Stands, StandsFor}
use Rattle.qsr_top.specs.Told.{told_of_opening}
use Rattle.qsr_top.specs.declared.told.Told.{Told}
use Rattle.qsr_top.proofs.CreateLemmas.{honest_of, no_change, unopened_cause, unopened_fault, unopened_of_disk}

-- the store that is opened has the sizes of the tables
pub opened_sizes : (size : ℕ) (own sizes : Sizes) (s : Tables) (disk mid : View Image) → ((sizes : Sizes) → EachImage (contents_view sizes disk) (λ m. m.head ≡ Some sizes) → (contents_view own mid).honest → own ≡ sizes)
    → Stays (contents_view own disk) (contents_view own mid) → StandsFor size sizes s disk → disk.honest → own ≡ sizes
opened_sizes size own sizes s disk mid told rests stands honest =
    told sizes (λ m now. (stands m now).store.head) (rests.time.honest.1 (honest_of own disk honest))

-- what a load of the open store leaves
pub opened_loads : (size : ℕ) (own sizes : Sizes) (s : Tables) (name : List ℕ) (left left' : Option (List ℕ)) (disk mid disk' : View Image) (told : Told) → own ≡ sizes
    → Stays (contents_view own disk) (contents_view own mid)
    → (AreTables own s → StandsFor size own s mid → (contents_view own mid).honest → Loads size own s name left left' disk' told)
    → AreTables sizes s → StandsFor size sizes s disk → disk.honest → Loads size sizes s name left left' disk' told
opened_loads size own sizes s name left left' disk mid disk' told same rests loads are stands honest =
    subst (λ (sizes : Sizes). AreTables sizes s → StandsFor size sizes s disk → Loads size sizes s name left left' disk' told) same
    (λ are stands. loads are (λ m now. stands m (rests.crash m now)) (rests.time.honest.1 (honest_of own disk honest))) are stands

-- what a crash leaves at any moment since before the opening
pub opened_moment : (own now sizes : Sizes) (disk mid disk' : View Image) (P : Sizes → Contents → Type 0) → own ≡ sizes → now ≡ own
    → LeavesOnly (contents_view own disk) (contents_view own mid) (P own) → LeavesOnly (contents_view own mid) (contents_view now disk') (P own)
    → LeavesOnly (contents_view sizes disk) (contents_view sizes disk') (P sizes)
opened_moment own now sizes disk mid disk' P same stay first second =
    let second = subst (λ (sizes : Sizes). LeavesOnly (contents_view own mid) (contents_view sizes disk') (P own)) stay second in
    subst (λ (sizes : Sizes). LeavesOnly (contents_view sizes disk) (contents_view sizes disk') (P sizes)) same (and_then first second (λ m has. has))

pub opened_others : (own now sizes : Sizes) (disk mid disk' : View Image) → own ≡ sizes → now ≡ own → Stays (contents_view own disk) (contents_view own mid)
    → LeavesOnly (contents_view own mid) (contents_view now disk') (After OnlyTables (contents_view own mid))
    → LeavesOnly (contents_view sizes disk) (contents_view sizes disk') (After OnlyTables (contents_view sizes disk))
opened_others own now sizes disk mid disk' same stay rests others =
    opened_moment own now sizes disk mid disk' (λ sizes. After OnlyTables (contents_view sizes disk)) same stay
    (weaker_run rests.time (λ m now. (m, now, no_change m))) (weaker_run others (λ m after. (after.0, rests.crash after.0 after.1, after.2)))

-- where no store is opened, nothing is changed
pub unopened_moment : (sizes : Sizes) (disk disk' : View Image) (P : Contents → Type 0) → Stays disk disk' → EachImage (contents_view sizes disk) P → LeavesOnly (contents_view sizes disk) (contents_view sizes disk') P
unfolding contents_view
unopened_moment sizes disk disk' P stays each = weaker_run (lifted_stays (contents_of sizes) stays).time each

pub unopened_others : (sizes : Sizes) (disk disk' : View Image) → Stays disk disk' → LeavesOnly (contents_view sizes disk) (contents_view sizes disk') (After OnlyTables (contents_view sizes disk))
unopened_others sizes disk disk' stays = unopened_moment sizes disk disk' (After OnlyTables (contents_view sizes disk)) stays (λ m now. (m, now, no_change m))

-- and what is told of it
pub unopened_comes : (size : ℕ) (name : List ℕ) (left left' : Option (List ℕ)) (disk disk' : View Image) (faults faults' source : ℕ) (fault : StoreFault)
    → IsOpeningFault size disk fault → CausedBy fault faults faults' → ComesToLoad size name left left' disk disk' faults faults' source source (told_of_opening fault)
unopened_comes size name left left' disk disk' faults faults' source fault refused cause = record {
  cause = unopened_cause fault faults faults' source size disk refused cause;
  of_disk = unopened_of_disk size disk fault refused;
  loads = λ sizes s are stands honest.
      subst (λ fault. Loads size sizes s name left left' disk' (told_of_opening fault)) (sym (unopened_fault size sizes s disk fault stands honest refused)) tt;
}

pub opened_tables : (size : ℕ) (own now sizes : Sizes) (s : Tables) (disk mid disk' : View Image) (Q : Sizes → Contents → Type 0) → own ≡ sizes → now ≡ own
    → Stays (contents_view own disk) (contents_view own mid)
    → (AreTables own s → StandsFor size own s mid → (contents_view own mid).honest → LeavesOnly (contents_view own mid) (contents_view now disk') (λ m. Stands size own s m ⊎ Q own m))
    → AreTables sizes s → StandsFor size sizes s disk → disk.honest → LeavesOnly (contents_view sizes disk) (contents_view sizes disk') (λ m. Stands size sizes s m ⊎ Q sizes m)
opened_tables size own now sizes s disk mid disk' Q same stay rests moment are stands honest =
    subst (λ (sizes : Sizes). AreTables sizes s → StandsFor size sizes s disk → LeavesOnly (contents_view sizes disk) (contents_view sizes disk') (λ m. Stands size sizes s m ⊎ Q sizes m)) same
    (λ are stands. opened_moment own now own disk mid disk' (λ own m. Stands size own s m ⊎ Q own m) refl stay (weaker_run rests.time (λ m now. inl (stands m now)))
    (moment are (λ m now. stands m (rests.crash m now)) (rests.time.honest.1 (honest_of own disk honest)))) are stands
