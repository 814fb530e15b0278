-- Rows that are added one after another.
use Rattle.std.proofs.Common.{◌≡◌, ◌⊎◌, ℕ, suc, ◌+◌, ◌<◌, Bool, true, List, [], ◌∷◌, ◌++◌, length, take, drop, get_or, inl, inr, refl, sym, ap, ◌∙◌, arith, subst, append_assoc}
use Rattle.std.proofs.lemmas.List.{append-nil, take-append-drop}
use Rattle.std.proofs.Math.Seq.{take-suc}
use Rattle.std.specs.List.{AllByRecursion}
use Rattle.disk_model.specs.View.{After, EachImage, LeavesOnly, View}
use Rattle.disk_model.proofs.Runs.{and_then, each_now, no_call}
use Rattle.page_store.specs.Store.{Contents}
use Rattle.page_store.specs.declared.pages.Sizes.{Sizes}
use Rattle.qsr_value.specs.Values.{AreTexts}
use Rattle.qsr_value.specs.declared.row.Value.{Value}
use Rattle.qsr_value.specs.declared.schema.Column.{Column}
use Rattle.table_file.specs.Appending.{HasAdded, HasCounted, IsBehind, IsPushFault}
use Rattle.table_file.specs.Refusals.{exceeds}
use Rattle.table_file.specs.Tables.{HasTables, OnlyTables, Tables}
use Rattle.table_file.specs.declared.fault.TableFault.{TableFault}
use Rattle.table_file.specs.declared.fault.TableFault.TheVariants.{Exists, CatalogFull, RowTooWide, NoTable, BadField, TableFull, NotStore, Failed, Memory}
use Rattle.table_file.specs.declared.writer.TableWriter.{TableWriter}
use Rattle.table_file.proofs.Committing.{only_then}
use Rattle.table_file.proofs.Lists.{all_append}
use Rattle.table_file.proofs.StoreStands.{only_none}

-- What is done to a store while rows are added to a table, whether or not they are kept.
pub record IsAdding (a b : View Contents) (old new : TableWriter) : Type 0 where
  pub table : new.table ≡ old.table
  pub others : LeavesOnly a b (After OnlyTables a)
  pub behind : (s : Tables) → IsBehind s old → IsBehind s new
  pub keeps : (s : Tables) → IsBehind s old → EachImage a (HasTables s) → LeavesOnly a b (HasTables s)

pub adding_none : (a : View Contents) (w : TableWriter) → IsAdding a a w w
adding_none a w = record {
  table = refl;
  others = no_call a (λ m now. (m, now, only_none m));
  behind = λ s behind. behind;
  keeps = λ s behind each. no_call a each;
}

pub adding_then : {a b c : View Contents} {old mid new : TableWriter} → IsAdding a b old mid → IsAdding b c mid new → IsAdding a c old new
adding_then first second = record {
  table = second.table ∙ first.table;
  others = only_then first.others second.others;
  behind = λ s behind. second.behind s (first.behind s behind);
  keeps = λ s behind each.
      let before = first.keeps s behind each in
      and_then before (second.keeps s (first.behind s behind) (each_now before)) (λ m has. has);
}

-- These rows are added.
pub record HasPushed (columns : List Column) (rows : List (List Value)) (a b : View Contents) (old new : TableWriter) : Type 0 where
  pub counted : (before : List (List Value)) → HasCounted columns before old → HasCounted columns (before ++ rows) new
  pub added : (before : List (List Value)) → (a.honest → HasAdded columns before old a.seen) → b.honest → HasAdded columns (before ++ rows) new b.seen
  pub texts : AllByRecursion AreTexts rows

pub pushed_none : (columns : List Column) (a : View Contents) (w : TableWriter) → HasPushed columns [] a a w w
pushed_none columns a w = record {
  counted = λ before counted. subst (λ (l : List (List Value)). HasCounted columns l w) (sym (append-nil before)) counted;
  added = λ before added honest. subst (λ (l : List (List Value)). HasAdded columns l w a.seen) (sym (append-nil before)) (added honest);
  texts = tt;
}

pub pushed_then : {a b c : View Contents} {old mid new : TableWriter} (columns : List Column) (rows more : List (List Value)) → HasPushed columns rows a b old mid → HasPushed columns more b c mid new
    → HasPushed columns (rows ++ more) a c old new
pushed_then {c = c} {new = new} columns rows more first second = record {
  counted = λ before counted.
      subst (λ (l : List (List Value)). HasCounted columns l new) (append_assoc before rows more) (second.counted (before ++ rows) (first.counted before counted));
  added = λ before added honest.
      subst (λ (l : List (List Value)). HasAdded columns l new c.seen) (append_assoc before rows more) (second.added (before ++ rows) (first.added before added) honest);
  texts = all_append AreTexts rows more first.texts second.texts;
}

-- the rows so far, with the next
pub next_row : (rows : List (List Value)) (i : ℕ) (row : List Value) → i < length rows → row ≡ get_or rows i row → take i rows ++ row ∷ [] ≡ take (i + 1) rows
next_row rows i row low is =
    let one : suc i ≡ i + 1 = omega arith in
    ap (λ (x : List Value). take i rows ++ x ∷ []) is ∙ sym (take-suc rows i row low) ∙ ap (λ (n : ℕ). take n rows) one

-- of a fault of a push
pub push_fault : (full : Bool) (fault : TableFault) → IsPushFault full fault → (fault ≡ Failed) ⊎ ((fault ≡ TableFull) × (full ≡ true))
push_fault full TableFull is = inr (refl, is)
push_fault full Failed is = inl refl
push_fault full Exists is = absurd is
push_fault full CatalogFull is = absurd is
push_fault full (RowTooWide bytes) is = absurd is
push_fault full NoTable is = absurd is
push_fault full (BadField line column) is = absurd is
push_fault full (NotStore page) is = absurd is
push_fault full Memory is = absurd is

-- there is no room for rows, where there is none for the first of them
pub none_fit : (sizes : Sizes) (columns : List Column) (before rows : List (List Value)) (i : ℕ)
    → ((some more : List (List Value)) → exceeds sizes columns some ≡ true → exceeds sizes columns (some ++ more) ≡ true)
    → exceeds sizes columns (before ++ take (i + 1) rows) ≡ true → exceeds sizes columns (before ++ rows) ≡ true
none_fit sizes columns before rows i law full =
    subst (λ (l : List (List Value)). exceeds sizes columns l ≡ true)
    (append_assoc before (take (i + 1) rows) (drop (i + 1) rows) ∙ ap (λ (l : List (List Value)). before ++ l) (take-append-drop (i + 1) rows))
    (law (before ++ take (i + 1) rows) (drop (i + 1) rows) full)
