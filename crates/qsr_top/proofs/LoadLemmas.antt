-- How the rows that are read come into a table, call by call.
use Rattle.std.proofs.Common.{◌≡◌, Bool, List, [], ◌∷◌, ◌++◌, refl, sym, subst, ◌∙◌, append_assoc, append-nil}
use Rattle.std.specs.List.{AllByRecursion}
use Rattle.disk_model.specs.View.{After, LeavesOnly, View}
use Rattle.disk_model.proofs.Runs.{and_then, each_now, no_call}
use Rattle.page_store.specs.Store.{Contents}
use Rattle.page_store.specs.declared.pages.Sizes.{Sizes}
use Rattle.qsr_value.specs.declared.row.Value.{Value}
use Rattle.qsr_value.specs.declared.schema.Column.{Column}
use Rattle.table_file.specs.Tables.{OnlyTables}
use Rattle.table_file.specs.declared.writer.TableWriter.{TableWriter}
use Rattle.table_file.proofs.Committing.{only_then}
use Rattle.qsr_top.proofs.CreateLemmas.{no_change}
use Rattle.qsr_top.specs.RowsRead.{IsLoading, LoadsRows, WritesBehind}

pub all_more : {A : Type 0} (P : A → Type 0) (xs : List A) (x : A) → AllByRecursion P xs → P x → AllByRecursion P (xs ++ x ∷ [])
all_more P [] x all last = (last, tt)
all_more P (first ∷ xs) x all last = (all.0, all_more P xs x all.1 last)

pub others-start : (v : View Contents) → LeavesOnly v v (After OnlyTables v)
others-start v = no_call v (λ c now. (c, now, no_change c))

pub WritesBehind-start : (v : View Contents) (w : TableWriter) → WritesBehind v v w w
WritesBehind-start v w = record {
  table = refl;
  behind = λ s behind. behind;
  keeps = λ s behind each. no_call v each;
  others = others-start v;
}

pub WritesBehind-then : {a b c : View Contents} {w w' w'' : TableWriter} → WritesBehind a b w w' → WritesBehind b c w' w'' → WritesBehind a c w w''
WritesBehind-then one other = record {
  table = other.table ∙ one.table;
  behind = λ s behind. other.behind s (one.behind s behind);
  keeps = λ s behind each. let first = one.keeps s behind each in and_then first (other.keeps s (one.behind s behind) (each_now first)) (λ i has. has);
  others = only_then one.others other.others;
}

pub LoadsRows-start : (sizes : Sizes) (columns : List Column) (full : Bool) (w : TableWriter) (v : View Contents) → LoadsRows sizes columns [] full w v full w v
LoadsRows-start sizes columns full w v before loading = subst (λ (rows : List (List Value)). IsLoading sizes columns rows full w v) (sym (append-nil before)) loading

pub LoadsRows-then : (sizes : Sizes) (columns : List Column) (rows more : List (List Value)) (full full' full'' : Bool) (w w' w'' : TableWriter) (v v' v'' : View Contents)
    → LoadsRows sizes columns rows full w v full' w' v' → LoadsRows sizes columns more full' w' v' full'' w'' v'' → LoadsRows sizes columns (rows ++ more) full w v full'' w'' v''
LoadsRows-then sizes columns rows more full full' full'' w w' w'' v v' v'' one other before loading =
    subst (λ (all : List (List Value)). IsLoading sizes columns all full'' w'' v'') (append_assoc before rows more) (other (before ++ rows) (one before loading))

-- the sizes stay
pub LoadsRows-sizes : (sizes now : Sizes) (columns : List Column) (rows : List (List Value)) (full full' : Bool) (w w' : TableWriter) (v v' : View Contents)
    → now ≡ sizes → LoadsRows now columns rows full w v full' w' v' → LoadsRows sizes columns rows full w v full' w' v'
LoadsRows-sizes sizes now columns rows full full' w w' v v' same loads = subst (λ (s : Sizes). LoadsRows s columns rows full w v full' w' v') same loads
