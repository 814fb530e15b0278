-- What `format` says and leaves.
use Rattle.std.proofs.Common.{◌≡◌, ℕ, ◌<◌, ◌≤◌, List, [], Option, arith, subst, ap, ◌∙◌}
use Rattle.std.specs.Prelude.{Result, IfOk, OnErr, Some, slice_get, sum}
use Rattle.std.specs.Prelude.Result.{Ok, Err}
use Rattle.disk_model.specs.Image.{Image}
use Rattle.disk_model.specs.View.{View, EachImage}
use Rattle.page_store.specs.Format.{IsNew}
use Rattle.page_store.specs.Opening.{IsEmptyStore}
use Rattle.page_store.specs.PageOrder.{parts}
use Rattle.page_store.specs.Store.{Contents, contents_of, contents_view}
use Rattle.page_store.specs.declared.pages.Sizes.{Sizes}
use Rattle.table_file.specs.CatalogueBytes.{catalogue_bytes}
use Rattle.table_file.specs.Tables.{catalogue_of, no_tables}
use Rattle.row_script.specs.declared.end.End.{End}
use Rattle.row_script.specs.declared.end.End.TheVariants.{Finished, Refused, NoMemory}
use Rattle.row_script.specs.Ends.{end_text}
use Rattle.qsr_top.specs.Format.{Formatted, IsEmpty, bytes_needed, formatted_text, too_small_text}
use Rattle.qsr_top.specs.Stored.{Stands}
use Rattle.qsr_top.specs.Told.{IsTold}

pub Formatted-small : {T E : Type 0} (bytes_of : T → List ℕ) (text : Result T E) (sizes : Sizes) (size need have : ℕ) (end : End) (given given' : Option (List ℕ)) (disk : View Image)
    (faults faults' sink sink' : ℕ) → need ≡ bytes_needed sizes → have ≡ size → size < bytes_needed sizes → faults' ≡ faults
    → IfOk text (λ text. bytes_of text ≡ too_small_text need have)
    → IfOk text (λ text. IsTold (bytes_of text) Refused end given given' sink sink')
    → OnErr text (IsTold (end_text NoMemory) NoMemory end given given' sink sink')
    → Formatted sizes size given given' disk faults faults' sink sink' end
Formatted-small bytes_of (Ok text) sizes size need have end given given' disk faults faults' sink sink' needs has small same is tells none = record {
  told = Refused;
  formats = small;
  cause = same;
  tells = subst (λ (text : List ℕ). IsTold text Refused end given given' sink sink') (is ∙ ap (λ need. too_small_text need have) needs ∙ ap (too_small_text (bytes_needed sizes)) has) tells;
}
Formatted-small bytes_of (Err error) sizes size need have end given given' disk faults faults' sink sink' needs has small same is tells none = record {
  told = NoMemory;
  formats = λ fits. absurd (omega (arith, small, fits));
  cause = same;
  tells = none;
}

-- an empty list has no item
nothing_there : {X : Type 0} (n : ℕ) (x : X) → slice_get [] n ≡ Some x → ⊥
nothing_there n x there = cc

-- an empty store has no tables
empty_stands : (size : ℕ) (sizes : Sizes) (m : Contents) → IsEmptyStore size sizes m → Stands size sizes no_tables m
unfolding catalogue_bytes catalogue_of
empty_stands size sizes m empty = record {
  store = empty.store;
  tables = record {
    catalogue = empty.catalogue;
    rows = λ number table there. absurd (nothing_there number table there);
  };
}

-- What `format` leaves.
pub is_empty : (size : ℕ) (sizes : Sizes) (disk : View Image) → EachImage disk (IsNew sizes) → EachImage disk (λ c. IsEmptyStore size sizes (contents_of sizes c)) → IsEmpty sizes size disk
unfolding contents_view
is_empty size sizes disk new each = record {
  bytes = new;
  empty = λ m left. subst (IsEmptyStore size sizes) left.2 (each left.0 left.1);
  tables = λ m left. empty_stands size sizes m (subst (IsEmptyStore size sizes) left.2 (each left.0 left.1));
}

pub Formatted-done : {T E : Type 0} (bytes_of : T → List ℕ) (text : Result T E) (sizes : Sizes) (size pages : ℕ) (end : End) (given given' : Option (List ℕ)) (disk : View Image)
    (faults faults' sink sink' : ℕ) → bytes_needed sizes ≤ size → IsEmpty sizes size disk → pages ≡ sum (parts sizes) → faults' ≡ faults
    → IfOk text (λ text. bytes_of text ≡ formatted_text pages)
    → IfOk text (λ text. IsTold (bytes_of text) Finished end given given' sink sink')
    → OnErr text (IsTold (end_text NoMemory) NoMemory end given given' sink sink')
    → Formatted sizes size given given' disk faults faults' sink sink' end
Formatted-done bytes_of (Ok text) sizes size pages end given given' disk faults faults' sink sink' fits empty count same is tells none = record {
  told = Finished;
  formats = (fits, empty);
  cause = same;
  tells = subst (λ (text : List ℕ). IsTold text Finished end given given' sink sink') (is ∙ ap formatted_text count) tells;
}
Formatted-done bytes_of (Err error) sizes size pages end given given' disk faults faults' sink sink' fits empty count same is tells none = record {
  told = NoMemory;
  formats = λ fits. empty;
  cause = same;
  tells = none;
}
