-- What `format` says and leaves.
use Rattle.std.specs.Prelude.{◌≡◌, ℕ, ◌*◌, ◌<◌, ◌≤◌, List, ◌++◌, sum, Option, codes}
use Rattle.std.specs.Fmt.{decimal}
use Rattle.disk_model.specs.Image.{Image}
use Rattle.disk_model.specs.View.{View, EachImage}
use Rattle.page_store.specs.Format.{IsNew}
use Rattle.page_store.specs.Opening.{IsEmptyStore}
use Rattle.page_store.specs.Store.{contents_view}
use Rattle.table_file.specs.Tables.{no_tables}
use Rattle.qsr_top.specs.Stored.{StandsFor}
use Rattle.page_store.specs.PageOrder.{parts}
use Rattle.page_store.specs.declared.pages.Sizes.{Sizes}
use Rattle.qsr_value.specs.Causes.{RoseByOne}
use Rattle.row_script.specs.declared.end.End.{End}
use Rattle.row_script.specs.declared.end.End.TheVariants.{Finished, BadLine, Usage, Refused, NotStore, DiskFault, SourceFault, SinkFault, NoMemory}
use Rattle.row_script.specs.Ends.{end_text}
use Rattle.qsr_top.specs.Told.{IsTold}

-- how many bytes a store of these sizes needs
abbrev pub bytes_needed : Sizes → ℕ
bytes_needed sizes = 4096 * sum (parts sizes)

abbrev pub formatted_text : ℕ → List ℕ
formatted_text pages = codes "formatted " ++ (decimal pages ++ codes " pages\n")

abbrev pub too_small_text : ℕ → ℕ → List ℕ
too_small_text need have = codes "too small need " ++ (decimal need ++ (codes " have " ++ (decimal have ++ codes "\n")))

-- what it says where it has come to this end, over a disk of so many bytes
abbrev pub format_text : Sizes → ℕ → End → List ℕ
format_text sizes size Finished = formatted_text (sum (parts sizes))
format_text sizes size Refused = too_small_text (bytes_needed sizes) size
format_text sizes size NotStore = end_text NotStore
format_text sizes size BadLine = end_text BadLine
format_text sizes size Usage = end_text Usage
format_text sizes size DiskFault = end_text DiskFault
format_text sizes size SourceFault = end_text SourceFault
format_text sizes size SinkFault = end_text SinkFault
format_text sizes size NoMemory = end_text NoMemory

-- each image that a crash now may leave is an empty store, byte by byte: it stands for no tables, and each job is free
pub record IsEmpty (sizes : Sizes) (size : ℕ) (disk : View Image) : Type 0 where
  pub bytes : EachImage disk (IsNew sizes)
  pub empty : EachImage (contents_view sizes disk) (IsEmptyStore size sizes)
  pub tables : StandsFor size sizes no_tables disk

-- The ends that it comes to, and what each leaves: it is refused exactly where the disk is too small. Where it has
-- formatted the disk and memory was wanting for what it says, the store is there.
abbrev pub FormatsTo : Sizes → ℕ → View Image → End → Type 0
FormatsTo sizes size disk Finished = (bytes_needed sizes ≤ size) × IsEmpty sizes size disk
FormatsTo sizes size disk Refused = size < bytes_needed sizes
FormatsTo sizes size disk NotStore = ⊥
FormatsTo sizes size disk DiskFault = bytes_needed sizes ≤ size
FormatsTo sizes size disk NoMemory = bytes_needed sizes ≤ size → IsEmpty sizes size disk
FormatsTo sizes size disk BadLine = ⊥
FormatsTo sizes size disk Usage = ⊥
FormatsTo sizes size disk SourceFault = ⊥
FormatsTo sizes size disk SinkFault = ⊥

-- the disk's count of faults rose by one where its fault is told, and else stood
abbrev pub FormatCause : End → ℕ → ℕ → Type 0
FormatCause DiskFault old new = RoseByOne old new
FormatCause Finished old new = new ≡ old
FormatCause Refused old new = new ≡ old
FormatCause NotStore old new = ⊥
FormatCause NoMemory old new = new ≡ old
FormatCause BadLine old new = ⊥
FormatCause Usage old new = ⊥
FormatCause SourceFault old new = ⊥
FormatCause SinkFault old new = ⊥

-- A run of `format` over a disk of so many bytes, by what the sink had been given and has, the disk, and the counts of
-- faults of the disk and the sink.
pub record Formatted (sizes : Sizes) (size : ℕ) (given given' : Option (List ℕ)) (disk : View Image) (disk_old disk_new sink_old sink_new : ℕ) (end : End) : Type 0 where
  -- the end that was to be told
  pub told : End
  pub formats : FormatsTo sizes size disk told
  pub cause : FormatCause told disk_old disk_new
  pub tells : IsTold (format_text sizes size told) told end given given' sink_old sink_new
