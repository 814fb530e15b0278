-- What is told of a command on tables: its line, the end of the run, and its cause.
use Rattle.std.specs.Prelude.{◌≡◌, ◌⊎◌, ℕ, List, ◌++◌, Option, codes, ⊤}
use Rattle.std.specs.Fmt.{decimal}
use Rattle.std.specs.Io.KnownBytes.{Appends}
use Rattle.page_store.specs.declared.fault.StoreFault.{StoreFault}
use Rattle.page_store.specs.declared.fault.StoreFault.TheVariants as stores
use Rattle.qsr_io.specs.Given.{GivesFront}
use Rattle.qsr_value.specs.Causes.{RoseByOne}
use Rattle.input_lines.specs.declared.line_fault.LineFault.{LineFault}
use Rattle.input_lines.specs.declared.line_fault.LineFault.TheVariants as lines
use Rattle.table_file.specs.declared.fault.TableFault.{TableFault}
use Rattle.table_file.specs.declared.fault.TableFault.TheVariants as faults
use Rattle.row_script.specs.declared.end.End.{End}
use Rattle.row_script.specs.declared.end.End.TheVariants as ends
use Rattle.qsr_top.specs.declared.told.Told.{Told}
use Rattle.qsr_top.specs.declared.told.Told.TheVariants.{Created, Loaded, Exists, RowTooWide, CatalogueFull, NoTable, BadField, TableFull, BadLine, NotStore, DiskFault, SourceFault, NoMemory}
use Rattle.row_script.specs.Ends.{end_text}

-- its line, of a command on the table of this name
abbrev pub told_text : List ℕ → Told → List ℕ
told_text name Created = codes "created " ++ (name ++ codes "\n")
told_text name (Loaded rows) = codes "loaded " ++ (name ++ (codes " rows " ++ (decimal rows ++ codes "\n")))
told_text name Exists = codes "exists\n"
told_text name (RowTooWide bytes) = codes "row too wide " ++ (decimal bytes ++ codes "\n")
told_text name CatalogueFull = codes "catalogue full\n"
told_text name NoTable = codes "no table\n"
told_text name (BadField line column) = codes "bad field " ++ (decimal line ++ (codes " " ++ (decimal column ++ codes "\n")))
told_text name TableFull = codes "table full\n"
told_text name (BadLine number) = codes "bad line " ++ (decimal number ++ codes "\n")
told_text name (NotStore page) = codes "not a store, page " ++ (decimal page ++ codes "\n")
told_text name DiskFault = end_text ends.DiskFault
told_text name SourceFault = end_text ends.SourceFault
told_text name NoMemory = end_text ends.NoMemory

abbrev pub told_end : Told → End
told_end Created = ends.Finished
told_end (Loaded rows) = ends.Finished
told_end Exists = ends.Refused
told_end (RowTooWide bytes) = ends.Refused
told_end CatalogueFull = ends.Refused
told_end NoTable = ends.Refused
told_end (BadField line column) = ends.Refused
told_end TableFull = ends.Refused
told_end (BadLine number) = ends.BadLine
told_end (NotStore page) = ends.NotStore
told_end DiskFault = ends.DiskFault
told_end SourceFault = ends.SourceFault
told_end NoMemory = ends.NoMemory

-- memory is taken for its line
abbrev pub TakesMemory : Told → Type 0
TakesMemory Created = ⊤
TakesMemory (Loaded rows) = ⊤
TakesMemory (RowTooWide bytes) = ⊤
TakesMemory (BadField line column) = ⊤
TakesMemory (BadLine number) = ⊤
TakesMemory (NotStore page) = ⊤
TakesMemory Exists = ⊥
TakesMemory CatalogueFull = ⊥
TakesMemory NoTable = ⊥
TakesMemory TableFull = ⊥
TakesMemory DiskFault = ⊥
TakesMemory SourceFault = ⊥
TakesMemory NoMemory = ⊥

-- A text was written, and its end is answered; or the sink failed within the text.
abbrev pub IsTold : List ℕ → End → End → Option (List ℕ) → Option (List ℕ) → ℕ → ℕ → Type 0
IsTold text told end given given' faults faults' =
    ((end ≡ told) × Appends given given' text × (faults' ≡ faults)) ⊎ ((end ≡ ends.SinkFault) × GivesFront given given' text × RoseByOne faults faults')

-- Its line was written and its end is answered, or the sink failed within it; or there was no memory for the line, and that
-- is told so.
abbrev pub IsToldOr : List ℕ → Told → End → Option (List ℕ) → Option (List ℕ) → ℕ → ℕ → Type 0
IsToldOr name told end given given' faults faults' =
    IsTold (told_text name told) (told_end told) end given given' faults faults'
    ⊎ (TakesMemory told × IsTold (end_text ends.NoMemory) ends.NoMemory end given given' faults faults')

-- what is told of a fault of the store that is opened · of a call on its tables · of an input that isn't read as one line
abbrev pub told_of_opening : StoreFault → Told
told_of_opening (stores.TooSmall need have) = DiskFault
told_of_opening (stores.NotStore page) = NotStore page
told_of_opening stores.Failed = DiskFault

abbrev pub told_of_fault : TableFault → Told
told_of_fault faults.Exists = Exists
told_of_fault faults.CatalogFull = CatalogueFull
told_of_fault (faults.RowTooWide bytes) = RowTooWide bytes
told_of_fault faults.NoTable = NoTable
told_of_fault (faults.BadField line column) = BadField line column
told_of_fault faults.TableFull = TableFull
told_of_fault (faults.NotStore page) = NotStore page
told_of_fault faults.Failed = DiskFault
told_of_fault faults.Memory = NoMemory

abbrev pub told_of_line : LineFault → Told
told_of_line (lines.BadLine number) = BadLine number
told_of_line lines.Failed = SourceFault
told_of_line lines.Memory = NoMemory

-- the count of faults of the disk or the source rose by one where its fault is told, and else each stood
abbrev pub ToldCause : Told → ℕ → ℕ → ℕ → ℕ → Type 0
ToldCause DiskFault disk disk' source source' = RoseByOne disk disk' × (source' ≡ source)
ToldCause SourceFault disk disk' source source' = (disk' ≡ disk) × RoseByOne source source'
ToldCause Created disk disk' source source' = (disk' ≡ disk) × (source' ≡ source)
ToldCause (Loaded rows) disk disk' source source' = (disk' ≡ disk) × (source' ≡ source)
ToldCause Exists disk disk' source source' = (disk' ≡ disk) × (source' ≡ source)
ToldCause (RowTooWide bytes) disk disk' source source' = (disk' ≡ disk) × (source' ≡ source)
ToldCause CatalogueFull disk disk' source source' = (disk' ≡ disk) × (source' ≡ source)
ToldCause NoTable disk disk' source source' = (disk' ≡ disk) × (source' ≡ source)
ToldCause (BadField line column) disk disk' source source' = (disk' ≡ disk) × (source' ≡ source)
ToldCause TableFull disk disk' source source' = (disk' ≡ disk) × (source' ≡ source)
ToldCause (BadLine number) disk disk' source source' = (disk' ≡ disk) × (source' ≡ source)
ToldCause (NotStore page) disk disk' source source' = (disk' ≡ disk) × (source' ≡ source)
ToldCause NoMemory disk disk' source source' = (disk' ≡ disk) × (source' ≡ source)
