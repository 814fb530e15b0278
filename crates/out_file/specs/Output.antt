-- Output files: the rows of a job, in its output area.
use Rattle.std.specs.Prelude.{◌≡◌, ◌≢◌, ℕ, ◌+◌, ◌%◌, ◌<◌, List, length, take, drop}
use Rattle.page_store.specs.PageOrder.{job_part}
use Rattle.page_store.specs.Store.{AreaHolds, Contents}
use Rattle.qsr_value.specs.Encoding.{encoded_row}
use Rattle.qsr_value.specs.declared.schema.Column.{Column}
use Rattle.qsr_value.specs.declared.row.Value.{Value}
use Rattle.row_page.specs.Framed.{rows_bytes}
use Rattle.out_file.specs.declared.file.OutFile.{OutFile}

-- the output area of a job begins with these bytes · with these rows
abbrev pub OutHolds : ℕ → List ℕ → Contents → Type 0
OutHolds job bytes m = AreaHolds (job_part job 4) 0 bytes m

abbrev pub HasOutRows : ℕ → List Column → List (List Value) → Contents → Type 0
HasOutRows job schema rows m = OutHolds job (rows_bytes (encoded_row schema) rows) m

-- Of a store only the output area of a job is written, and of that only bytes from this one on.
pub record OutGrows (job at : ℕ) (old new : Contents) : Type 0 where
  pub head : new.head ≡ old.head
  pub bodies : new.body ≡ old.body
  pub others : (b : ℕ) → b ≢ job_part job 4 → new.area b ≡ old.area b
  pub below : (i : ℕ) → i < at → new.area (job_part job 4) i ≡ old.area (job_part job 4) i

-- how many bytes the rows of an output file have · those of its bytes that are held back, at their places in a page
abbrev pub out_end : OutFile → ℕ
out_end out = out.written + out.held

abbrev pub held_bytes : OutFile → List ℕ
held_bytes out = take out.held (drop (out.written % 4096) out.page)

-- An output file has these rows: they are counted, and their bytes stand in the area, but for the last of them, which are
-- held back.
pub record HasOut (schema : List Column) (rows : List (List Value)) (out : OutFile) (m : Contents) : Type 0 where
  pub count : out.rows ≡ length rows
  pub long : length (rows_bytes (encoded_row schema) rows) ≡ out_end out
  pub held : drop out.written (rows_bytes (encoded_row schema) rows) ≡ held_bytes out
  pub stands : OutHolds out.job (take out.written (rows_bytes (encoded_row schema) rows)) m
