-- The rows of numbers on the disk.
use Rattle.std.specs.Prelude.{◌≡◌, ℕ, ◌+◌, ◌*◌, ◌<◌, ◌≤◌, ℤ, pos, List, length, take}
use Rattle.std.specs.Int.{cast_unsigned, w64}
use Rattle.std.specs.List.{slice_index_or}
use Rattle.byteorder.specs.Endian.{little_bytes}
use Rattle.qsr_value.specs.Causes.{count_after}
use Rattle.disk_model.specs.Image.{Image, Holds}
use Rattle.row_script.specs.declared.turns.TheConstants.{ROW_BYTES}
use Rattle.row_script.specs.declared.script_line.ScriptLine.{ScriptLine}
use Rattle.row_script.specs.declared.numbers.Numbers.{Numbers}
use Rattle.row_script.specs.Machine.{no_numbers, numbers_after}

-- the bytes of a row: 64 bits, the lowest byte first
unfoldable pub row_bytes : ℤ → List ℕ
row_bytes value = little_bytes 8 (cast_unsigned w64 value)

-- the first n rows stand in the first n places
pub record HasRows (rows : List ℤ) (n : ℕ) (c : Image) : Type 0 where
  pub each : (k : ℕ) → k < n → Holds c (ROW_BYTES * k) (row_bytes (slice_index_or rows k (pos 0)))

-- the acknowledged rows stand there
abbrev pub HasNumbers : Numbers → Image → Type 0
HasNumbers numbers c = HasRows numbers.rows numbers.acknowledged c

-- the rows that are acknowledged after some of the lines, from the first on
pub record HasSome (size : ℕ) (lines : List ScriptLine) (c : Image) : Type 0 where
  pub count : ℕ
  pub within : count ≤ length lines
  pub rows : HasNumbers (numbers_after size no_numbers (take count lines)) c

-- Each row that is newly acknowledged was a device write of its own, and there was no other: by how many rows were
-- acknowledged before and after, and by the disk's count of writes.
pub record WritesRows (before after old new : ℕ) : Type 0 where
  pub rows : ℕ
  pub more : after ≡ before + rows
  pub each : new ≡ count_after rows old
