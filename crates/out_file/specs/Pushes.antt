-- Why a row isn't kept.
use Rattle.std.specs.Prelude.{◌≡◌, ◌⊎◌, ℕ, ◌+◌, ◌-◌, ◌%◌, ◌<◌, ◌≤◌}
use Rattle.qsr_value.specs.Causes.{RoseByOne, next_count}
use Rattle.out_file.specs.declared.fault.OutFault.{OutFault}
use Rattle.out_file.specs.declared.fault.OutFault.TheVariants.{OutFull, BadRow, Failed, Memory}

-- Of a fault of a push with so many bytes free: it is told that the output is full where fewer than 1,024 are free, and
-- else only that the disk failed.
abbrev pub IsOutPushFault : ℕ → OutFault → Type 0
IsOutPushFault free (OutFull told) = (told ≡ free) × (free < 1024)
IsOutPushFault free (BadRow at) = ⊥
IsOutPushFault free Failed = 1024 ≤ free
IsOutPushFault free Memory = ⊥

-- the count of the disk's faults rose by one where it is told that the disk failed, and else stood
abbrev pub PushCause : OutFault → ℕ → ℕ → Type 0
PushCause (OutFull told) old new = new ≡ old
PushCause (BadRow at) old new = new ≡ old
PushCause Failed old new = RoseByOne old new
PushCause Memory old new = new ≡ old

-- Of a push that keeps its row: what is written goes up to the end of a page, by one device write, or nothing is written.
abbrev pub WritesPage : ℕ → ℕ → ℕ → ℕ → Type 0
WritesPage at end old new = ((end ≡ at) × (new ≡ old)) ⊎ ((end ≡ at + (4096 - at % 4096)) × (new ≡ next_count old))

-- Of a fault of a listing: the count of the disk's faults or that of the sink's rose by one where it is told that one of
-- them failed, and else both stood.
abbrev pub ListingCause : OutFault → ℕ → ℕ → ℕ → ℕ → Type 0
ListingCause (OutFull told) old new sink_old sink_new = (new ≡ old) × (sink_new ≡ sink_old)
ListingCause (BadRow at) old new sink_old sink_new = (new ≡ old) × (sink_new ≡ sink_old)
ListingCause Failed old new sink_old sink_new = (RoseByOne old new × (sink_new ≡ sink_old)) ⊎ ((new ≡ old) × RoseByOne sink_old sink_new)
ListingCause Memory old new sink_old sink_new = (new ≡ old) × (sink_new ≡ sink_old)
