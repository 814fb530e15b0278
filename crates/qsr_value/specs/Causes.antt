-- When a fault of an outside object may be answered: by the object's count of its own faults.
use Rattle.std.specs.Prelude.{◌≡◌, ℕ, zero, suc, ◌+◌, ◌-◌, ◌^◌, ◌≤◌, min, Result, MatchResult}

-- one more, unless the count stands at the last value of u64
abbrev pub next_count : ℕ → ℕ
next_count n = min (n + 1) (2 ^ 64 - 1)

-- the count behind so many more calls
abbrev pub count_after : ℕ → ℕ → ℕ
count_after zero count = count
count_after (suc calls) count = next_count (count_after calls count)

-- a count rose by one, or stays at the last value of u64
pub record RoseByOne (old new : ℕ) : Type 0 where
  pub exact : new ≡ next_count old
  -- said beside it, since nothing else says that an object's count is within u64
  pub no_less : old ≤ new

-- of a call on the object itself, and of a function above whose one error is a fault of the object: the count stays
-- where the call succeeds, and rises by one where it fails
abbrev pub CountsFault : {T E : Type 0} → Result T E → ℕ → ℕ → Type 0
CountsFault result old new = MatchResult result (λ _. new ≡ old) (λ _. RoseByOne old new)

-- So many calls were counted at most. Said by their number, since nothing else says that an object's count is within u64.
pub record CountsAtMost (most old new : ℕ) : Type 0 where
  pub calls : ℕ
  pub few : calls ≤ most
  pub exact : new ≡ count_after calls old
