-- What contracts see of a source and a sink in memory.
use Rattle.std.specs.Prelude.{ℕ, List}

-- The bytes that are left, how many calls came, which calls fail (counted from 0), and how many failed.
pub record SourceState : Type 0 where
  pub left : List ℕ
  pub calls : ℕ
  pub failing : List ℕ
  pub faults : ℕ

-- The bytes that were given, how many it takes in all, how many calls came, which calls fail, and how many failed.
pub record SinkState : Type 0 where
  pub given : List ℕ
  pub room : ℕ
  pub calls : ℕ
  pub failing : List ℕ
  pub faults : ℕ
