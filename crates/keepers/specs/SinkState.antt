-- The model of a sink in memory.
use Rattle.std.specs.Prelude.{ℕ, List}

-- the bytes that it took, its room in bytes, the failing calls, and the counts of calls and faults
pub record SinkState : Type 0 where
  pub bytes : List ℕ
  pub room : ℕ
  pub failing : List ℕ
  pub calls : ℕ
  pub faults : ℕ
