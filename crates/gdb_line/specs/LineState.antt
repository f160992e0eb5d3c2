-- The model of a line in memory.
use Rattle.std.specs.Prelude.{ℕ, List}
use Rattle.gdb_line.specs.Talk.{Talk}

-- What went over it, the most bytes that come at once, and its room for outgoing bytes. Also the failing calls, and the
-- counts of calls and faults.
pub record LineState : Type 0 where
  pub talk : Talk
  pub most : ℕ
  pub room : ℕ
  pub failing : List ℕ
  pub calls : ℕ
  pub faults : ℕ
