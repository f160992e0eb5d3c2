-- The calls of a keeper in memory that are made to fail.
use Rattle.std.specs.Prelude.{ℕ, List, Contains}
use Rattle.keepers.specs.Counts.{raised}
use Rattle.keepers.specs.declared.memory_keeper.Op.{Op}

-- The call after so many of its kind is one of the list. The calls of a kind are counted from 1.
abbrev pub IsListed : List (Op × ℕ) → Op → ℕ → Type 0
IsListed failing op before = Contains failing (op, raised before 1)
