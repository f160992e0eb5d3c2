-- Counts of calls and of faults, which are u64. They only rise, and stop at the end of their type.
use Rattle.std.specs.Prelude.{ℕ, ◌+◌, ◌-◌, ◌^◌, ◌≤◌, min, max}

-- the greatest u64; the subtraction doesn't truncate, since 2 ^ 64 is more than 1
abbrev pub top : ℕ
top = 2 ^ 64 - 1

-- a number of calls after k more of them; it never falls
abbrev pub raised : ℕ → ℕ → ℕ
raised before k = max before (min (before + k) top)

-- a count of faults is greater than before the call, or is at its end
abbrev pub Rose : ℕ → ℕ → Type 0
Rose before now = raised before 1 ≤ now
