-- All that counts have a cost for.
use Rattle.std.specs.Prelude.{ℕ, ◌+◌, List, sum}

-- forward steps, reversed steps, and the writes and the reads of all levels, together
abbrev pub all_counted : ℕ → ℕ → List ℕ → List ℕ → ℕ
all_counted forward reversed writes reads = forward + reversed + sum writes + sum reads
