use Rattle.std.proofs.Common.{ℕ, ◌<◌, slice_index_or, None}
use Rattle.reverse_queries.specs.Queries.{Differ}
use Rattle.reverse_queries.proofs.memory_word.some_differ.Given as goal

-- the bytes before this one don't differ
abbrev pub invariant-loop-k : goal.invariant-loop-k
invariant-loop-k l = (j : ℕ) → j < l.k → Differ (slice_index_or l.before j None) (slice_index_or l.after j None) → ⊥
