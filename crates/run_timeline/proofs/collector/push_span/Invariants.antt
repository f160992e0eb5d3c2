use Rattle.std.proofs.Common.{◌≡◌, ℕ, List, ◌++◌, Some}
use Rattle.rv_pages.specs.Memory.{bytes_at}
use Rattle.run_timeline.proofs.collector.push_span.Given as goal

-- the bytes at the addresses so far were added
abbrev pub invariant-loop-k : goal.invariant-loop-k
invariant-loop-k l = (bytes : List ℕ) × ((bytes_at l.pages l.span.at l.k ≡ Some bytes) × (l.out.items ≡ l.initial.out.items ++ bytes))
