-- No public clause cites this file. Pages of a memory that are kept by their indices. In each definition the first list has the
-- numbers of the mapped pages.
use Rattle.std.specs.Prelude.{◌≡◌, ℕ, ◌+◌, ◌≤◌, ◌<◌, List, [], ◌∷◌, length, take, drop, slice_index}
use Rattle.rv_pages.specs.Memory.{Memory, page_bytes, IsZeroPage}

-- the pages from one index up to below another are zero
abbrev pub AreZero : List ℕ → Memory → ℕ → ℕ → Type 0
AreZero numbers m from to = (k : ℕ) → from ≤ k → k < to → IsZeroPage m (slice_index numbers k)

-- Of the pages from an index on, those at these indices have these bytes, in order. All others are zero.
abbrev pub KeepsFrom : List ℕ → Memory → ℕ → List ℕ → List ℕ → Type 0
KeepsFrom numbers m from [] bytes = AreZero numbers m from (length numbers)
KeepsFrom numbers m from (index ∷ indices) bytes =
    (from ≤ index) × (index < length numbers) × AreZero numbers m from index × (4096 ≤ length bytes) ×
    (page_bytes m (slice_index numbers index) ≡ take 4096 bytes) × KeepsFrom numbers m (index + 1) indices (drop 4096 bytes)

-- two memories have equal bytes in the pages before an index
abbrev pub HaveSamePages : List ℕ → Memory → Memory → ℕ → Type 0
HaveSamePages numbers m n to = (k : ℕ) → k < to → page_bytes n (slice_index numbers k) ≡ page_bytes m (slice_index numbers k)
