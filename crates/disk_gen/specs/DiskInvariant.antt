-- No public clause cites this file. The invariant of the numbers in memory, and their model.
use Rattle.std.specs.Prelude.{◌≡◌, ℕ, ◌+◌, ◌<◌, ◌≤◌, ◌^◌, min, All, List, length, map, slice_index}
use Rattle.cost_tables.specs.Entries.{least_split}
use Rattle.cost_tables.specs.TableRows.{value_of}
use Rattle.disk_gen.specs.declared.disk_tables.DiskTables.TheInside.{Inside}
use Rattle.disk_gen.specs.DiskRows.{DiskRows}

-- The costs of stretches whose first state is held on level 1, over those of level 0 alone. Row r is for r + 1 steps.
pub record IsHeldColumn (forward read : ℕ) (fast held : List ℕ) : Type 0 where
  pub low : All (λ n. n ≤ 2 ^ 62) held
  pub value : (r : ℕ) → r < length held → slice_index held r ≡ read + min (slice_index fast r) (least_split forward (slice_index fast) (slice_index held) r r)

-- the costs of stretches whose first state is in work
pub record IsFreshColumn (forward write : ℕ) (fast held fresh : List ℕ) : Type 0 where
  pub low : All (λ n. n ≤ 2 ^ 61) fresh
  pub value : (r : ℕ) → r < length fresh →
      slice_index fresh r ≡ min (slice_index fast r) (write + least_split forward (slice_index fresh) (slice_index held) r r)

abbrev pub view_of : Inside → DiskRows
view_of t = record {
  fast = t.fast;
  disk_fresh = map value_of t.disk_fresh.items;
  disk_held = map value_of t.disk_held.items;
}

-- level 0 alone has rows, and there are as many entries over both levels as steps
pub record AreWholeDisk (t : Inside) : Type 0 where
  pub one_level : length t.fast.rooms ≡ 1
  pub fresh_count : length t.disk_fresh.items ≡ t.fast.steps
  pub held_count : length t.disk_held.items ≡ t.fast.steps
