-- The rows of disk tables are whole, and each entry has 64 bits.
use Rattle.std.specs.Prelude.{◌≡◌, ℕ, ◌≤◌, length}
use Rattle.cost_tables.specs.Shapes.{AreShaped, IsShort, AreShort}
use Rattle.disk_gen.specs.DiskRows.{DiskRows, disk_tables_in}

-- Those of level 0 are whole. Over both levels there is an entry for each number of steps, and nothing else.
pub record AreDiskShaped (t : DiskRows) : Type 0 where
  pub fast : AreShaped t.fast
  pub fresh_long : length t.disk_fresh ≡ t.fast.steps
  pub held_long : length t.disk_held ≡ t.fast.steps

-- each entry is Never or a number below 2^64
pub record AreDiskShort (t : DiskRows) : Type 0 where
  pub fast : AreShort t.fast
  pub fresh : (l : ℕ) → 1 ≤ l → l ≤ t.fast.steps → IsShort ((disk_tables_in t).disk_fresh l)
  pub held : (l : ℕ) → 1 ≤ l → l ≤ t.fast.steps → IsShort ((disk_tables_in t).disk_held l)
