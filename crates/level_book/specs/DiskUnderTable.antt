-- Disk under-tables: tables of costs that no list of the disk class undercuts. The clauses are the recurrences for the
-- least costs of DiskRevolve, as inequalities. Source: Aupy, Herrmann, Hovland and Robert, "Optimal multistage
-- algorithm for adjoint computation", SIAM Journal on Scientific Computing 38, 2016. Their form is our own.
use Rattle.std.specs.Prelude.{ℕ, zero, suc, ◌+◌, ◌*◌, ◌<◌, ◌≤◌}
use Rattle.level_book.specs.BookCosts.{BookCosts, room}
use Rattle.level_book.specs.UnderTable.{Entry, number, IsAtMost, sum_of, write_cost, read_cost}

-- Costs of a stretch of l steps. `fresh l m` and `held l m` use m free slots of level 0 and don't write level 1. In
-- `fresh` the first state is in work. In `held` it is held on level 0, beside the m slots. `disk_fresh l` and
-- `disk_held l` use all slots of level 0. In `disk_fresh` the first state is in work, and level 1 may be written. In
-- `disk_held` the first state is held on level 1.
pub record DiskTables : Type 0 where
  pub fresh : ℕ → ℕ → Entry
  pub held : ℕ → ℕ → Entry
  pub disk_fresh : ℕ → Entry
  pub disk_held : ℕ → Entry

-- The tables meet ten clauses, for stretches of at most so many steps. Each field is a clause.
pub record IsDiskUnderTable (steps : ℕ) (book : BookCosts) (t : DiskTables) : Type 0 where
  -- The clauses of level 0, as in an under-table, numbered 1, 3, 4, 5 and 7 in this order.
  pub one_fresh : (m : ℕ) → 1 ≤ steps → m ≤ room book 0 steps → IsAtMost (t.fresh 1 m) (number (book.forward + book.reverse))
  pub split_fresh : (j l m : ℕ) → 1 ≤ j → 1 ≤ l → j + l ≤ steps → suc m ≤ room book 0 steps →
      IsAtMost (t.fresh (j + l) (suc m)) (sum_of (write_cost book 0 + j * book.forward) (t.fresh l m) (t.held j m))
  pub stored_fresh : (l m : ℕ) → 1 ≤ l → l ≤ steps → suc m ≤ room book 0 steps →
      IsAtMost (t.fresh l (suc m)) (sum_of (write_cost book 0) (number 0) (t.held l m))
  pub one_held : (m : ℕ) → m < room book 0 steps → IsAtMost (t.held 1 m) (number (read_cost book 0 + book.forward + book.reverse))
  pub split_held : (j l m : ℕ) → 1 ≤ j → 1 ≤ l → j + l ≤ steps → m < room book 0 steps →
      IsAtMost (t.held (j + l) m) (sum_of (read_cost book 0 + j * book.forward) (t.fresh l m) (t.held j m))
  -- The clauses of level 1, numbered from 11 in this order. Level 0 alone is used;
  pub fast_disk : (l : ℕ) → 1 ≤ l → l ≤ steps → IsAtMost (t.disk_fresh l) (t.fresh l (room book 0 steps))
  -- the first state is stored, and the stretch is split after j steps;
  pub split_disk : (j l : ℕ) → 1 ≤ j → 1 ≤ l → j + l ≤ steps →
      IsAtMost (t.disk_fresh (j + l)) (sum_of (write_cost book 1 + j * book.forward) (t.disk_fresh l) (t.disk_held j))
  -- the first state is stored, and the stretch isn't split;
  pub stored_disk : (l : ℕ) → 1 ≤ l → l ≤ steps → IsAtMost (t.disk_fresh l) (sum_of (write_cost book 1) (number 0) (t.disk_held l))
  -- the first state is read for the last time, and level 0 alone is used;
  pub moved_disk : (l : ℕ) → 1 ≤ l → l ≤ steps → IsAtMost (t.disk_held l) (sum_of (read_cost book 1) (number 0) (t.fresh l (room book 0 steps)))
  -- The first state is read, and the stretch is split after j steps. The later part uses level 0 alone.
  pub copied_disk : (j l : ℕ) → 1 ≤ j → 1 ≤ l → j + l ≤ steps →
      IsAtMost (t.disk_held (j + l)) (sum_of (read_cost book 1 + j * book.forward) (t.fresh l (room book 0 steps)) (t.disk_held j))

-- the entry for all steps
abbrev pub disk_top_entry : ℕ → DiskTables → Entry
disk_top_entry zero t = number 0
disk_top_entry (suc n) t = t.disk_fresh (suc n)

-- A disk under-table whose entries are the greatest: each is at least that of every disk under-table.
pub record IsGreatestDisk (steps : ℕ) (book : BookCosts) (t : DiskTables) : Type 0 where
  pub under : IsDiskUnderTable steps book t
  pub fresh : (s : DiskTables) → IsDiskUnderTable steps book s → (l m : ℕ) → 1 ≤ l → l ≤ steps → m ≤ room book 0 steps → IsAtMost (s.fresh l m) (t.fresh l m)
  pub held : (s : DiskTables) → IsDiskUnderTable steps book s → (l m : ℕ) → 1 ≤ l → l ≤ steps → m < room book 0 steps → IsAtMost (s.held l m) (t.held l m)
  pub disk_fresh : (s : DiskTables) → IsDiskUnderTable steps book s → (l : ℕ) → 1 ≤ l → l ≤ steps → IsAtMost (s.disk_fresh l) (t.disk_fresh l)
  pub disk_held : (s : DiskTables) → IsDiskUnderTable steps book s → (l : ℕ) → 1 ≤ l → l ≤ steps → IsAtMost (s.disk_held l) (t.disk_held l)
