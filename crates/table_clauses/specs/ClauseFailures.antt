-- Which clause of an under-table fails, and where: the answer of a check of tables that aren't one. The clauses are
-- those of `UnderTable.antt` and `DiskUnderTable.antt` of level_book, with their numbers. The order of entries is our
-- own.
use Rattle.std.specs.Prelude.{◌≡◌, ◌⊎◌, ℕ, suc, ◌+◌, ◌*◌, ◌<◌, ◌≤◌, length}
use Rattle.level_book.specs.BookCosts.{BookCosts, room}
use Rattle.level_book.specs.UnderTable.{Entry, number, IsAtMost, sum_of, write_cost, read_cost, Tables}
use Rattle.level_book.specs.DiskUnderTable.{DiskTables}
use Rattle.table_clauses.specs.declared.entry.Entry.{Entry as Place}

-- an entry is above what a clause allows
abbrev pub IsAbove : Entry → Entry → Type 0
IsAbove a b = IsAtMost a b → ⊥

-- ---- which clause fails

-- clause n fails at the entry of table F for level k, m free slots and l steps
abbrev pub FreshFails : ℕ → BookCosts → Tables → ℕ → ℕ → ℕ → ℕ → Type 0
FreshFails steps book t k m l clause =
    ((clause ≡ 1) × (l ≡ 1) × IsAbove (t.fresh k 1 m) (number (book.forward + book.reverse)))
    ⊎ ((clause ≡ 2) × ((j : ℕ) × (suc j ≡ k) × IsAbove (t.fresh k l m) (t.fresh j l (room book j steps))))
    ⊎ ((clause ≡ 3) × ((n : ℕ) × (suc n ≡ m)
    × ((j : ℕ) × (i : ℕ) × (1 ≤ j) × (1 ≤ i) × (j + i ≡ l)
    × IsAbove (t.fresh k l m) (sum_of (write_cost book k + j * book.forward) (t.fresh k i n) (t.held k j n)))))
    ⊎ ((clause ≡ 4) × ((n : ℕ) × (suc n ≡ m) × IsAbove (t.fresh k l m) (sum_of (write_cost book k) (number 0) (t.held k l n))))

-- clause n fails at the entry of table H for level k, m free slots and l steps
abbrev pub HeldFails : ℕ → BookCosts → Tables → ℕ → ℕ → ℕ → ℕ → Type 0
HeldFails steps book t k m l clause =
    ((clause ≡ 5) × (l ≡ 1) × IsAbove (t.held k 1 m) (number (read_cost book k + book.forward + book.reverse)))
    ⊎ ((clause ≡ 6) × ((j : ℕ) × (suc j ≡ k) × IsAbove (t.held k l m) (sum_of (read_cost book k) (number 0) (t.fresh j l (room book j steps)))))
    ⊎ ((clause ≡ 7) × ((j : ℕ) × (i : ℕ) × (1 ≤ j) × (1 ≤ i) × (j + i ≡ l)
    × IsAbove (t.held k l m) (sum_of (read_cost book k + j * book.forward) (t.fresh k i m) (t.held k j m))))

-- The place is an entry, and its clause fails there. Table 0 is F and table 1 is H. The level is in the book, and the
-- steps and free slots are in range.
abbrev pub Breaks : ℕ → BookCosts → Tables → Place → Type 0
Breaks steps book t p =
    (p.level < length book.levels) × (1 ≤ p.steps) × (p.steps ≤ steps)
    × (((p.table ≡ 0) × (p.free ≤ room book p.level steps) × FreshFails steps book t p.level p.free p.steps p.clause)
    ⊎ ((p.table ≡ 1) × (p.free < room book p.level steps) × HeldFails steps book t p.level p.free p.steps p.clause))

-- ---- which comes first

-- one place comes before another: by table, level, free slots, steps, and last by clause
abbrev pub ComesBefore : Place → Place → Type 0
ComesBefore p q =
    (p.table < q.table) ⊎ ((p.table ≡ q.table) × (
    (p.level < q.level) ⊎ ((p.level ≡ q.level) × (
    (p.free < q.free) ⊎ ((p.free ≡ q.free) × (
    (p.steps < q.steps) ⊎ ((p.steps ≡ q.steps) × (p.clause < q.clause))))))))

-- the first place of those at which something is broken
pub record IsFirst (Broken : Place → Type 0) (p : Place) : Type 0 where
  pub broken : Broken p
  pub none_before : (q : Place) → ComesBefore q p → Broken q → ⊥

-- ---- disk tables

-- Table 2 is Fd and table 3 is Hd; their places have level 1 and no free slot. For tables F and H the level is 0.
abbrev pub DiskFreshFails : ℕ → BookCosts → DiskTables → ℕ → ℕ → Type 0
DiskFreshFails steps book t l clause =
    ((clause ≡ 11) × IsAbove (t.disk_fresh l) (t.fresh l (room book 0 steps)))
    ⊎ ((clause ≡ 12) × ((j : ℕ) × (i : ℕ) × (1 ≤ j) × (1 ≤ i) × (j + i ≡ l)
    × IsAbove (t.disk_fresh l) (sum_of (write_cost book 1 + j * book.forward) (t.disk_fresh i) (t.disk_held j))))
    ⊎ ((clause ≡ 13) × IsAbove (t.disk_fresh l) (sum_of (write_cost book 1) (number 0) (t.disk_held l)))

abbrev pub DiskHeldFails : ℕ → BookCosts → DiskTables → ℕ → ℕ → Type 0
DiskHeldFails steps book t l clause =
    ((clause ≡ 14) × IsAbove (t.disk_held l) (sum_of (read_cost book 1) (number 0) (t.fresh l (room book 0 steps))))
    ⊎ ((clause ≡ 15) × ((j : ℕ) × (i : ℕ) × (1 ≤ j) × (1 ≤ i) × (j + i ≡ l)
    × IsAbove (t.disk_held l) (sum_of (read_cost book 1 + j * book.forward) (t.fresh i (room book 0 steps)) (t.disk_held j))))

-- the tables of level 0 alone
abbrev pub fast_of : DiskTables → Tables
fast_of t = record { fresh = λ _. t.fresh; held = λ _. t.held }

abbrev pub DiskBreaks : ℕ → BookCosts → DiskTables → Place → Type 0
DiskBreaks steps book t p =
    (1 ≤ p.steps) × (p.steps ≤ steps)
    × (((p.table ≡ 0) × (p.level ≡ 0) × (p.free ≤ room book 0 steps) × FreshFails steps book (fast_of t) 0 p.free p.steps p.clause)
    ⊎ ((p.table ≡ 1) × (p.level ≡ 0) × (p.free < room book 0 steps) × HeldFails steps book (fast_of t) 0 p.free p.steps p.clause)
    ⊎ ((p.table ≡ 2) × (p.level ≡ 1) × (p.free ≡ 0) × DiskFreshFails steps book t p.steps p.clause)
    ⊎ ((p.table ≡ 3) × (p.level ≡ 1) × (p.free ≡ 0) × DiskHeldFails steps book t p.steps p.clause))
