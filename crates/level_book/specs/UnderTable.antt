-- Under-tables: tables of costs that no list of the nested class undercuts. The clauses are the recurrences for
-- H-Revolve's least costs, as inequalities. Source: Herrmann and Pallez, "H-Revolve: a framework for adjoint
-- computation on synchronous hierarchical platforms", ACM Transactions on Mathematical Software 46, 2020. Their form is
-- our own.
use Rattle.std.specs.Prelude.{ℕ, zero, suc, ◌+◌, ◌-◌, ◌*◌, ◌<◌, ◌≤◌, map, length, slice_index_or}
use Rattle.level_book.specs.BookCosts.{BookCosts, room}

-- an entry of a table: a number, or Never, which is above every number
pub data Entry : Type 0 where
  number : ℕ → Entry
  never : Entry

-- an entry is at most another
abbrev pub IsAtMost : Entry → Entry → Type 0
IsAtMost a never = Unit {0}
IsAtMost (number a) (number b) = a ≤ b
IsAtMost never (number b) = ⊥

-- the sum of a number and two entries, Never where one of them is
abbrev pub sum_of : ℕ → Entry → Entry → Entry
sum_of n (number a) (number b) = number (n + a + b)
sum_of n (number a) never = never
sum_of n never b = never

-- what it costs to write an image on level k, and to read one there
abbrev pub write_cost : BookCosts → ℕ → ℕ
write_cost book k = slice_index_or (map (λ level. level.write) book.levels) k 0

abbrev pub read_cost : BookCosts → ℕ → ℕ
read_cost book k = slice_index_or (map (λ level. level.read) book.levels) k 0

-- Costs of l steps at level k, with m of its slots free and all faster levels empty. In `fresh k l m` the first state
-- is in work. In `held k l m` it is held on level k, beside the m slots.
pub record Tables : Type 0 where
  pub fresh : ℕ → ℕ → ℕ → Entry
  pub held : ℕ → ℕ → ℕ → Entry

-- The tables meet seven clauses, for stretches of at most so many steps. Each field is a clause. They are numbered from
-- 1 in this order.
pub record IsUnderTable (steps : ℕ) (book : BookCosts) (t : Tables) : Type 0 where
  -- the one step is taped and reversed
  pub one_fresh : (k m : ℕ) → 1 ≤ steps → k < length book.levels → m ≤ room book k steps → IsAtMost (t.fresh k 1 m) (number (book.forward + book.reverse))
  -- the faster levels alone are used
  pub faster_fresh : (k l m : ℕ) → suc k < length book.levels → 1 ≤ l → l ≤ steps → m ≤ room book (suc k) steps →
      IsAtMost (t.fresh (suc k) l m) (t.fresh k l (room book k steps))
  -- the first state is stored, and the stretch is split after j steps
  pub split_fresh : (k j l m : ℕ) → k < length book.levels → 1 ≤ j → 1 ≤ l → j + l ≤ steps → suc m ≤ room book k steps →
      IsAtMost (t.fresh k (j + l) (suc m)) (sum_of (write_cost book k + j * book.forward) (t.fresh k l m) (t.held k j m))
  -- the first state is stored, and the stretch isn't split
  pub stored_fresh : (k l m : ℕ) → k < length book.levels → 1 ≤ l → l ≤ steps → suc m ≤ room book k steps →
      IsAtMost (t.fresh k l (suc m)) (sum_of (write_cost book k) (number 0) (t.held k l m))
  -- the first state is read, and the one step is taped and reversed
  pub one_held : (k m : ℕ) → k < length book.levels → m < room book k steps →
      IsAtMost (t.held k 1 m) (number (read_cost book k + book.forward + book.reverse))
  -- the first state is read for the last time, and the faster levels alone are used
  pub faster_held : (k l m : ℕ) → suc k < length book.levels → 1 ≤ l → l ≤ steps → m < room book (suc k) steps →
      IsAtMost (t.held (suc k) l m) (sum_of (read_cost book (suc k)) (number 0) (t.fresh k l (room book k steps)))
  -- the first state is read, and the stretch is split after j steps
  pub split_held : (k j l m : ℕ) → k < length book.levels → 1 ≤ j → 1 ≤ l → j + l ≤ steps → m < room book k steps →
      IsAtMost (t.held k (j + l) m) (sum_of (read_cost book k + j * book.forward) (t.fresh k l m) (t.held k j m))

-- the entry of the slowest level with all its slots, for all steps
abbrev pub top_entry : ℕ → BookCosts → Tables → Entry
top_entry zero book t = number 0
top_entry (suc n) book t = t.fresh (length book.levels - 1) (suc n) (room book (length book.levels - 1) (suc n))

-- An under-table whose entries are the greatest: each is at least that of every under-table.
pub record IsGreatest (steps : ℕ) (book : BookCosts) (t : Tables) : Type 0 where
  pub under : IsUnderTable steps book t
  pub fresh : (s : Tables) → IsUnderTable steps book s → (k l m : ℕ) → k < length book.levels → 1 ≤ l → l ≤ steps → m ≤ room book k steps →
      IsAtMost (s.fresh k l m) (t.fresh k l m)
  pub held : (s : Tables) → IsUnderTable steps book s → (k l m : ℕ) → k < length book.levels → 1 ≤ l → l ≤ steps → m < room book k steps →
      IsAtMost (s.held k l m) (t.held k l m)
