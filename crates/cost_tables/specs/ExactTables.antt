-- Tables whose entries are attained: some clause of an under-table gives exactly each entry. Lists are read by these
-- clauses. The greatest tables are like that. Readers of lists use this form.
use Rattle.std.specs.Prelude.{◌≡◌, ◌≢◌, ℕ, suc, ◌+◌, ◌-◌, ◌*◌, ◌<◌, ◌≤◌, length}
use Rattle.level_book.specs.BookCosts.{BookCosts, room}
use Rattle.level_book.specs.UnderTable.{Tables, number, never, sum_of, write_cost, read_cost}

-- the entries of the first so many levels are
pub record IsExactTo (count steps : ℕ) (book : BookCosts) (t : Tables) : Type 0 where
  -- one step
  pub fresh_one : (k m : ℕ) → 1 ≤ steps → k < count → m ≤ room book k steps → t.fresh k 1 m ≡ number (book.forward + book.reverse)
  pub held_one : (k m : ℕ) → k < count → m < room book k steps → t.held k 1 m ≡ number (read_cost book k + book.forward + book.reverse)
  -- an entry that is a number is that of the faster level, or a split's
  pub fresh_split : (k l m v : ℕ) → k < count → 2 ≤ l → l ≤ steps → m ≤ room book k steps → t.fresh k l m ≡ number v →
      ((j : ℕ) → suc j ≡ k → t.fresh k l m ≢ t.fresh j l (room book j steps)) →
      (n : ℕ) × (m ≡ suc n) × ((j : ℕ) × (1 ≤ j) × (j < l)
      × (t.fresh k l m ≡ sum_of (write_cost book k + j * book.forward) (t.fresh k (l - j) n) (t.held k j n)))
  pub held_split : (k l m : ℕ) → k < count → 2 ≤ l → l ≤ steps → m < room book k steps →
      ((j : ℕ) → suc j ≡ k → t.held k l m ≢ sum_of (read_cost book k) (number 0) (t.fresh j l (room book j steps))) →
      (j : ℕ) × (1 ≤ j) × (j < l) × (t.held k l m ≡ sum_of (read_cost book k + j * book.forward) (t.fresh k (l - j) m) (t.held k j m))
  -- if the first state is held there is a list
  pub held_number : (k l m : ℕ) → k < count → 1 ≤ l → l ≤ steps → m < room book k steps → t.held k l m ≢ never
  -- an entry is Never exactly if no image can be kept and there are two or more steps
  pub fresh_never : (k l m : ℕ) → k < count → 1 ≤ l → l ≤ steps → m ≤ room book k steps → t.fresh k l m ≡ never →
      (2 ≤ l) × (m ≡ 0) × ((j : ℕ) → j < k → room book j steps ≡ 0)
  pub never_fresh : (k l : ℕ) → k < count → 2 ≤ l → l ≤ steps → ((j : ℕ) → j < k → room book j steps ≡ 0) → t.fresh k l 0 ≡ never

-- the entries of all levels are
abbrev pub IsExact : ℕ → BookCosts → Tables → Type 0
IsExact steps book t = IsExactTo (length book.levels) steps book t
