-- No public clause cites this file. How the numbers in memory relate, level by level.
use Rattle.std.specs.Prelude.{◌≡◌, ℕ, zero, suc, ◌+◌, ◌-◌, ◌<◌, ◌≤◌, ◌^◌, min, length}
use Rattle.level_book.specs.BookCosts.{BookCosts, room}
use Rattle.level_book.specs.UnderTable.{Tables, write_cost, read_cost}
use Rattle.cost_tables.specs.Entries.{never_in_memory, entry, least_split}

-- One level, given the costs where it isn't used, with the first state in work.
pub record IsLevel (steps room forward write read : ℕ) (base : ℕ → ℕ) (fresh held : ℕ → ℕ → ℕ) : Type 0 where
  pub none_free : (r : ℕ) → r < steps → fresh r 0 ≡ base r
  pub some_free : (r m : ℕ) → r < steps → m < room → fresh r (suc m) ≡ min (base r) (write + least_split forward (λ q. fresh q m) (λ q. held q m) r r)
  pub is_held : (r m : ℕ) → r < steps → m < room → held r m ≡ read + min (base r) (least_split forward (λ q. fresh q m) (λ q. held q m) r r)

-- the base of level k: one step for the fastest level, otherwise the level before with all its slots
abbrev pub base_of : ℕ → ℕ → (ℕ → ℕ) → (ℕ → ℕ → ℕ → ℕ) → ℕ → ℕ → ℕ
base_of forward reverse rooms fresh zero zero = forward + reverse
base_of forward reverse rooms fresh zero (suc r) = never_in_memory
base_of forward reverse rooms fresh (suc k) r = fresh k r (rooms k)

-- all levels of a book
abbrev pub AreLevels : ℕ → BookCosts → (ℕ → ℕ → ℕ → ℕ) → (ℕ → ℕ → ℕ → ℕ) → Type 0
AreLevels steps book fresh held = (k : ℕ) → k < length book.levels →
    IsLevel steps (room book k steps) book.forward (write_cost book k) (read_cost book k)
    (base_of book.forward book.reverse (λ j. room book j steps) fresh k) (fresh k) (held k)

-- The tables that the numbers mean. An entry is used only for a step or more, so l - 1 doesn't truncate.
abbrev pub tables_of : (ℕ → ℕ → ℕ → ℕ) → (ℕ → ℕ → ℕ → ℕ) → Tables
tables_of fresh held = record { fresh = λ k l m. entry (fresh k (l - 1) m); held = λ k l m. entry (held k (l - 1) m) }

-- how few the steps are, and how low the costs
pub record IsModest (steps : ℕ) (book : BookCosts) : Type 0 where
  pub few : steps ≤ 8192
  pub cheap_forward : book.forward < 2 ^ 32
  pub cheap_reverse : book.reverse < 2 ^ 32
  pub cheap_write : (k : ℕ) → write_cost book k < 2 ^ 32
  pub cheap_read : (k : ℕ) → read_cost book k < 2 ^ 32
