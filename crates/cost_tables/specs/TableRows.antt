-- The model of built tables: their entries in rows, and their numbers of steps and slots.
use Rattle.std.specs.Prelude.{◌≡◌, ℕ, ◌-◌, ◌<◌, ◌≤◌, List, [], length, take, slice_index_or}
use Rattle.level_book.specs.BookCosts.{BookCosts, room}
use Rattle.level_book.specs.UnderTable.{Entry, number, never, Tables, IsGreatest}
use Rattle.cost_tables.specs.declared.cost.Cost.{Cost}
use Rattle.cost_tables.specs.declared.cost.Cost.TheVariants.{Number, Never}

-- Each level's room, which is the most free slots, and its entries. There is a row for each number of steps from 1 on.
-- A row has an entry for each number of free slots from 0 on.
pub record TableRows : Type 0 where
  pub steps : ℕ
  pub rooms : List ℕ
  pub fresh : List (List (List Entry))
  pub held : List (List (List Entry))

-- the entry of level k in row r at m free slots
abbrev pub entry_at : List (List (List Entry)) → ℕ → ℕ → ℕ → Entry
entry_at levels k r m = slice_index_or (slice_index_or (slice_index_or levels k []) r []) m (number 0)

-- The tables in the rows. An entry is used only for a step or more, so l - 1 doesn't truncate.
abbrev pub tables_in : TableRows → Tables
tables_in t = record { fresh = λ k l m. entry_at t.fresh k (l - 1) m; held = λ k l m. entry_at t.held k (l - 1) m }

-- the tables are for so many steps and the levels of a book
pub record AreFor (steps : ℕ) (book : BookCosts) (t : TableRows) : Type 0 where
  pub steps_are : t.steps ≡ steps
  pub level_count : length t.rooms ≡ length book.levels
  pub rooms_are : (k : ℕ) → k < length book.levels → slice_index_or t.rooms k 0 ≡ room book k steps

-- tables for so many steps and the levels of a book can be built
pub record TablesFit (steps : ℕ) (book : BookCosts) : Type 0 where
  pub few : steps ≤ 2048
  pub narrow : (k : ℕ) → k < length book.levels → room book k steps ≤ 64

-- the greatest tables, built for so many steps and the levels of a book
pub record AreGreatestFor (steps : ℕ) (book : BookCosts) (t : TableRows) : Type 0 where
  pub fits : TablesFit steps book
  pub sizes : AreFor steps book t
  pub greatest : IsGreatest steps book (tables_in t)

-- a book of the fastest level alone
abbrev pub fastest : BookCosts → BookCosts
fastest book = record { forward = book.forward; reverse = book.reverse; levels = take 1 book.levels }

-- tables for so many steps and the fastest level of a book can be built
pub record FastestTablesFit (steps : ℕ) (book : BookCosts) : Type 0 where
  pub few : steps ≤ 8192
  pub narrow : room book 0 steps ≤ 64

-- the entry that a cost is
abbrev pub value_of : Cost → Entry
value_of (Number n) = number n
value_of Never = never
