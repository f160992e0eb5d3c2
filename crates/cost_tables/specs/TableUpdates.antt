-- Tables that are filled entry by entry.
use Rattle.std.specs.Prelude.{◌≡◌, ℕ, ◌<◌, ◌≤◌, length}
use Rattle.level_book.specs.BookCosts.{BookCosts, room}
use Rattle.level_book.specs.UnderTable.{Tables, never}

-- each entry for at most so many steps and the levels of a book is Never
pub record AreAllNever (steps : ℕ) (book : BookCosts) (t : Tables) : Type 0 where
  pub fresh : (k l m : ℕ) → k < length book.levels → 1 ≤ l → l ≤ steps → m ≤ room book k steps → t.fresh k l m ≡ never
  pub held : (k l m : ℕ) → k < length book.levels → 1 ≤ l → l ≤ steps → m < room book k steps → t.held k l m ≡ never

-- the entry of level i, j steps and n free slots is not that of level k, l steps and m
abbrev pub IsOther : ℕ → ℕ → ℕ → ℕ → ℕ → ℕ → Type 0
IsOther i j n k l m = (i ≡ k) × (j ≡ l) × (n ≡ m) → ⊥
