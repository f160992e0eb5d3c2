-- The model of a level of a store: its pairs, and its room.
use Rattle.std.specs.Prelude.{ℕ, ◌+◌, List, [], map, replicate, Option, None, slice_index_or}
use Rattle.level_book.specs.BookCosts.{least}
use Rattle.level_book.specs.declared.book.Slots.{Slots}
use Rattle.image_store.specs.declared.shelf.Kept.{Kept}
use Rattle.image_store.specs.Pairs.{pair_at}

pub record ShelfState : Type 0 where
  -- what is kept of each pair, by the number of its state
  pub pairs : List (Option Kept)
  -- how many pairs there is room for; their slots are the numbers below it
  pub room : ℕ

-- a level of a store
abbrev pub level_of : List ShelfState → ℕ → ShelfState
level_of store k = slice_index_or store k (record { pairs = []; room = 0 })

-- what a store keeps of a pair, if it holds it
abbrev pub kept_at : List ShelfState → ℕ → ℕ → Option Kept
kept_at store k n = pair_at (level_of store k).pairs n

-- a level with no pairs, for the states 0 to `steps` and so many slots
abbrev pub no_pairs : ℕ → ℕ → ShelfState
no_pairs steps room = record { pairs = replicate (steps + 1) None; room = room }

-- A store without pairs, on levels of so many slots. It has room for as many pairs as a run of so many steps can hold
-- there.
abbrev pub no_pairs_on : List Slots → ℕ → List ShelfState
no_pairs_on slots steps = map (λ (s : Slots). no_pairs steps (least s steps)) slots
