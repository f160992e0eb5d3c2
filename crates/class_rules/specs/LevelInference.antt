-- No public clause cites this file. The levels of a list's places, found beside the list of Revolve.
use Rattle.std.specs.Prelude.{◌≡◌, ◌↔◌, ℕ, ◌<◌, List, length, slice_index, slice_index_or}
use Rattle.plan_types.specs.declared.action.Keep.TheVariants.{Store}
use Rattle.plan_types.specs.declared.action.Action.{Action}
use Rattle.plan_types.specs.declared.action.Action.TheVariants.{Forward, Copy, Move}
use Rattle.level_book.specs.declared.book.Slots.{Slots}
use Rattle.level_book.specs.declared.book.Slots.TheVariants.{Count}
use Rattle.revolve_gen.specs.Places.{places_on}
use Rattle.revolve_gen.specs.Stack.{placed, places_used}
use Rattle.revolve_gen.specs.Multistage.{HasPlaces}

-- the level on which an action writes or reads its image
abbrev pub level_named : Action → ℕ
level_named (Forward from to (Store k)) = k
level_named (Copy n from to) = from
level_named (Move n from to) = from
level_named _ = 0

-- the places that were found have these levels
abbrev pub Agrees : List ℕ → (ℕ → ℕ) → Type 0
Agrees levels of = (p : ℕ) → p < length levels → of p ≡ slice_index levels p

-- the list is the other one with levels of its places exactly if these are those levels
pub record AreTheLevels (base list : List Action) (levels : List ℕ) : Type 0 where
  pub same : (of : ℕ → ℕ) → (list ≡ placed of 0 base) ↔ Agrees levels of
  pub many : length levels ≡ places_used base

-- there are two levels, and each has slots for its places
pub record Fit (slots : List Slots) (levels : List ℕ) : Type 0 where
  pub known : (p : ℕ) → p < length levels → slice_index levels p < 2
  pub room : (k : ℕ) → k < 2 → HasPlaces (slice_index_or slots k (Count 0)) (places_on (slice_index levels) k (length levels))
