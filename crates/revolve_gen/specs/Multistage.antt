-- The multistage class: lists of Revolve over two levels, with one level for each place of the stack. This kind of
-- schedule is from Stumm and Walther, "MultiStage approaches for optimal offline checkpointing", SIAM Journal on
-- Scientific Computing 31, 2009. The class is our own.
use Rattle.std.specs.Prelude.{◌≡◌, ℕ, zero, suc, ◌+◌, ◌-◌, ◌*◌, ◌<◌, ◌≤◌, List, [], ◌∷◌, length, slice_index_or}
use Rattle.plan_types.specs.declared.action.Action.{Action}
use Rattle.level_book.specs.declared.book.Level.{Level}
use Rattle.level_book.specs.declared.book.Slots.{Slots}
use Rattle.level_book.specs.declared.book.Slots.TheVariants.{Count, Unlimited}
use Rattle.level_book.specs.BookCosts.{BookCosts, slots_of, total_room}
use Rattle.level_book.specs.Valid.{Valid}
use Rattle.level_book.specs.CostFold.{forward, reversed, cost}
use Rattle.revolve_gen.specs.Places.{places_on}
use Rattle.revolve_gen.specs.Plans.{HasPlan}
use Rattle.revolve_gen.specs.Stack.{written, read, times, places_used, placed}
use Rattle.revolve_gen.specs.RevolveList.{revolve}

-- a level has slots for so many places
abbrev pub HasPlaces : Slots → ℕ → Type 0
HasPlaces (Count slots) places = places ≤ slots
HasPlaces Unlimited places = Unit {0}

-- It is the list of Revolve with the slots of both levels. Each place that it uses has a level. No level has more
-- places than slots.
pub record HasLevels (steps : ℕ) (book : BookCosts) (level : ℕ → ℕ) (list : List Action) : Type 0 where
  pub is : list ≡ revolve level steps (total_room book steps)
  pub known : (p : ℕ) → p < places_used list → level p < 2
  pub room : (k : ℕ) → k < 2 → HasPlaces (slice_index_or (slots_of book) k (Count 0)) (places_on level k (places_used list))

-- The class. If two or more steps have no slot, Revolve has no list, and the class is empty.
pub record IsMultistage (steps : ℕ) (book : BookCosts) (list : List Action) : Type 0 where
  pub two : length book.levels ≡ 2
  pub plan : HasPlan steps (total_room book steps)
  pub level : ℕ → ℕ
  pub levels : HasLevels steps book level list

-- The cost of a place's writes and reads on a level, and the saving on a faster one. In a book no level costs less than
-- a faster one.
abbrev pub place_cost : List Action → Level → ℕ → ℕ
place_cost list level p = times p (written 0 list) * level.write + times p (read 0 list) * level.read

abbrev pub saving : List Action → Level → Level → ℕ → ℕ
saving list fast slow p = times p (written 0 list) * (slow.write - fast.write) + times p (read 0 list) * (slow.read - fast.read)

-- f 0 to f (n - 1), summed
abbrev pub sum_below : ℕ → (ℕ → ℕ) → ℕ
sum_below zero f = 0
sum_below (suc n) f = sum_below n f + f n

-- one of two levels by its number
abbrev pub either : Level → Level → ℕ → Level
either fast slow zero = fast
either fast slow (suc k) = slow

-- a list of Revolve is that list with each image on the level of its place
abbrev pub LevelsAreFree : ℕ → ℕ → Type 0
LevelsAreFree steps c = (level other : ℕ → ℕ) → placed level 0 (revolve other steps c) ≡ revolve level steps c

-- it uses no more places than it has slots
abbrev pub UsesItsSlots : ℕ → ℕ → Type 0
UsesItsSlots steps c = (level : ℕ → ℕ) → HasPlan steps c → places_used (revolve level steps c) ≤ c

-- a list of the class is valid
abbrev pub MultistageIsValid : ℕ → BookCosts → Type 0
MultistageIsValid steps book = (list : List Action) → IsMultistage steps book list → Valid steps (slots_of book) list

-- A list of the class costs its steps, and each place on its level.
abbrev pub CostIsByPlaces : ℕ → BookCosts → Type 0
CostIsByPlaces steps book =
    (fast slow : Level) (level : ℕ → ℕ) (list : List Action) → book.levels ≡ fast ∷ slow ∷ [] → HasLevels steps book level list →
    cost list book ≡ forward list * book.forward + reversed list * book.reverse
    + sum_below (places_used list) (λ p. place_cost list (either fast slow (level p)) p)
