-- What holds of every configuration that a list leads to from the start.
use Rattle.std.specs.Prelude.{◌≡◌, ℕ, ◌+◌, ◌<◌, ◌≤◌, List, length, slice_index_or, MatchOption}
use Rattle.std.specs.FinSet as set
use Rattle.std.specs.Ordering.{nat_cmp}
use Rattle.plan_types.specs.declared.action.Action.{Action}
use Rattle.level_book.specs.declared.book.Slots.{Slots}
use Rattle.level_book.specs.declared.book.Slots.TheVariants.{Count, Unlimited}
use Rattle.level_book.specs.Configuration.{Configuration, start, held_on}
use Rattle.level_book.specs.Valid.{Leads}

-- some list leads there from the start
abbrev pub IsReached : ℕ → List Slots → Configuration → Type 0
IsReached steps slots c = (list : List Action) × Leads steps slots (start steps slots) list c

-- no more images are held than there are slots
abbrev pub IsWithin : Slots → set.FinSet nat_cmp → Type 0
IsWithin (Count slots) images = set.len images ≤ slots
IsWithin Unlimited images = Unit {0}

-- No more is to be reversed than there are steps. Each level is within its slots. The tape is empty or holds the state
-- before the next step to be reversed.
pub record IsSound (steps : ℕ) (slots : List Slots) (c : Configuration) : Type 0 where
  pub within : c.reverse ≤ steps
  pub level_count : length c.held ≡ length slots
  pub room : (k : ℕ) → k < length slots → IsWithin (slice_index_or slots k (Count 0)) (held_on c k)
  pub tape_is_next : MatchOption c.tape (Unit {0}) (λ t. t + 1 ≡ c.reverse)
