-- Facts about the written lists.
use Rattle.std.specs.Prelude.{◌≡◌, ℕ, suc, ◌+◌, ◌-◌, ◌*◌, ◌<◌, ◌≤◌, Bool, false, List, ◌∷◌, ◌++◌, length}
use Rattle.plan_types.specs.declared.action.Keep.TheVariants.{Nothing, Store}
use Rattle.plan_types.specs.declared.action.Dest.TheVariants.{Work}
use Rattle.plan_types.specs.declared.action.Action.{Action}
use Rattle.plan_types.specs.declared.action.Action.TheVariants.{Forward, Copy, Move}
use Rattle.level_book.specs.declared.book.Slots.{Slots}
use Rattle.level_book.specs.BookCosts.{BookCosts, slots_of, total_room}
use Rattle.level_book.specs.Valid.{Valid}
use Rattle.level_book.specs.CostFold.{forward}
use Rattle.binomials.specs.Advances.{split, least_advances}
use Rattle.binomials.specs.Laws.{IsStretch}
use Rattle.revolve_gen.specs.Places.{level_at, first_slots, HasMore, IsRoomy}
use Rattle.revolve_gen.specs.Plans.{HasPlan}
use Rattle.revolve_gen.specs.RevolveList.{one_step, fresh, held, revolve, revolve_list}

-- The two rules for a stretch of l steps from b, for one step and for more. The bounds on the recursion are the steps.
-- A stretch is split after fewer than l steps, and then has a slot.
pub record AreTheRules (level : ℕ → ℕ) (first : Bool) (b l c p : ℕ) : Type 0 where
  pub fresh_one : l ≡ 1 → fresh l level first b l c p ≡ one_step first b
  pub held_one : l ≡ 1 → held l level b l c p ≡ Move b (level p) Work ∷ one_step false b
  pub fresh_more : 2 ≤ l →
      fresh l level first b l c p ≡ Forward b (b + split l c)
      (Store (level p)) ∷ (fresh (l - split l c) level first (b + split l c) (l - split l c) (c - 1) (p + 1) ++ held (split l c) level b (split l c) c p)
  pub held_more : 2 ≤ l →
      held l level b l c p ≡ Copy b (level p) Work ∷ Forward b (b + split l c)
      Nothing ∷ (fresh (l - split l c) level false (b + split l c) (l - split l c) (c - 1) (p + 1) ++ held (split l c) level b (split l c) c p)

abbrev pub WrittenByRules : ℕ → ℕ → Type 0
WrittenByRules l c = IsStretch l c → (level : ℕ → ℕ) (first : Bool) (b p : ℕ) → AreTheRules level first b l c p

-- the list is valid for every book with room for the places, in any assignment of places to levels
abbrev pub RevolveIsValid : ℕ → List Slots → Type 0
RevolveIsValid steps slots = (level : ℕ → ℕ) (c : ℕ) → IsRoomy slots level c → HasPlan steps c → Valid steps slots (revolve level steps c)

-- the level is the first whose slots, summed with those of earlier levels, exceed the place
pub record IsFirstLevel (slots : List Slots) (p level : ℕ) : Type 0 where
  pub known : level < length slots
  pub enough : HasMore (first_slots slots (suc level)) p
  pub none : (k : ℕ) → k ≤ level → HasMore (first_slots slots k) p → ⊥

-- so is the level of each place that has a slot
abbrev pub LevelAtIsFirst : List Slots → ℕ → Type 0
LevelAtIsFirst slots p = HasMore (first_slots slots (length slots)) p → IsFirstLevel slots p (level_at slots p)

-- the places of a book's slots in order, as many as it has room for
abbrev pub BookIsRoomy : ℕ → BookCosts → Type 0
BookIsRoomy steps book = IsRoomy (slots_of book) (level_at (slots_of book)) (total_room book steps)

-- A list for N steps with c slots has four actions for each step. It takes N + t(N, c) forward steps: one for one step,
-- none for no steps.
pub record IsCounted (steps c : ℕ) (list : List Action) : Type 0 where
  pub actions : 1 ≤ steps → length list ≡ 4 * steps
  pub forward_steps : 1 ≤ steps → forward list ≡ steps + least_advances steps c
  pub at_most_one : steps ≤ 1 → forward list ≡ steps

abbrev pub RevolveIsCounted : (ℕ → ℕ) → ℕ → ℕ → Type 0
RevolveIsCounted level steps c = HasPlan steps c → IsCounted steps c (revolve level steps c)

-- the list for a book with a plan is valid, and has these counts
abbrev pub BookListIsRight : ℕ → BookCosts → Type 0
BookListIsRight steps book =
    let list = revolve_list steps book in
    HasPlan steps (total_room book steps) → Valid steps (slots_of book) list × IsCounted steps (total_room book steps) list
