-- The multistage list that is written, and why there is none. The places that save most are on the faster level.
-- Source: Stumm and Walther, "MultiStage approaches for optimal offline checkpointing", SIAM Journal on Scientific
-- Computing 31, 2009.
use Rattle.std.specs.Prelude.{◌≡◌, ◌≢◌, ◌⊎◌, ℕ, ◌<◌, ◌≤◌, min, List, [], ◌∷◌, length}
use Rattle.plan_types.specs.declared.action.Action.{Action}
use Rattle.level_book.specs.declared.book.Level.{Level}
use Rattle.level_book.specs.BookCosts.{BookCosts, room, total_room}
use Rattle.revolve_gen.specs.declared.fault.GenFault.{GenFault}
use Rattle.revolve_gen.specs.declared.fault.GenFault.TheVariants.{NoPlan, Memory}
use Rattle.revolve_gen.specs.Places.{places_on}
use Rattle.revolve_gen.specs.Plans.{HasPlan}
use Rattle.revolve_gen.specs.Stack.{places_used}
use Rattle.revolve_gen.specs.Multistage.{saving}
use Rattle.revolve_gen.specs.RevolveList.{revolve}

-- place p comes before place q: it saves more on the faster level, or saves equally and is lower
abbrev pub ComesBefore : List Action → Level → Level → ℕ → ℕ → Type 0
ComesBefore list fast slow p q =
    (saving list fast slow q < saving list fast slow p) ⊎ ((saving list fast slow q ≡ saving list fast slow p) × (p < q))

-- The list is Revolve's with these levels of its places. Level 0 has as many places as fit, and these come before all
-- others. The others are on level 1.
pub record IsPlan (steps : ℕ) (book : BookCosts) (fast slow : Level) (level : ℕ → ℕ) (list : List Action) : Type 0 where
  pub is : list ≡ revolve level steps (total_room book steps)
  pub known : (p : ℕ) → p < places_used list → level p < 2
  pub many : places_on level 0 (places_used list) ≡ min (room book 0 steps) (places_used list)
  pub order : (p q : ℕ) → p < places_used list → q < places_used list → level p ≡ 0 → level q ≡ 1 → ComesBefore list fast slow p q

-- the list for so many steps and a book of two levels
pub record IsMultistageList (steps : ℕ) (book : BookCosts) (list : List Action) : Type 0 where
  pub fast : Level
  pub slow : Level
  pub two : book.levels ≡ fast ∷ slow ∷ []
  pub plan : HasPlan steps (total_room book steps)
  pub level : ℕ → ℕ
  pub planned : IsPlan steps book fast slow level list

-- Why there is no list. Rule 2: the book hasn't two levels. Otherwise rule 1: two or more steps have no slot. Memory
-- can be short only where there is a plan.
abbrev pub IsFault : ℕ → BookCosts → GenFault → Type 0
IsFault steps book (NoPlan rule) =
    ((rule ≡ 2) × (length book.levels ≢ 2)) ⊎ ((rule ≡ 1) × (length book.levels ≡ 2) × (2 ≤ steps) × (total_room book steps ≡ 0))
IsFault steps book Memory = (length book.levels ≡ 2) × HasPlan steps (total_room book steps)

-- there is at most one such list
abbrev pub PlansAreUnique : ℕ → BookCosts → Type 0
PlansAreUnique steps book = (list other : List Action) → IsMultistageList steps book list → IsMultistageList steps book other → list ≡ other

-- there is one where the book has two levels and Revolve has a list
abbrev pub PlanExists : ℕ → BookCosts → Type 0
PlanExists steps book = length book.levels ≡ 2 → HasPlan steps (total_room book steps) → (list : List Action) × IsMultistageList steps book list
