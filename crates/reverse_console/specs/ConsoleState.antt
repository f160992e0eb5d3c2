-- The model of a console.
use Rattle.std.specs.Prelude.{◌≡◌, ℕ, Bool, List, Option, refl}
use Rattle.std.specs.Coded.{Coded, code_by, coded×, coded_ℕ, coded_bool, coded_list}
use Rattle.keepers.specs.Claims.{Images}
use Rattle.level_book.specs.BookCosts.{slots_of}
use Rattle.level_book.specs.declared.book.Slots.{Slots}
use Rattle.level_book.specs.contracts.book.Slots as slots_row
use Rattle.rv_machine.specs.MachineState.{MachineState}
use Rattle.rv_machine.specs.StateCode.{state_code}
use Rattle.image_store.specs.Shelves.{ShelfState}
use Rattle.reverse_runner.specs.ActionEffects.{Levels}
use Rattle.reverse_runner.specs.SessionState.{SamePages, shelf_code}
use Rattle.reverse_console.specs.declared.marked_run.MarkedRun.{MarkedRun}
use Rattle.reverse_console.specs.Marks.{MarkPlan}
use Rattle.reverse_console.specs.StateSources.{Source}

pub record ConsoleState : Type 0 where
  -- the places of its marks
  pub plan : MarkPlan
  -- A state of the machine, where the last order stopped. If that order had no answer, it isn't the state of the place.
  pub work : MachineState
  -- which images the levels keep
  pub store : List ShelfState
  -- the recorded input
  pub journal : List (List ℕ)
  -- the number of the state where it is
  pub place : ℕ
  -- whether an order was refused
  pub ended : Bool

-- the marks of a run, by the levels of its book
abbrev pub plan_of : MarkedRun → MarkPlan
plan_of run = record { slots = slots_of run.book; count = run.count }

-- its levels over what its keepers claim
abbrev pub levels_of : ConsoleState → (ℕ → Option Images) → Levels
levels_of c told = record { store = c.store; told = told }

-- where its states come from
abbrev pub source_of : ConsoleState → (ℕ → Option Images) → Source
source_of c told = record { plan = c.plan; journal = c.journal; levels = levels_of c told; machine = c.work }

-- the console is unchanged, except perhaps for its place and the state in work
pub record GoesOn (old new : ConsoleState) : Type 0 where
  pub machine : SamePages new.work old.work
  pub plan : new.plan ≡ old.plan
  pub store : new.store ≡ old.store
  pub journal : new.journal ≡ old.journal

-- a plan and a console are stored as the tuples of their fields
abbrev pub plan_code : Coded MarkPlan
plan_code =
    code_by (List Slots × ℕ) (coded× (coded_list slots_row.the_row.coded) coded_ℕ)
    (λ p. (p.slots, p.count)) (λ p. record { slots = p.0; count = p.1 }) (λ _. refl)

abbrev pub console_code : Coded ConsoleState
console_code =
    code_by (MarkPlan × (MachineState × (List ShelfState × (List (List ℕ) × (ℕ × Bool)))))
    (coded× plan_code (coded× state_code (coded× (coded_list shelf_code) (coded× (coded_list (coded_list coded_ℕ)) (coded× coded_ℕ coded_bool)))))
    (λ c. (c.plan, (c.work, (c.store, (c.journal, (c.place, c.ended))))))
    (λ p. record { plan = p.0; work = p.1.0; store = p.1.1.0; journal = p.1.1.1.0; place = p.1.1.1.1.0; ended = p.1.1.1.1.1 })
    (λ _. refl)
