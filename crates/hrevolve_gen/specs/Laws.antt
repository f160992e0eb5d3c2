-- What holds of the lists that are read.
use Rattle.std.specs.Prelude.{◌≡◌, ℕ, ◌<◌, ◌≤◌, List, [], ◌∷◌, length}
use Rattle.plan_types.specs.declared.action.Keep.TheVariants.{Tape}
use Rattle.plan_types.specs.declared.action.Action.{Action}
use Rattle.plan_types.specs.declared.action.Action.TheVariants.{Forward, EndForward}
use Rattle.level_book.specs.BookCosts.{BookCosts}
use Rattle.level_book.specs.UnderTable.{Tables, IsGreatest}
use Rattle.cost_tables.specs.ExactTables.{IsExact}
use Rattle.hrevolve_gen.specs.Plans.{HasNestedPlan}
use Rattle.hrevolve_gen.specs.HRevolveList.{IsWritten}

-- tables give at most one list
abbrev pub ListIsUnique : ℕ → BookCosts → Tables → List Action → List Action → Type 0
ListIsUnique steps book t list other = IsWritten steps book t list → IsWritten steps book t other → list ≡ other

-- all tables of the greatest entries give at most one list
abbrev pub PlanIsUnique : ℕ → BookCosts → Tables → Tables → List Action → List Action → Type 0
PlanIsUnique steps book s t list other = IsGreatest steps book s → IsGreatest steps book t → IsWritten steps book s list →
    IsWritten steps book t other → list ≡ other

-- tables whose entries are attained give a list where there is a plan
abbrev pub ListExists : ℕ → BookCosts → Tables → Type 0
ListExists steps book t = IsExact steps book t → 0 < length book.levels → HasNestedPlan steps book → (list : List Action) × IsWritten steps book t list

-- none of the actions is EndForward
abbrev pub HasNoEndForward : List Action → Type 0
HasNoEndForward [] = Unit {0}
HasNoEndForward (EndForward ∷ rest) = ⊥
HasNoEndForward (_ ∷ rest) = HasNoEndForward rest

-- the only EndForward comes directly after the first Forward with Tape
abbrev pub EndsForwardAtTape : List Action → Type 0
EndsForwardAtTape [] = ⊥
EndsForwardAtTape (EndForward ∷ rest) = ⊥
EndsForwardAtTape (Forward from to Tape ∷ EndForward ∷ rest) = HasNoEndForward rest
EndsForwardAtTape (Forward from to Tape ∷ rest) = ⊥
EndsForwardAtTape (_ ∷ rest) = EndsForwardAtTape rest

-- this holds in each list that is read, if it has a step
abbrev pub ListEndsForward : ℕ → BookCosts → Tables → List Action → Type 0
ListEndsForward steps book t list = 1 ≤ steps → IsWritten steps book t list → EndsForwardAtTape list
