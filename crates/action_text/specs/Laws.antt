-- What the definitions imply, for levels whose names are names and apart.
use Rattle.std.specs.Prelude.{◌≡◌, ◌≢◌, ◌≤◌, ◌⊎◌, ℕ, List, [], ◌∷◌, ◌++◌, length}
use Rattle.std.specs.List.{AllByRecursion, flat_map}
use Rattle.plan_types.specs.declared.limits.TheConstants.{MOST_ACTIONS}
use Rattle.plan_types.specs.declared.action.Action.{Action}
use Rattle.level_book.specs.Names.{AreNames}
use Rattle.line_texts.specs.declared.fault.Fault.{Fault}
use Rattle.action_text.specs.ScheduleText.{IsSchedule}
use Rattle.action_text.specs.Faults.{HasFirstFault}
use Rattle.action_text.specs.Canonical.{canonical, HasSpelling, text_of}

-- bytes mean one schedule at most
abbrev pub OneSchedule : Type 0
OneSchedule = (names : List (List ℕ)) → AreNames names → (bytes : List ℕ) (a b : List Action) → IsSchedule names bytes a → IsSchedule names bytes b → a ≡ b

-- they have one first fault at most, and a schedule has none
abbrev pub OneFault : Type 0
OneFault = (names : List (List ℕ)) → AreNames names → (bytes : List ℕ) (a b : Fault) → HasFirstFault names bytes a → HasFirstFault names bytes b → a ≡ b

abbrev pub SchedulesHaveNoFault : Type 0
SchedulesHaveNoFault = (names : List (List ℕ)) → AreNames names → (bytes : List ℕ) (list : List Action) (fault : Fault) →
    IsSchedule names bytes list → HasFirstFault names bytes fault → ⊥

-- all bytes are a schedule or have a first fault
abbrev pub ScheduleOrFault : Type 0
ScheduleOrFault = (names : List (List ℕ)) → AreNames names → (bytes : List ℕ) →
    ((list : List Action) × IsSchedule names bytes list) ⊎ ((fault : Fault) × HasFirstFault names bytes fault)

-- A line after a list, as in a certificate. It begins with `#!`, and ends at its only byte 10.
abbrev pub certificate_line : List ℕ → List ℕ
certificate_line text = 35 ∷ 33 ∷ (text ++ 10 ∷ [])

abbrev pub HasOneEnd : List ℕ → Type 0
HasOneEnd text = AllByRecursion (λ b. b ≢ 10) text

-- the canonical text of a list, with such lines after it, is read as that list
abbrev pub CanonicalIsRead : Type 0
CanonicalIsRead =
    (names : List (List ℕ)) → AreNames names → (list : List Action) → length list ≤ MOST_ACTIONS → AllByRecursion (HasSpelling names) list →
    (texts : List (List ℕ)) → AllByRecursion HasOneEnd texts → IsSchedule names (text_of names list ++ flat_map certificate_line texts) list

-- two actions with one canonical spelling are equal
abbrev pub OneSpelling : Type 0
OneSpelling =
    (names : List (List ℕ)) → AreNames names → (a b : Action) → HasSpelling names a → HasSpelling names b → canonical names a ≡ canonical names b → a ≡ b
