-- The actions of a valid list may be done, one after the other.
use Rattle.std.proofs.Common.{◌≡◌, ℕ, ◌+◌, List, take, Some, slice_get, ◌∙◌}
use Rattle.plan_types.specs.declared.action.Action.{Action}
use Rattle.level_book.specs.declared.book.Slots.{Slots}
use Rattle.level_book.specs.Configuration.{Configuration, start}
use Rattle.level_book.specs.Moves.{Goes}
use Rattle.level_book.specs.Rules.{rule}
use Rattle.level_book.specs.Valid.{Leads, Valid}
use Rattle.schedule_rules.specs.Situation.{Situation}
use Rattle.schedule_rules.proofs.VerdictReasons.{kept_on_the_way, goes_on}

pub allowed : (steps : ℕ) (slots : List Slots) (list : List Action) (i : ℕ) (a : Action) (s : Situation) → s.steps ≡ steps → s.slots ≡ slots → slice_get list i ≡ Some a →
    Leads steps slots (start steps slots) (take i list) s.at → Valid steps slots list → rule s.steps s.slots s.at a ≡ 0
allowed steps slots list i a s same_steps same_slots at leads valid =
    (λ j. rule (same_steps j) (same_slots j) s.at a) ∙ kept_on_the_way steps slots list i s.at a valid.0 at leads valid.1

pub led_on : (steps : ℕ) (slots : List Slots) (list : List Action) (i : ℕ) (a : Action) (s : Situation) (d : Configuration) → s.steps ≡ steps → s.slots ≡ slots → slice_get list i ≡ Some a →
    Leads steps slots (start steps slots) (take i list) s.at → Goes s.steps s.slots s.at a d → Leads steps slots (start steps slots) (take (i + 1) list) d
led_on steps slots list i a s d same_steps same_slots at leads goes = goes_on steps slots list i s a d same_steps same_slots at leads goes
