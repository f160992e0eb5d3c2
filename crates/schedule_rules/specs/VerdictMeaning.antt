-- What the verdict on a whole list says.
use Rattle.std.specs.Prelude.{ℕ, List}
use Rattle.plan_types.specs.declared.action.Action.{Action}
use Rattle.level_book.specs.declared.book.Slots.{Slots}
use Rattle.level_book.specs.Valid.{Valid as IsValid, BrokenAt}
use Rattle.schedule_rules.specs.declared.whole_list.Verdict.{Verdict}
use Rattle.schedule_rules.specs.declared.whole_list.Verdict.TheVariants.{Valid, Broken}

-- the verdict says that the list is valid, or where an invalid list is first broken
abbrev pub Judges : ℕ → List Slots → List Action → Verdict → Type 0
Judges steps slots list Valid = IsValid steps slots list
Judges steps slots list (Broken place number level) = BrokenAt steps slots list place number level × (IsValid steps slots list → ⊥)
