-- What holds of the classes.
use Rattle.std.specs.Prelude.{◌⊎◌, ℕ, List}
use Rattle.plan_types.specs.declared.action.Action.{Action}
use Rattle.level_book.specs.declared.book.Slots.{Slots}
use Rattle.level_book.specs.BookCosts.{BookCosts}
use Rattle.level_book.specs.DiskClass.{Disk}
use Rattle.level_book.specs.NestedClass.{Nested}
use Rattle.level_book.specs.Valid.{Valid}
use Rattle.revolve_gen.specs.Multistage.{IsMultistage}
use Rattle.class_rules.specs.PlaceLevels.{HasPlaceLevels}

-- a valid list is in the nested class or it isn't
abbrev pub NestedOrNot : ℕ → List Slots → List Action → Type 0
NestedOrNot steps slots list = Valid steps slots list → Nested steps slots list ⊎ (Nested steps slots list → ⊥)

-- a valid list is in the disk class or it isn't
abbrev pub DiskOrNot : ℕ → List Slots → List Action → Type 0
DiskOrNot steps slots list = Valid steps slots list → Disk steps slots list ⊎ (Disk steps slots list → ⊥)

-- any list is in the multistage class or it isn't
abbrev pub MultistageOrNot : ℕ → BookCosts → List Action → Type 0
MultistageOrNot steps book list = IsMultistage steps book list ⊎ (IsMultistage steps book list → ⊥)

-- the places of a list of the multistage class have levels
abbrev pub PlacesHaveLevels : ℕ → BookCosts → List Action → Type 0
PlacesHaveLevels steps book list = IsMultistage steps book list → (levels : List ℕ) × HasPlaceLevels steps book list levels
