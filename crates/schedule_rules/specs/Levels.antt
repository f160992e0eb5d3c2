-- What the kept levels mean.
use Rattle.std.specs.Prelude.{ℕ, ◌/◌, ◌<◌, List, length, map}
use Rattle.std.specs.Ordering.{nat_cmp}
use Rattle.std.specs.FinSet as set
use Rattle.level_book.specs.declared.book.Slots.{Slots}
use Rattle.schedule_rules.specs.declared.config.LevelHeld.{LevelHeld}
use Rattle.schedule_rules.specs.Bits.{set_of}

-- the slots of each level
abbrev pub slots_kept : List LevelHeld → List Slots
slots_kept levels = map (λ level. level.slots) levels

-- the states whose images each level holds
abbrev pub images_kept : List LevelHeld → List (set.FinSet nat_cmp)
images_kept levels = map (λ level. set_of level.images.words.items) levels

-- the level has a bit for the position
abbrev pub HasBit : ℕ → LevelHeld → Type 0
HasBit n level = n / 64 < length level.images.words.items
