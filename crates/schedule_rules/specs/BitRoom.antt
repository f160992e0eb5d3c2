-- Whether a level's set of bits has a bit for each state.
use Rattle.std.specs.Prelude.{◌≡◌, ℕ, ◌+◌, ◌/◌, length}
use Rattle.schedule_rules.specs.declared.config.LevelHeld.{LevelHeld}

-- the level has a bit for each position up to this one
abbrev pub HasBits : ℕ → LevelHeld → Type 0
HasBits steps level = length level.images.words.items ≡ steps / 64 + 1
