-- The ledger that counts steps. Compiled code has none.
use Rattle.std.specs.Prelude.{◌≡◌, ℕ, ◌<◌}

-- A new ledger is the one of a ledger type, by its name and its number of parts, and has a part.
abbrev pub IsBlankOf : ℕ → ℕ → ℕ → ℕ → Type 0
IsBlankOf name parts ledger all = (name ≡ ledger) × ((parts ≡ all) × (0 < parts))
