-- No public clause cites this file. How the items of a journal are kept, as parts of the bytes that they were read from.
use Rattle.std.specs.Prelude.{ℕ, ◌+◌, ◌≤◌, List, map, take, drop}
use Rattle.std.specs.List.{AllByRecursion}
use Rattle.input_journal.specs.declared.journal.Part.{Part}

-- the bytes of a part, and of each of them
abbrev pub item_in : List ℕ → Part → List ℕ
item_in bytes part = take part.len (drop part.at bytes)

abbrev pub items_in : List ℕ → List Part → List (List ℕ)
items_in bytes parts = map (item_in bytes) parts

-- a part is within so many bytes, and is short enough for an item
abbrev pub IsPart : ℕ → Part → Type 0
IsPart count part = (part.len ≤ 1048576) × (part.at + part.len ≤ count)

abbrev pub AreParts : ℕ → List Part → Type 0
AreParts count parts = AllByRecursion (IsPart count) parts
