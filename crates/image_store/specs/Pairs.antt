-- The stored images of a level, by their state's number: slot, length and digest. An image with its number is a pair.
use Rattle.std.specs.Prelude.{◌≡◌, ◌≢◌, ℕ, List, slice_index_or, Option, None, Some, is_some}
use Rattle.std.specs.List.{count_by}
use Rattle.image_store.specs.declared.shelf.Kept.{Kept}

-- what is kept of the pair with this number, if it is held
abbrev pub pair_at : List (Option Kept) → ℕ → Option Kept
pair_at pairs n = slice_index_or pairs n None

-- how many pairs are held
abbrev pub held : List (Option Kept) → ℕ
held pairs = count_by is_some pairs

-- no held pair has this slot
abbrev pub IsFreeSlot : List (Option Kept) → ℕ → Type 0
IsFreeSlot pairs slot = (n : ℕ) (kept : Kept) → pair_at pairs n ≡ Some kept → kept.slot ≢ slot

-- different pairs have different slots
abbrev pub HaveOwnSlots : List (Option Kept) → Type 0
HaveOwnSlots pairs = (m n : ℕ) (a b : Kept) → pair_at pairs m ≡ Some a → pair_at pairs n ≡ Some b → a.slot ≡ b.slot → m ≡ n
