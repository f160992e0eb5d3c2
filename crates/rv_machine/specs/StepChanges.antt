-- What a step changes, and what it leaves unchanged.
use Rattle.std.specs.Prelude.{◌≡◌, ℕ, ◌+◌, ◌-◌, ◌==◌, ◌≤◌, true, false, List, [], ◌∷◌, length, drop, slice_index, IsSome}
use Rattle.std.specs.List.{list_any, sum_by}
use Rattle.std.specs.FinMap.{get}
use Rattle.rv_machine.specs.MachineState.{MachineState}
use Rattle.rv_machine.specs.StateChanges.{with_register}

-- an address isn't among these, or is
abbrev pub IsOutside : List ℕ → ℕ → Type 0
IsOutside addresses a = list_any (λ x. x == a) addresses ≡ false

abbrev pub IsInside : List ℕ → ℕ → Type 0
IsInside addresses a = list_any (λ x. x == a) addresses ≡ true

-- How many bytes of recorded input are left after an offset in the first item. Past its end, none of that item is left.
abbrev pub left_of : List (List ℕ) → ℕ → ℕ
left_of [] offset = 0
left_of (item ∷ items) offset = length item - offset + sum_by length items

-- From s to t one register and the bytes at some mapped addresses changed. No byte was unmapped. At most four bytes
-- more were written than were read of the recorded input.
pub record IsStep (s t : MachineState) (register : ℕ) (writes : List ℕ) (journal : List (List ℕ)) : Type 0 where
  pub registers : with_register t.registers register (slice_index s.registers register) ≡ s.registers
  pub memory : (a : ℕ) → IsOutside writes a → get t.memory a ≡ get s.memory a
  pub there : (a : ℕ) → IsInside writes a → IsSome (get s.memory a)
  pub mapped : (a : ℕ) → IsSome (get s.memory a) → IsSome (get t.memory a)
  pub bytes : length writes + left_of (drop t.item journal) t.offset ≤ 4 + left_of (drop s.item journal) s.offset
