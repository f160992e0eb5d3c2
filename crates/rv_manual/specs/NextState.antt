-- One step of the machine, by the listing of the manual.
use Rattle.std.specs.Prelude.{ℕ, zero, suc, Bool, cond, List, [], ◌∷◌, Option, Some, None}
use Rattle.std.specs.List.{list_any}
use Rattle.rv_machine.specs.declared.status.Status.{Status}
use Rattle.rv_machine.specs.declared.status.Status.TheVariants.{Running}
use Rattle.rv_machine.specs.MachineState.{MachineState}
use Rattle.rv_machine.specs.StateChanges.{trapped}
use Rattle.rv_manual.specs.Access.{word}
use Rattle.rv_manual.specs.Formats.{Row, takes}
use Rattle.rv_manual.specs.Listing.{listing}

-- whether a word is that of an instruction
abbrev pub is_listed : ℕ → Bool
is_listed w = list_any (λ row. takes w row) listing

-- What a word does by its row. Trap 2: it has no row, so it is illegal
abbrev pub by_rows : List Row → ℕ → MachineState → List (List ℕ) → MachineState
by_rows [] w s journal = trapped s 2
by_rows (row ∷ rows) w s journal = cond (takes w row) (row.after w s journal) (by_rows rows w s journal)

-- what the word at pc does. Trap 1: a byte of it is not mapped
abbrev pub by_word : Option ℕ → MachineState → List (List ℕ) → MachineState
by_word None s journal = trapped s 1
by_word (Some w) s journal = by_rows listing w s journal

-- the state after one step; a stopped machine doesn't change
abbrev pub by_status : Status → MachineState → List (List ℕ) → MachineState
by_status Running s journal = by_word (word s.memory s.pc) s journal
by_status _ s journal = s

abbrev pub next_by_manual : MachineState → List (List ℕ) → MachineState
next_by_manual s journal = by_status s.status s journal

-- the state after so many steps
abbrev pub state_by_manual : MachineState → List (List ℕ) → ℕ → MachineState
state_by_manual s journal zero = s
state_by_manual s journal (suc n) = next_by_manual (state_by_manual s journal n) journal
