-- No public clause cites this file. States that are kept.
use Rattle.std.specs.Prelude.{◌≡◌, ℕ, List}
use Rattle.std.specs.List.{All}
use Rattle.rv_pages.specs.Memory.{page_numbers}
use Rattle.rv_machine.specs.MachineState.{MachineState, IsMachineState}
use Rattle.run_timeline.specs.declared.mark.Mark.{Mark}
use Rattle.run_timeline.specs.KeptPages.{KeepsFrom}

-- a mark keeps this state
pub record IsMarkOf (s : MachineState) (m : Mark) : Type 0 where
  pub pc : m.pc ≡ s.pc
  pub registers : m.x ≡ s.registers
  pub status : m.status ≡ s.status
  pub item : m.item ≡ s.item
  pub offset : m.offset ≡ s.offset
  pub written : m.written ≡ s.written
  pub pages : KeepsFrom (page_numbers s.memory) s.memory 0 m.indices.items m.bytes.items

-- it keeps a machine state that maps these pages
abbrev pub CanGive : Mark → List ℕ → Type 0
CanGive m numbers = (s : MachineState) × (IsMarkOf s m × IsMachineState s × (page_numbers s.memory ≡ numbers))

-- in each mark there is room for so many pages
abbrev pub HaveRoom : ℕ → List Mark → Type 0
HaveRoom n marks = All (λ (m : Mark). m.pages ≡ n) marks
