-- What is kept of a step undoes it.
use Rattle.std.proofs.Common.{◌≡◌, ℕ, ◌+◌, List, length, sym, subst, Some}
use Rattle.std.specs.List.{slice_index}
use Rattle.rv_pages.specs.Memory.{wrapped, bytes_at, with_bytes, IsMapped}
use Rattle.rv_pages.proofs.MemoryReads.{bytes_mapped}
use Rattle.rv_machine.specs.MachineState.{MachineState}
use Rattle.rv_machine.specs.StateChanges.{addresses}
use Rattle.rv_machine.specs.StepTable.{next, register_changed, written}
use Rattle.unit_undo.specs.Entry.{Entry, undone, Undoes}
use Rattle.rv_machine.specs.StepChanges.{IsOutside, IsInside, IsStep}
use Rattle.rv_machine.proofs.MemoryWrites.{mapped_inside}
use Rattle.rv_machine.proofs.StepCases.{steps}
use Rattle.unit_undo.proofs.MemoryRestore.{restored}

-- an entry of a state, with the old value of a register and these old bytes
abbrev pub entry : MachineState → ℕ → ℕ → List ℕ → Entry
entry s register at bytes = record {
  pc = s.pc;
  register = register;
  value = slice_index s.registers register;
  status = s.status;
  item = s.item;
  offset = s.offset;
  written = s.written;
  at = at;
  bytes = bytes;
}

undone_by : (s t : MachineState) (register at : ℕ) (bytes writes : List ℕ) (journal : List (List ℕ)) → IsStep s t register writes journal → addresses at (length bytes) ≡ writes → bytes_at s.memory at (length bytes) ≡ Some bytes → undone (entry s register at bytes) t ≡ s
undone_by s t register at bytes writes journal step is old =
    let memory : with_bytes t.memory at bytes ≡ s.memory = restored s.memory t.memory at bytes old (λ a outside. step.memory a (subst (λ xs. IsOutside xs a) is outside)) in
    λ i. record { pc = s.pc; registers = step.registers i; status = s.status; item = s.item; offset = s.offset; written = s.written; memory = memory i }

pub undoes : (s : MachineState) (journal : List (List ℕ)) (register at : ℕ) (bytes : List ℕ) → register ≡ register_changed s → addresses at (length bytes) ≡ written s journal → bytes_at s.memory at (length bytes) ≡ Some bytes → Undoes (entry s register at bytes) s journal
undoes s journal register at bytes changed is old = record {
  state = undone_by s (next s journal) register at bytes (written s journal) journal (subst (λ n. IsStep s (next s journal) n (written s journal) journal) (sym changed) (steps s journal)) is old;
  addresses = is;
  mapped = bytes_mapped s.memory (length bytes) at bytes old;
}

-- what a step writes is mapped
pub written_mapped : (s : MachineState) (journal : List (List ℕ)) (at n : ℕ) → addresses at n ≡ written s journal → IsMapped s.memory at n
written_mapped s journal at n is = mapped_inside s.memory at n (λ a inside. (steps s journal).there a (subst (λ xs. IsInside xs a) is inside))

-- what is mapped before a step is mapped after it
pub mapped_next : (s : MachineState) (journal : List (List ℕ)) (at n : ℕ) → IsMapped s.memory at n → IsMapped (next s journal).memory at n
mapped_next s journal at n h = λ k l. (steps s journal).mapped (wrapped (at + k)) (h k l)
