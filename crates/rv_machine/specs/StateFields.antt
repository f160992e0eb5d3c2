-- The meaning of a state's fields, and their invariant.
use Rattle.std.specs.Prelude.{◌≡◌, ◌%◌, length, slice_index}
use Rattle.rv_machine.specs.declared.state.State.TheInside.{Inside}
use Rattle.rv_machine.specs.MachineState.{MachineState, IsStatus}

abbrev pub machine_state : Inside → MachineState
machine_state s = record {
  pc = s.pc;
  registers = s.x;
  status = s.status;
  item = s.item;
  offset = s.offset;
  written = s.written;
  memory = s.pages;
}

-- x0 is 0, pc is aligned to words, and the status is a possible one
abbrev pub IsState : Inside → Type 0
IsState s = (length s.x ≡ 32) × (slice_index s.x 0 ≡ 0) × (s.pc % 4 ≡ 0) × IsStatus s.status
