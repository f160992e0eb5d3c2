use Rattle.std.proofs.Common.{◌≡◌, ◌≤◌, ◌∷◌, ◌++◌, List, length}
use Rattle.rv_pages.specs.Memory.{page_numbers}
use Rattle.rv_machine.specs.MachineState.{MachineState}
use Rattle.unit_undo.specs.UndoTrail.{LeadsBack, led_back}
use Rattle.unit_digests.proofs.sharing.go_back.Given as goal

-- the state is the first one, or one of those that were passed
abbrev pub invariant-loop-walk : goal.invariant-loop-walk
invariant-loop-walk l = record {
  left : l.left ≤ length l.walk;
  leads : LeadsBack l.walk l.state (led_back l.walk l.state);
  passed : (front : List MachineState) × (l.fn.state ∷ led_back l.fn.walk l.fn.state ≡ front ++ l.state ∷ led_back l.walk l.state);
  pages : page_numbers l.state.memory ≡ page_numbers l.fn.state.memory;
}

abbrev pub decreases-loop-walk : goal.decreases-loop-walk
decreases-loop-walk l = length l.walk
