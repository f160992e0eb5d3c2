use Rattle.std.proofs.Common.{◌≡◌, ℕ, ◌<◌}
use Rattle.rv_pages.specs.Memory.{page_numbers}
use Rattle.rv_machine.specs.CodePage.{IsFound}
use Rattle.rv_machine.specs.States.{state_number}
use Rattle.rv_machine.specs.Watchers.{GoesOn}
use Rattle.rv_machine.proofs.stepping.go_until.Given as goal

-- so many steps on, and in no state before was the run stopped
abbrev pub invariant-loop-done : goal.invariant-loop-done
invariant-loop-done g l = record {
  states : l.state ≡ state_number l.fn.state l.journal l.done;
  found : IsFound (page_numbers l.fn.state.memory) l.code;
  mapped : page_numbers l.state.memory ≡ page_numbers l.fn.state.memory;
  before : (k : ℕ) → k < l.done → GoesOn (g.S.Stop.stops l.stop) l.journal (state_number l.fn.state l.journal k);
}
