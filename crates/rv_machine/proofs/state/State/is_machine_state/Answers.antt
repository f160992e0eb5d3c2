use Rattle.std.proofs.Common.{subst}
use Rattle.rv_machine.specs.MachineState.{IsMachineState}
use Rattle.rv_machine.proofs.state.State.is_machine_state.Goals as goal

pub returns : goal.returns
returns c =
    let h = c.self.invariant in
    let numbers = c.are_below.ensures in
    subst IsMachineState c.self.view_is (record {
      pc = numbers.0;
      aligned = h.2;
      registers = h.0;
      words = c.are_words.ensures;
      zero = h.1;
      status = h.3;
      item = numbers.1;
      offset = numbers.2;
      written = numbers.3;
      memory = c.are_memory.ensures;
    })
