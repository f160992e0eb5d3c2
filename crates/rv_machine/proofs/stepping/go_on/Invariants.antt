use Rattle.std.proofs.Common.{◌≡◌}
use Rattle.rv_pages.specs.Memory.{page_numbers}
use Rattle.rv_machine.specs.CodePage.{IsFound}
use Rattle.rv_machine.specs.States.{state_number}
use Rattle.rv_machine.specs.Watchers.{AreNoted}
use Rattle.rv_machine.proofs.stepping.go_on.Given as goal

-- so many steps on, each of which was looked at
abbrev pub invariant-loop : goal.invariant-loop
invariant-loop g l = record {
  states : l.state ≡ state_number l.fn.state l.journal l.counter;
  found : IsFound (page_numbers l.fn.state.memory) l.code;
  mapped : page_numbers l.state.memory ≡ page_numbers l.fn.state.memory;
  noted : AreNoted g.W.Watch.noted l.fn.state l.journal l.counter l.fn.watch l.watch;
}
