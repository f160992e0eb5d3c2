use Rattle.std.proofs.Common.{◌≡◌, ℕ, ◌+◌, ◌*◌, ◌<◌, Some, vec_len}
use Rattle.std.specs.List.{slice_get}
use Rattle.rv_machine.specs.States.{state_number}
use Rattle.segment_sweep.proofs.marks.Marks.make.Given as goal

abbrev pub invariant-loop : goal.invariant-loop
invariant-loop g l = record {
  count : vec_len l.states ≡ l.counter + 1;
  state : l.state ≡ state_number l.start l.journal (l.counter * l.width);
  each : (i : ℕ) → i < l.counter + 1 → slice_get l.states.items i ≡ Some (state_number l.start l.journal (i * l.width));
  counted : l.steps ≡ l.fn.steps + l.counter * l.width;
}
