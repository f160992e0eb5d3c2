use Rattle.std.proofs.Common.{◌≡◌, ℕ, ◌≤◌, List}
use Rattle.std.specs.Vec.{vec_len, vec_capacity}
use Rattle.rv_machine.specs.MachineState.{MachineState}
use Rattle.unit_digests.specs.Digests.{AreDigests, IsKnown}
use Rattle.unit_digests.proofs.sharing.make_room.Given as goal

abbrev pub invariant-loop : goal.invariant-loop
invariant-loop l = record {
  count : vec_len l.known ≡ l.counter;
  room : l.end ≤ vec_capacity l.known;
  known : (states : List MachineState) → AreDigests l.fn.known.items states → AreDigests l.known.items states;
  still : (n : ℕ) → IsKnown l.fn.known.items n → IsKnown l.known.items n;
  reserved : vec_capacity l.fn.known ≤ vec_capacity l.known;
}
