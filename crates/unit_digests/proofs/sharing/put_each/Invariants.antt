use Rattle.std.proofs.Common.{◌≡◌, ℕ, ◌<◌, ◌≤◌, List, slice_get, Some}
use Rattle.std.specs.Vec.{vec_len, vec_capacity}
use Rattle.std.specs.List.{AllByRecursion}
use Rattle.rv_machine.specs.MachineState.{MachineState}
use Rattle.unit_digests.specs.declared.sharing.Taken.{Taken}
use Rattle.unit_digests.specs.Digests.{AreDigests, IsKnown}
use Rattle.unit_digests.specs.WorkDivision.{IsTaken}
use Rattle.unit_digests.proofs.sharing.put_each.Given as goal

abbrev pub invariant-loop-digest : goal.invariant-loop-digest
invariant-loop-digest l = record {
  known : (states : List MachineState) → AreDigests l.fn.known.items states → AllByRecursion (IsTaken states) l.taken → AreDigests l.known.items states;
  still : (n : ℕ) → IsKnown l.fn.known.items n → IsKnown l.known.items n;
  put : (k : ℕ) (t : Taken) → k < l.digest-index → slice_get l.taken k ≡ Some t → t.number < vec_len l.fn.known → IsKnown l.known.items t.number;
  len : vec_len l.known ≡ vec_len l.fn.known;
  reserved : vec_capacity l.fn.known ≤ vec_capacity l.known;
}
